use Rattle.std.proofs.Common.{arith}
use Rattle.std.proofs.lemmas.Result.{on_ok_weaker}
use Rattle.wasm_module.proofs.Padding.{last_byte, further_byte}
use Rattle.wasm_module.proofs.leb128.+push_integer.Goals.{else-number-end-via-then-number-end+else-least-le1, else-number-end-via-else-number-end}
use Rattle.wasm_module.proofs.leb128.+push_integer.Goals as goal

pub returns-then-least-le1 : goal.returns-then-least-le1
returns-then-least-le1 t c = last_byte c.args.end c.args.least c.args.number c.args.out.now.items
    c.push.new.self.items c.if-number-end.true c.if-least-le1.true c.in_ok-push.ensures.items

pub returns : goal.returns
returns t c =
    on_ok_weaker c.push_integer.result
    (λ a. further_byte c.args.end c.args.least c.saturating_sub.result c.args.number c.args.out.now.items
    c.push-2.new.self.items c.push_integer.new.out.items
    (λ lt. elim c.else-number-end.branch [
      | else-number-end-via-then-number-end+else-least-le1 w ↦ omega (arith, w.if-least-le1.false)
      | else-number-end-via-else-number-end w ↦ absurd (omega (arith, lt, w.if-number-end.false))
    ])
    c.saturating_sub.ensures c.in_ok-push-2.ensures.items a)
    c.push_integer.ensures
