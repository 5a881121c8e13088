use Rattle.std.proofs.lemmas.Result.{on_ok_weaker}
use Rattle.wasm_binary.proofs.Shortest.{one_byte, further}
use Rattle.wasm_binary.proofs.leb128.+push_integer.Goals as goal

pub returns-then-number-end : goal.returns-then-number-end
returns-then-number-end t c = one_byte c.args.out.now.items c.push.new.self.items c.args.end c.args.number
    c.if-number-end.true c.in_ok-push.ensures.items

pub returns : goal.returns
returns t c =
    on_ok_weaker c.push_integer.result
    (further c.args.out.now.items c.push-2.new.self.items c.push_integer.new.out.items c.args.end
    c.args.number c.if-number-end.false c.in_ok-push-2.ensures.items)
    c.push_integer.ensures
