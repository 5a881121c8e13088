use Rattle.std.proofs.Common.{ap, ◌∙◌, ◌++◌, List, arith, ◌<◌}
use Rattle.wasm_module.specs.declared.kind.Kind.{Kind}
use Rattle.wasm_module.specs.Immediates.{times}
use Rattle.wasm_module.proofs.Stacks.{put_below}
use Rattle.wasm_module.proofs.stack.Stack.push_times.Goals as goal

pub returns : goal.returns
returns c =
    let s = c.self.inside in
    let some : 0 < s.count = omega (arith, c.if-self-eq0.false) in
    ap (λ (u : List Kind). times c.args.count c.args.kind ++ u)
    (put_below s.count s.kind s.below.items c.push.new.self.items some c.in_ok-push.ensures.items
    ∙ c.self.view_is)
