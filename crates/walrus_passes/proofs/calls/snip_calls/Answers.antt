use Rattle.std.proofs.Common.{rules}
use Rattle.walrus_passes.proofs.Mapping.{IsMapped-weaker}
use Rattle.walrus_passes.proofs.calls.snip_calls.Goals as goal

pub returns : goal.returns
returns c =
    IsMapped-weaker _ _ c.args.func.now c.map_instrs.new.func c.map_instrs.ensures (λ x y l. search rules)
