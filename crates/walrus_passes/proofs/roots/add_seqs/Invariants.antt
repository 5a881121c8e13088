use Rattle.std.proofs.Common.{take}
use Rattle.std.specs.List.{flat_map}
use Rattle.walrus_functions.specs.Body.{sequence}
use Rattle.walrus_passes.specs.Steps.UsedTypes.{Lists, seq_types}
use Rattle.walrus_passes.proofs.roots.add_seqs.Given as goal

abbrev pub invariant-loop-id : goal.invariant-loop-id
invariant-loop-id l = Lists l.fn.roots.visitor (flat_map (λ id.
    seq_types l.fn.roots.visitor.locals.now (sequence l.func.body id)) (take l.id-index l.ids)) l.roots.visitor
