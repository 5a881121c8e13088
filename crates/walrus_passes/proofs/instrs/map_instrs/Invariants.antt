use Rattle.walrus_passes.specs.MappedInstrs.{IsMappedSequence, Leaves}
use Rattle.walrus_passes.proofs.Mapping.{Mapped, IsWithSequences}
use Rattle.walrus_passes.proofs.instrs.map_instrs.Given as goal

abbrev pub invariant-loop-index : goal.invariant-loop-index
invariant-loop-index g l =
    Mapped (IsMappedSequence (Leaves (goal.F-post g l.change))) l.initial.func.body.seqs l.func.body.seqs
    l.index
    × IsWithSequences l.initial.func l.func
