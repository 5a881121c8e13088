use Rattle.std.proofs.Common.{◌++◌, take}
use Rattle.std.specs.List.{flat_map}
use Rattle.walrus_ty.specs.Definition.{supertype_names}
use Rattle.ir_instr.specs.BlockTypes.{block_type_name}
use Rattle.walrus_passes.specs.UsedTypes.{instr_types}
use Rattle.walrus_passes.specs.Steps.UsedTypes.{Lists}
use Rattle.walrus_passes.proofs.roots.add_seq.Given as goal

abbrev pub invariant-loop-instr : goal.invariant-loop-instr
invariant-loop-instr l = Lists l.fn.roots.visitor (supertype_names (block_type_name l.seq.ty) ++ flat_map (λ x.
    instr_types l.fn.roots.visitor.locals.now x.0) (take l.instr-index l.instr-items)) l.roots.visitor
