use Rattle.std.proofs.Common.{length}
use Rattle.wasm_module.proofs.NameSections.{IsSectionUpTo}
use Rattle.wasm_module.proofs.name_section.rename_subsections.Given as goal

abbrev pub invariant-loop-rest : goal.invariant-loop-rest
invariant-loop-rest l = IsSectionUpTo l.fn.new_indices l.fn.widths l.fn.content l.unwritten l.rest l.out.items

abbrev pub decreases-loop-rest : goal.decreases-loop-rest
decreases-loop-rest l = length l.rest
