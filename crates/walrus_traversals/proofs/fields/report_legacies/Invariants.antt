use Rattle.std.proofs.Common.{take}
use Rattle.std.specs.List.{flat_map, FoldsTo}
use Rattle.walrus_ir.specs.Calls.{reported}
use Rattle.walrus_ir.specs.Fields.{legacy_fields}
use Rattle.walrus_traversals.proofs.fields.report_legacies.Given as goal

abbrev pub invariant-loop-clause : goal.invariant-loop-clause
invariant-loop-clause g l =
    FoldsTo g.V.Visitor.step l.initial.visitor
    (flat_map (λ x. reported (legacy_fields x)) (take l.clause-index l.clauses)) l.visitor
