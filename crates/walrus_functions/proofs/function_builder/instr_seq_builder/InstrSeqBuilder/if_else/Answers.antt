use Rattle.std.proofs.Common.{◌∙◌, rules}
use Rattle.walrus_functions.specs.NestedForms.{FailsToAttach, at_end}
use Rattle.walrus_functions.proofs.NestingLemmas.{both_not}
use Rattle.walrus_functions.proofs.function_builder.instr_seq_builder.InstrSeqBuilder.if_else.Goals as goal

pub returns-clause-err : goal.returns-clause-err
returns-clause-err g c =
    let same = c.fill_new-2.ensures.same.0 ∙ c.fill_new.ensures.same.0 in
    both_not _ _ c.args.ty c.args.self.now.builder.now _ _ _ (λ p f e. FailsToAttach f (at_end p) e) _ _
    c.attach.result same c.in_ok-first.ensures.ok c.in_ok-second.ensures.ok c.attach.ensures.err

pub returns-clause-ok : goal.returns-clause-ok
returns-clause-ok c = search rules
