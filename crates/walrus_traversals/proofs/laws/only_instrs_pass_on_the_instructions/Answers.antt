use Rattle.walrus_traversals.specs.Instrs.{instr_in}
use Rattle.walrus_traversals.proofs.PassingOn.{passed_on}
use Rattle.walrus_traversals.proofs.laws.only_instrs_pass_on_the_instructions.Goals as goal

pub returns : goal.returns
returns g c es h = passed_on instr_in g.V.InstrVisitor.step es c.args.old.now c.args.new.now h
