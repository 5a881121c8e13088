use Rattle.std.proofs.lemmas.Result.{on_ok_weaker}
use Rattle.walrus_passes.proofs.UsedTypes.{instr_listed}
use Rattle.walrus_passes.proofs.roots.add_instr.Goals as goal

pub returns : goal.returns
returns c =
    on_ok_weaker c.add_unvisited.result (instr_listed c.args.instr.now c.args.roots.now c.report_fields.new.visitor
    c.add_unvisited.new.self c.in_ok-report_fields.ensures.ok) c.add_unvisited.ensures
