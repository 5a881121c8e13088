use Rattle.sametypes.proofs.Verdicts.{verdict_known}
use Rattle.sametypes.proofs.compare.Goals as goal

pub returns-in-Ok-write_verdict-clause-verdict : goal.returns-in-Ok-write_verdict-clause-verdict
returns-in-Ok-write_verdict-clause-verdict g c =
    verdict_known (g.A.Read.remaining c.args.a.now) (g.B.Read.remaining c.args.b.now)
    c.as_slice.result.now c.as_slice-2.result.now
    (rw c.as_slice.ensures.value c.in-Ok.ensures.normal)
    (rw c.as_slice-2.ensures.value c.in-Ok-read_normal_form.ensures.normal)
    c.index_of_difference-verdict.result c.index_of_difference-verdict.ensures.same
    c.index_of_difference-verdict.ensures.index
