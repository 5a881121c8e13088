use Rattle.std.proofs.Common.{rules}
use Rattle.walrus_normal_form_check.proofs.verify.is_normal_form.Goals as goal

pub returns : goal.returns
returns c = search rules
