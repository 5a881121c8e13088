use Rattle.std.proofs.lemmas.Result.{IfOk-weaker}
use Rattle.walrus_normal_form.proofs.Clones.{group_same}
use Rattle.walrus_normal_form.proofs.normal_form.copy_of.Goals as goal

pub returns : goal.returns
returns c = IfOk-weaker c.to_vec.result _ _ (λ v same. same group_same) c.to_vec.ensures.items_if_clones_equal
