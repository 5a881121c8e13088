use Rattle.std.proofs.Common.{sym, ◌∙◌}
use Rattle.std.specs.Prelude.{◌≡◌, None}
use Rattle.std.specs.Result.{result_ok}
use Rattle.walrus_text.proofs.Parsing.Indices.{not_text_none}
use Rattle.walrus_text.proofs.parse.value.type_index.Goals as goal
use Rattle.walrus_text.proofs.Basics.{if_none}

pub returns-in_err-ok-clause-none : goal.returns-in_err-ok-clause-none
returns-in_err-ok-clause-none c =
    let none : result_ok c.from_utf8.result ≡ None = sym c.ok.ensures.value ∙ c.in_err-ok.was in
    if_none c.from_residual.result _ (not_text_none c.args.word.now c.from_utf8.result _ _ none
    c.from_utf8.ensures.cases)
