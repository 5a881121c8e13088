use Rattle.std.proofs.Common.{◌≡◌, ◌++◌, ◌∷◌, [], filter, false, sym, ap, subst, ◌∙◌}
use Rattle.std.specs.Prelude.{IfOk, IsTrue}
use Rattle.walrus_text.specs.Words.{has_items, words_of}
use Rattle.walrus_text.specs.Steps.Words.{words_if_any}
use Rattle.walrus_text.specs.Text.{BeginsSection}
use Rattle.walrus_text.specs.Steps.Builder.{builder_lines}
use Rattle.walrus_text.specs.Steps.Lines.{IsLine, line_words, line_words_if_any}
use Rattle.walrus_text.proofs.Gathering.Prefixes.{line_words_if_any_is, bad_line}
use Rattle.walrus_text.proofs.line_reader.LineReader.add_line.Goals as goal

pub returns-in-Some-clause-taken : goal.returns-in-Some-clause-taken
returns-in-Some-clause-taken c =
    let words : words_of c.as_slice.result.now ≡ line_words c.in-Some.line =
    rw c.in-Some.is at c.in_ok-line.ensures.found in
    let same : line_words_if_any c.in-Some.line ≡ words_if_any c.args.self.now.line.items =
    line_words_if_any_is c.in-Some.line ∙ ap (λ ws. filter has_items (ws ∷ [])) (sym words
    ∙ ap words_of c.as_slice.ensures.value) in
    subst (λ ls. IfOk c.add.result (λ taken. IsTrue taken →
    builder_lines c.add.new.self ≡ builder_lines c.args.self.now.section ++ ls)) same c.add.ensures.taken

pub returns-in-Some-clause-refused : goal.returns-in-Some-clause-refused
returns-in-Some-clause-refused c =
    let words : words_of c.as_slice.result.now ≡ line_words c.in-Some.line =
    rw c.in-Some.is at c.in_ok-line.ensures.found in
    let same : line_words_if_any c.in-Some.line ≡ words_if_any c.args.self.now.line.items =
    line_words_if_any_is c.in-Some.line ∙ ap (λ ws. filter has_items (ws ∷ [])) (sym words
    ∙ ap words_of c.as_slice.ensures.value) in
    subst (λ ls. IfOk c.add.result (λ taken. taken ≡ false →
    ¬ BeginsSection (builder_lines c.args.self.now.section ++ ls))) same c.add.ensures.refused

pub returns-in-None-clause-refused : goal.returns-in-None-clause-refused
returns-in-None-clause-refused c =
    let none : ¬ IsLine (words_of c.as_slice.result.now) = rw c.in-None.is at c.in_ok-line.ensures.none in
    λ _. bad_line c.args.self.now.section (words_of c.args.self.now.line.items)
    (subst (λ l. ¬ IsLine (words_of l)) c.as_slice.ensures.value none)
