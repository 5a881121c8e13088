use Rattle.std.proofs.Common.{◌≡◌, ℕ, List, ◌++◌, length, map, None, ap, sym, ◌∙◌}
use Rattle.std.specs.List.{range_with_len}
use Rattle.std.proofs.lemmas.List.{length-map}
use Rattle.walrus_ty.specs.{Definition.Definition, IdLists.IdLists, Records.entry_definition}
use Rattle.walrus_sections.specs.FirstError.{group_error}
use Rattle.walrus_types.proofs.Reading.ReaderCalls.{rec_pushed}
use Rattle.walrus_types.proofs.section_reader.SectionReader.push_rec.Goals as goal

pub returns-in-Ok-clause-ok : goal.returns-in-Ok-clause-ok
returns-in-Ok-clause-ok c =
    let ds : List Definition = map entry_definition c.args.entries.now in
    let fine : group_error c.type_count-first.result ds ≡ None = sym c.first_error.ensures
    ∙ c.in_default.is in
    let many : length c.args.entries.now ≡ length ds = sym (length-map c.args.entries.now entry_definition) in
    rw (← c.self.view_is) (λ s is. rec_pushed s c.self.inside.types c.read_rec.new.types
    c.self.inside.ids.types c.push_types.new.self.types c.type_count-first.result ds is
    c.type_count-first.ensures
    (ap (λ (x : IdLists). x.types) c.in_ok-push_types.ensures.ok
    ∙ ap (λ (n : ℕ). c.self.inside.ids.types ++ range_with_len c.type_count-first.result n) many)
    fine c.in-Ok.ensures.ok)
