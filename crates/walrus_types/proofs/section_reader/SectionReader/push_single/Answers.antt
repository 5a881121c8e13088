use Rattle.std.proofs.Common.{◌≡◌, ℕ, List, [], ◌∷◌, ◌++◌, map, None, ap, sym, ◌∙◌}
use Rattle.walrus_ty.specs.declared.records.EntryAt.{EntryAt}
use Rattle.walrus_sections.specs.FirstError.{group_error}
use Rattle.walrus_ty.specs.{IdLists.IdLists, Records.entry_definition}
use Rattle.walrus_types.proofs.Reading.ReaderCalls.{single_pushed}
use Rattle.walrus_types.proofs.section_reader.SectionReader.push_single.Goals as goal

pub returns-in-Ok-clause-ok : goal.returns-in-Ok-clause-ok
returns-in-Ok-clause-ok c =
    let fine : group_error c.type_count-index.result (entry_definition c.args.entry.now ∷ []) ≡ None =
    sym (ap (λ (es : List EntryAt). group_error c.type_count-index.result (map entry_definition es))
    c.from_ref.ensures.value) ∙ (sym c.first_error.ensures ∙ c.in_default.is) in
    rw (← c.self.view_is) (λ s is. single_pushed s c.self.inside.types c.read_single.new.types
    c.self.inside.ids.types c.push_type.new.self.types c.remap_type.new.self.types
    c.type_count-index.result c.in-Ok.id (entry_definition c.args.entry.now) is c.type_count-index.ensures
    (ap (λ (x : IdLists). x.types) c.in_ok-push_type.ensures.ok
    ∙ ap (λ (i : ℕ). c.self.inside.ids.types ++ i ∷ []) c.from_index.ensures)
    (ap (λ (x : IdLists). x.types) c.remap_type.ensures) fine c.in-Ok.ensures.ok)
