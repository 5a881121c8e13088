use Rattle.std.proofs.Common.{◌≡◌, ℕ, List, [], ◌∷◌, ◌++◌, map, length, None, ap, sym, ◌∙◌, subst}
use Rattle.std.specs.List.{range_with_len}
use Rattle.std.proofs.lemmas.List.{length-map}
use Rattle.walrus_ty.specs.Definition.{Definition, rename}
use Rattle.walrus_ty.specs.Groups.{Rec}
use Rattle.walrus_ty.specs.Records.{entry_definition}
use Rattle.walrus_ty.specs.declared.records.EntryAt.{EntryAt}
use Rattle.walrus_sections.specs.FirstError.{group_error}
use Rattle.walrus_sections.specs.NormalForm.{image}
use Rattle.walrus_normal_form.specs.declared.slot_group.SlotGroup.{SlotGroup}
use Rattle.walrus_normal_form.specs.Steps.SectionReaders.{IsReadSoFar}
use Rattle.walrus_normal_form.proofs.Reading.ReaderCalls.{rec_pushed}
use Rattle.walrus_normal_form.proofs.read.Reader.push_rec.Goals as goal

pub returns-clause-ok : goal.returns-clause-ok
returns-clause-ok c = λ s is.
    (let ds : List Definition = map entry_definition c.args.entries in
    let slots : List ℕ = c.args.self.now.slots.items in
    let own : List ℕ = range_with_len c.len-first.result (length ds) in
    let many : c.len.result ≡ length ds = c.len.ensures ∙ sym (length-map c.args.entries entry_definition) in
    let fine : group_error c.len-first.result ds ≡ None =
    ap (λ (es : List EntryAt). group_error c.len-first.result (map entry_definition es))
    (sym c.as_slice.ensures) ∙ (sym c.first_error.ensures ∙ c.in_default.is) in
    let pushed : c.push_slots.new.slots.items ≡ slots ++ own =
    c.in_ok-push_slots.ensures ∙ ap (λ (k : ℕ). slots ++ range_with_len c.len-first.result k) many in
    let renamed : map entry_definition c.rename_entries.new.entries ≡ map (rename (image (slots ++ own))) ds =
    c.rename_entries.ensures
    ∙ ap (λ (r : List ℕ). map (rename (image r)) ds) (c.as_slice-2.ensures.value ∙ pushed) in
    subst (λ (r : List ℕ). IsReadSoFar (s ++ Rec ds ∷ []) r c.push.new.self.items
    c.args.self.now.lone.entries) (sym pushed)
    (subst (λ (gs : List SlotGroup). IsReadSoFar (s ++ Rec ds ∷ []) (slots ++ own) gs
    c.args.self.now.lone.entries) (sym c.in_ok-push.ensures.items)
    (rec_pushed s slots c.args.self.now.groups.items c.args.self.now.lone.entries
    c.args.self.now.lone.entries c.len-first.result is
    (c.len-first.ensures ∙ c.args.self.now.slots.ok.0) ds fine
    c.rename_entries.new.entries renamed)))
