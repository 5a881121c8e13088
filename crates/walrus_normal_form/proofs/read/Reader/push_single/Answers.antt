use Rattle.std.proofs.Common.{◌≡◌, ℕ, List, [], ◌∷◌, ◌++◌, map, None, ap, sym, ◌∙◌, subst, slice_set}
use Rattle.walrus_ty.specs.Definition.{Definition, rename}
use Rattle.walrus_ty.specs.Groups.{Single}
use Rattle.walrus_ty.specs.Records.{entry_definition}
use Rattle.walrus_ty.specs.declared.records.EntryAt.{EntryAt}
use Rattle.walrus_sections.specs.FirstError.{group_error}
use Rattle.walrus_sections.specs.NormalForm.{image}
use Rattle.walrus_normal_form.specs.declared.slot_group.SlotGroup.{SlotGroup}
use Rattle.walrus_normal_form.specs.Steps.SectionReaders.{IsReadSoFar}
use Rattle.walrus_normal_form.proofs.Reading.ReaderCalls.{single_found, single_absent}
use Rattle.walrus_normal_form.proofs.read.Reader.push_single.Goals as goal

pub returns-in-Some-get-clause-ok : goal.returns-in-Some-get-clause-ok
returns-in-Some-get-clause-ok c = λ s is.
    (let d : Definition = entry_definition c.args.entry in
    let fine : group_error c.len-index.result (d ∷ []) ≡ None =
    sym (ap (λ (es : List EntryAt). group_error c.len-index.result (map entry_definition es))
    c.from_ref.ensures.value) ∙ (sym c.first_error.ensures ∙ c.in_default.is) in
    let pushed = c.in_ok-push.ensures.items in
    let renamed : entry_definition c.rename_entry.new.entry ≡
    rename (image (c.args.self.now.slots.items ++ c.len-index.result ∷ [])) d =
    c.rename_entry.ensures ∙ ap (λ (r : List ℕ). rename (image r) d) (c.as_slice.ensures.value ∙ pushed) in
    subst (λ (r : List ℕ). IsReadSoFar (s ++ Single d ∷ [])
    (slice_set r c.len-index.result c.in-Some-get.equal.now.first) c.args.self.now.groups.items
    c.find_or_insert.new.lone.entries) (sym pushed)
    (single_found s c.args.self.now.slots.items c.args.self.now.groups.items c.args.self.now.lone.entries
    c.find_or_insert.new.lone.entries c.len-index.result is
    (c.len-index.ensures ∙ c.args.self.now.slots.ok.0) d fine
    c.rename_entry.new.entry renamed c.len.result c.in_ok-place.place
    (c.len.ensures ∙ c.args.self.now.groups.ok.0) c.in_ok-place.ensures.place c.in_ok-place.ensures.places
    c.in-Some-get.equal.now c.deref.result.now c.deref.ensures.value
    c.in-Some-get.ensures.lookup.3.0 c.in-Some-get.ensures.lookup.1))

pub returns-in_ok-push-in-None-clause-ok : goal.returns-in_ok-push-in-None-clause-ok
returns-in_ok-push-in-None-clause-ok c = λ s is.
    (let d : Definition = entry_definition c.args.entry in
    let fine : group_error c.len-index.result (d ∷ []) ≡ None =
    sym (ap (λ (es : List EntryAt). group_error c.len-index.result (map entry_definition es))
    c.from_ref.ensures.value) ∙ (sym c.first_error.ensures ∙ c.in_default.is) in
    let pushed = c.in_ok-push.ensures.items in
    let renamed : entry_definition c.rename_entry.new.entry ≡
    rename (image (c.args.self.now.slots.items ++ c.len-index.result ∷ [])) d =
    c.rename_entry.ensures ∙ ap (λ (r : List ℕ). rename (image r) d) (c.as_slice.ensures.value ∙ pushed) in
    subst (λ (r : List ℕ). IsReadSoFar (s ++ Single d ∷ []) r c.push-in-None.new.self.items
    c.find_or_insert.new.lone.entries) (sym pushed)
    (subst (λ (gs : List SlotGroup). IsReadSoFar (s ++ Single d ∷ [])
    (c.args.self.now.slots.items ++ c.len-index.result ∷ []) gs
    c.find_or_insert.new.lone.entries) (sym c.in_ok-push-in-None.ensures.items)
    (single_absent s c.args.self.now.slots.items c.args.self.now.groups.items c.args.self.now.lone.entries
    c.find_or_insert.new.lone.entries c.len-index.result is
    (c.len-index.ensures ∙ c.args.self.now.slots.ok.0) d fine
    c.rename_entry.new.entry renamed c.len.result c.in_ok-place.place
    (c.len.ensures ∙ c.args.self.now.groups.ok.0) c.in_ok-place.ensures.place c.in_ok-place.ensures.places
    c.without_record.result c.without_record.ensures c.deref.result.now c.deref.ensures.value
    c.in-None.ensures.lookup.3)))
