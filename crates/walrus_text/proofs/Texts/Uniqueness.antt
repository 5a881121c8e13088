-- One text is of one section, and a text with a null byte first is of none.
use Rattle.std.proofs.Common.{◌≡◌, ◌≢◌, ℕ, List, [], ◌∷◌, ◌++◌, map, refl, sym, ◌∙◌, ap, append_assoc}
use Rattle.std.specs.Prelude.{codes}
use Rattle.std.specs.List.{AllByRecursion}
use Rattle.walrus_ty.specs.declared.records.EntryAt.{EntryAt}
use Rattle.walrus_ty.specs.declared.records.GroupAt.{GroupAt}
use Rattle.walrus_ty.specs.declared.records.GroupAt.TheVariants as group
use Rattle.walrus_ty.specs.Definition.{names_of}
use Rattle.walrus_ty.specs.Records.{entry_definition}
use Rattle.walrus_text.specs.Words.{lines_of}
use Rattle.walrus_text.specs.Text.{AreIndices, HasSectionIndices, IsTextOf, entry_words, section_lines}
use Rattle.walrus_text.proofs.Lexing.Spacing.{lines-first_byte}
use Rattle.walrus_text.proofs.Gathering.Prefixes.{first_line, later_lines, not_rec, not_end, not_none, null_first}
use Rattle.walrus_text.proofs.Texts.ReadBack.{same_entry}

abbrev Lines : Type 0
Lines = List (List (List ℕ))

abbrev Fits : EntryAt → Type 0
Fits e = AreIndices (names_of (entry_definition e))

same_entries :
    (es fs : List EntryAt) (X Y : Lines) → AllByRecursion Fits es → AllByRecursion Fits fs →
    map entry_words es ++ (codes "end" ∷ []) ∷ X ≡ map entry_words fs ++ (codes "end" ∷ []) ∷ Y →
    (es ≡ fs) × (X ≡ Y)
same_entries [] [] X Y fits others e = (refl, ap later_lines e)
same_entries [] (f ∷ fs) X Y fits others e = absurd (not_end f (sym (ap first_line e)))
same_entries (d ∷ es) [] X Y fits others e = absurd (not_end d (ap first_line e))
same_entries (d ∷ es) (f ∷ fs) X Y fits others e =
    let more = same_entries es fs X Y fits.1 others.1 (ap later_lines e) in (
      ap (λ (x : EntryAt). x ∷ es) (same_entry d f fits.0 others.0 (ap first_line e))
          ∙ ap (λ (xs : List EntryAt). f ∷ xs) more.0,
      more.1,
    )

pub same_section :
    (a b : List GroupAt) → HasSectionIndices a → HasSectionIndices b →
    section_lines a ≡ section_lines b → a ≡ b
same_section [] [] fits others e = refl
same_section [] (group.Single f ∷ b) fits others e = absurd (not_none _ _ (sym e))
same_section [] (group.Rec fs ∷ b) fits others e = absurd (not_none _ _ (sym e))
same_section (group.Single d ∷ a) [] fits others e = absurd (not_none _ _ e)
same_section (group.Rec es ∷ a) [] fits others e = absurd (not_none _ _ e)
same_section (group.Single d ∷ a) (group.Single f ∷ b) fits others e =
    ap (λ (x : EntryAt). group.Single x ∷ a) (same_entry d f fits.0 others.0 (ap first_line e))
    ∙ ap (λ (gs : List GroupAt). group.Single f ∷ gs) (same_section a b fits.1 others.1 (ap later_lines e))
same_section (group.Single d ∷ a) (group.Rec fs ∷ b) fits others e = absurd (not_rec d (ap first_line e))
same_section (group.Rec es ∷ a) (group.Single f ∷ b) fits others e =
    absurd (not_rec f (sym (ap first_line e)))
same_section (group.Rec es ∷ a) (group.Rec fs ∷ b) fits others e =
    let ends = sym (append_assoc (map entry_words es) ((codes "end" ∷ []) ∷ []) (section_lines a))
    ∙ (ap later_lines e ∙ append_assoc (map entry_words fs) ((codes "end" ∷ []) ∷ []) (section_lines b))
    in
    let parts = same_entries es fs (section_lines a) (section_lines b) fits.0 others.0 ends in
    ap (λ (xs : List EntryAt). group.Rec xs ∷ a) parts.0
    ∙ ap (λ (gs : List GroupAt). group.Rec fs ∷ gs) (same_section a b fits.1 others.1 parts.1)

pub one_section :
    (text : List ℕ) (a b : List GroupAt) → IsTextOf text a → IsTextOf text b → a ≡ b
one_section text a b h k = same_section a b h.fits k.fits (sym h.lines ∙ k.lines)

pub null_byte_first : (rest : List ℕ) (groups : List GroupAt) → lines_of (0 ∷ rest) ≢ section_lines groups
null_byte_first rest groups h =
    let (w, ws, ls, e) = lines-first_byte 0 rest refl refl in
    null_first w ws ls groups (sym e ∙ h)
