-- Lines with which no text of a section begins.
use Rattle.std.proofs.Common.{◌≡◌, ◌≢◌, ℕ, Bool, true, false, List, [], ◌∷◌, ◌++◌, map, filter, refl, sym, ◌∙◌, ap, subst, arith, append_assoc, append-nil}
use Rattle.std.specs.Prelude.{Option, Some, None, IsSome, codes}
use Rattle.std.proofs.lemmas.Bool.{false≢true}
use Rattle.std.proofs.lemmas.Grind.{flat_map-append}
use Rattle.std.specs.List.{AllByRecursion}
use Rattle.std.specs.declared.vec.Vec.{Vec}
use Rattle.std.specs.declared.alloc.Global.{Global}
use Rattle.walrus_ty.specs.declared.records.CompAt.{CompAt}
use Rattle.walrus_ty.specs.declared.records.CompAt.TheVariants as comp
use Rattle.walrus_ty.specs.declared.records.EntryAt.{EntryAt}
use Rattle.walrus_ty.specs.declared.records.GroupAt.{GroupAt}
use Rattle.walrus_ty.specs.declared.records.GroupAt.TheVariants as group
use Rattle.walrus_ty.specs.Definition.{names_of}
use Rattle.walrus_ty.specs.Records.{entry_definition}
use Rattle.walrus_text.specs.declared.section_builder.SectionBuilder.{SectionBuilder}
use Rattle.walrus_text.specs.declared.parse.line.Line.{Line}
use Rattle.walrus_text.specs.declared.parse.line.Line.TheVariants as line
use Rattle.walrus_text.specs.Words.{has_items}
use Rattle.walrus_text.specs.Steps.Lines.{IsLine, line_words, line_words_if_any}
use Rattle.walrus_text.specs.Steps.Builder.{builder_lines, open_lines, HasBuilderIndices, HasOpenIndices}
use Rattle.walrus_text.specs.Text.{AreIndices, BeginsSection, HasGroupIndices, IsSectionText, open_words, supertype_words, composite_words, entry_words, group_lines, rec_lines, section_lines}
use Rattle.walrus_text.proofs.Basics.{all_both}

abbrev Lines : Type 0
Lines = List (List (List ℕ))

abbrev Fits : EntryAt → Type 0
Fits e = AreIndices (names_of (entry_definition e))

-- the first byte of the first word
abbrev byte_of : List (List ℕ) → ℕ
byte_of [] = 0
byte_of ([] ∷ ws) = 0
byte_of ((b ∷ w) ∷ ws) = b

abbrev pub first_line : Lines → List (List ℕ)
first_line [] = []
first_line (l ∷ ls) = l

abbrev pub later_lines : Lines → Lines
later_lines [] = []
later_lines (l ∷ ls) = ls

abbrev has_lines : Lines → ℕ
has_lines [] = 0
has_lines (l ∷ ls) = 1

-- an entry begins with none of these bytes
apart : (b : Bool) (s : Option ℕ) (c : CompAt) (ws : List (List ℕ)) (k : ℕ) → byte_of ws ≡ k →
    ¬ (111 ≡ k) → ¬ (115 ≡ k) → ¬ (102 ≡ k) → ¬ (97 ≡ k) →
    open_words b ++ (supertype_words s ++ composite_words c) ≡ ws → ⊥
apart false s c ws k at o u f a e = o (ap byte_of e ∙ at)
apart true (Some j) c ws k at o u f a e = u (ap byte_of e ∙ at)
apart true None (comp.Function ps rs) ws k at o u f a e = f (ap byte_of e ∙ at)
apart true None (comp.Struct fs) ws k at o u f a e = u (ap byte_of e ∙ at)
apart true None (comp.Array g) ws k at o u f a e = a (ap byte_of e ∙ at)

pub not_rec : (e : EntryAt) → entry_words e ≢ codes "rec" ∷ []
not_rec e = apart e.is_final e.supertype e.comp (codes "rec" ∷ []) 114 refl (λ k. omega (arith, k)) (λ k.
    omega (arith, k)) (λ k. omega (arith, k)) (λ k. omega (arith, k))

pub not_end : (e : EntryAt) → entry_words e ≢ codes "end" ∷ []
not_end e = apart e.is_final e.supertype e.comp (codes "end" ∷ []) 101 refl (λ k. omega (arith, k)) (λ k.
    omega (arith, k)) (λ k. omega (arith, k)) (λ k. omega (arith, k))

not_empty : (e : EntryAt) → entry_words e ≢ []
not_empty e = apart e.is_final e.supertype e.comp [] 0 refl (λ k. omega (arith, k)) (λ k. omega (arith, k))
    (λ k. omega (arith, k)) (λ k. omega (arith, k))

not_null_first : (e : EntryAt) (w : List ℕ) (ws : List (List ℕ)) → entry_words e ≢ (0 ∷ w) ∷ ws
not_null_first e w ws = apart e.is_final e.supertype e.comp ((0 ∷ w) ∷ ws) 0 refl (λ k. omega (arith, k))
    (λ k. omega (arith, k)) (λ k. omega (arith, k)) (λ k. omega (arith, k))

pub rec_not_end : codes "rec" ∷ [] ≢ codes "end" ∷ []
rec_not_end e = let k : 114 ≡ 101 = ap byte_of e in omega (arith, k)

pub not_none : (l : List (List ℕ)) (ls : Lines) → l ∷ ls ≢ []
not_none l ls e = let k : 1 ≡ 0 = ap has_lines e in omega (arith, k)

-- no line of a section begins with a null byte
pub null_first :
    (w : List ℕ) (ws : List (List ℕ)) (ls : Lines) (groups : List GroupAt) →
    ((0 ∷ w) ∷ ws) ∷ ls ≢ section_lines groups
null_first w ws ls [] e = not_none _ _ e
null_first w ws ls (group.Single d ∷ s) e = not_null_first d w ws (sym (ap first_line e))
null_first w ws ls (group.Rec es ∷ s) e = let k : 0 ≡ 114 = ap (λ l. byte_of (first_line l)) e in
    omega (arith, k)

-- what stands after some entries of a recursion group: more entries, its end, and more groups
abbrev FollowsEntries : Lines → Type 0
FollowsEntries X = (rest : List EntryAt) × AllByRecursion Fits rest × (after : List GroupAt)
    × AllByRecursion HasGroupIndices after × (X ≡ map entry_words rest ++ (codes "end" ∷ []) ∷ section_lines
    after)

span_entries :
    (es fs : List EntryAt) (X : Lines) (after : List GroupAt) → AllByRecursion Fits fs →
    AllByRecursion HasGroupIndices after →
    map entry_words es ++ X ≡ map entry_words fs ++ (codes "end" ∷ []) ∷ section_lines after →
    FollowsEntries X
span_entries [] fs X after fits others e = (fs, fits, after, others, e)
span_entries (x ∷ es) [] X after fits others e = absurd (not_end x (ap first_line e))
span_entries (x ∷ es) (f ∷ fs) X after fits others e =
    span_entries es fs X after fits.1 others (ap later_lines e)

after_end : (X : Lines) → FollowsEntries ((codes "end" ∷ []) ∷ X) → IsSectionText X
after_end X ([], fits, after, others, e) = (after, others, ap later_lines e)
after_end X (f ∷ rest, fits, after, others, e) = absurd (not_end f (sym (ap first_line e)))

-- the entries of the first group, if it is a recursion group
in_rec :
    (es : List EntryAt) (X : Lines) →
    IsSectionText (((codes "rec" ∷ []) ∷ map entry_words es) ++ X) → FollowsEntries X
in_rec es X ([], fits, e) = absurd (not_none _ _ e)
in_rec es X (group.Single f ∷ s, fits, e) = absurd (not_rec f (sym (ap first_line e)))
in_rec es X (group.Rec fs ∷ s, fits, e) = span_entries es fs X s fits.0 fits.1 (ap later_lines e
    ∙ append_assoc (map entry_words fs) ((codes "end" ∷ []) ∷ []) (section_lines s))

after_group : (g : GroupAt) (X : Lines) → IsSectionText (group_lines g ++ X) → IsSectionText X
after_group (group.Single d) X ([], fits, e) = absurd (not_none _ _ e)
after_group (group.Single d) X (group.Single f ∷ s, fits, e) = (s, fits.1, ap later_lines e)
after_group (group.Single d) X (group.Rec fs ∷ s, fits, e) = absurd (not_rec d (ap first_line e))
after_group (group.Rec es) X h =
    let whole : rec_lines es ++ X ≡ ((codes "rec" ∷ []) ∷ map entry_words es) ++ (codes "end" ∷ []) ∷ X =
    ap (λ ls. (codes "rec" ∷ []) ∷ ls) (append_assoc (map entry_words es) ((codes "end" ∷ []) ∷ []) X) in
    after_end X (in_rec es ((codes "end" ∷ []) ∷ X) (subst IsSectionText whole h))

after_groups :
    (gs : List GroupAt) (X : Lines) → IsSectionText (section_lines gs ++ X) → IsSectionText X
after_groups [] X h = h
after_groups (g ∷ gs) X h = after_groups gs X
    (after_group g (section_lines gs ++ X) (subst IsSectionText
    (append_assoc (group_lines g) (section_lines gs) X) h))

-- what can follow the lines so far can follow those of the open group
goes_on :
    (g : SectionBuilder) (X : Lines) → IsSectionText (builder_lines g ++ X) →
    IsSectionText (open_lines g.open ++ X)
goes_on g X h = after_groups g.groups.items (open_lines g.open ++ X)
    (subst IsSectionText (append_assoc (section_lines g.groups.items) (open_lines g.open) X) h)

rec_in_rec : (X : Lines) → ¬ FollowsEntries ((codes "rec" ∷ []) ∷ X)
rec_in_rec X ([], fits, after, others, e) = rec_not_end (ap first_line e)
rec_in_rec X (f ∷ rest, fits, after, others, e) = not_rec f (sym (ap first_line e))

nothing_in_rec : ¬ FollowsEntries []
nothing_in_rec ([], fits, after, others, e) = not_none _ _ (sym e)
nothing_in_rec (f ∷ rest, fits, after, others, e) = not_none _ _ (sym e)

end_first : (X : Lines) → ¬ IsSectionText ((codes "end" ∷ []) ∷ X)
end_first X ([], fits, e) = not_none _ _ e
end_first X (group.Single f ∷ s, fits, e) = not_end f (sym (ap first_line e))
end_first X (group.Rec fs ∷ s, fits, e) = rec_not_end (sym (ap first_line e))

bad_in_rec : (ws : List (List ℕ)) (X : Lines) → ¬ IsLine ws → ¬ FollowsEntries (ws ∷ X)
bad_in_rec ws X bad ([], fits, after, others, e) = bad (line.End, tt, ap first_line e)
bad_in_rec ws X bad (f ∷ rest, fits, after, others, e) = bad (line.Entry f, fits.0, ap first_line e)

bad_first : (ws : List (List ℕ)) (X : Lines) → ¬ IsLine ws → ¬ IsSectionText (ws ∷ X)
bad_first ws X bad ([], fits, e) = not_none _ _ e
bad_first ws X bad (group.Single f ∷ s, fits, e) = bad (line.Entry f, fits.0, ap first_line e)
bad_first ws X bad (group.Rec fs ∷ s, fits, e) = bad (line.Begin, tt, ap first_line e)

-- `rec` where a recursion group is open
pub second_rec :
    (g : SectionBuilder) → IsSome g.open →
    ¬ BeginsSection (builder_lines g ++ (codes "rec" ∷ []) ∷ [])
second_rec g some (more, h) =
    by_open g.open some (goes_on g ((codes "rec" ∷ []) ∷ more)
    (subst IsSectionText (append_assoc (builder_lines g) ((codes "rec" ∷ []) ∷ []) more) h)) where
      by_open : (o : Option (Vec EntryAt Global)) → IsSome o →
          IsSectionText (open_lines o ++ (codes "rec" ∷ []) ∷ more) → ⊥
      by_open None some k = false≢true some
      by_open (Some es) some k = rec_in_rec more (in_rec es.items ((codes "rec" ∷ []) ∷ more) k)

-- `end` where none is
pub early_end :
    (g : SectionBuilder) → g.open ≡ None →
    ¬ BeginsSection (builder_lines g ++ (codes "end" ∷ []) ∷ [])
early_end g none (more, h) =
    end_first more (subst (λ o. IsSectionText (open_lines o ++ (codes "end" ∷ []) ∷ more)) none
    (goes_on g ((codes "end" ∷ []) ∷ more) (subst IsSectionText
    (append_assoc (builder_lines g) ((codes "end" ∷ []) ∷ []) more) h)))

-- a recursion group that is open at the end
pub still_open : (g : SectionBuilder) → IsSome g.open → ¬ IsSectionText (builder_lines g)
still_open g some h =
    by_open g.open some (goes_on g [] (subst IsSectionText (sym (append-nil (builder_lines g))) h)) where
      by_open : (o : Option (Vec EntryAt Global)) → IsSome o → IsSectionText (open_lines o ++ []) → ⊥
      by_open None some k = false≢true some
      by_open (Some es) some k = nothing_in_rec (in_rec es.items [] k)

no_bad_line :
    (o : Option (Vec EntryAt Global)) (ws : List (List ℕ)) (more : Lines) → ¬ IsLine ws →
    ¬ IsSectionText (open_lines o ++ ws ∷ more)
no_bad_line None ws more bad h = bad_first ws more bad h
no_bad_line (Some es) ws more bad h = bad_in_rec ws more bad (in_rec es.items (ws ∷ more) h)

some_words : (ws : List (List ℕ)) → ws ≢ [] → filter has_items (ws ∷ []) ≡ ws ∷ []
some_words [] some = absurd (some refl)
some_words (w ∷ ws) some = refl

-- a line that is none of a section's
pub bad_line :
    (g : SectionBuilder) (ws : List (List ℕ)) → ¬ IsLine ws →
    ¬ BeginsSection (builder_lines g ++ filter has_items (ws ∷ []))
bad_line g ws bad =
    let some : ws ≢ [] = λ e. bad (line.Blank, tt, e) in
    subst (λ ls. ¬ BeginsSection (builder_lines g ++ ls)) (sym (some_words ws some)) (λ k.
    no_bad_line g.open ws k.0 bad (goes_on g (ws ∷ k.0)
    (subst IsSectionText (append_assoc (builder_lines g) (ws ∷ []) k.0) k.1)))

-- a line of a section among those that have words
pub line_words_if_any_is : (l : Line) → line_words_if_any l ≡ filter has_items (line_words l ∷ [])
line_words_if_any_is line.Blank = refl
line_words_if_any_is line.Begin = refl
line_words_if_any_is line.End = refl
line_words_if_any_is (line.Entry e) = sym (some_words (entry_words e) (not_empty e))

-- one more group
pub groups_more :
    (gs : List GroupAt) (g : GroupAt) → AllByRecursion HasGroupIndices gs → HasGroupIndices g →
    AllByRecursion HasGroupIndices (gs ++ g ∷ [])
groups_more gs g h k = all_both HasGroupIndices gs (g ∷ []) h (k, tt)

-- one more entry
pub entries_more :
    (es : List EntryAt) (e : EntryAt) → AllByRecursion Fits es → Fits e →
    AllByRecursion Fits (es ++ e ∷ [])
entries_more es e h k = all_both Fits es (e ∷ []) h (k, tt)

begins :
    (gs : List GroupAt) (o : Option (Vec EntryAt Global)) → AllByRecursion HasGroupIndices gs →
    HasOpenIndices o → BeginsSection (section_lines gs ++ open_lines o)
begins gs None fits none =
    ([], (gs, fits, append-nil (section_lines gs ++ []) ∙ append-nil (section_lines gs)))
begins gs (Some es) fits unended =
    let lines = (codes "rec" ∷ []) ∷ map entry_words es.items in
    let whole : section_lines (gs ++ group.Rec es.items ∷ []) ≡ section_lines gs ++ rec_lines es.items =
    flat_map-append group_lines gs (group.Rec es.items ∷ [])
    ∙ ap (λ ls. section_lines gs ++ ls) (append-nil (rec_lines es.items)) in (
      (codes "end" ∷ []) ∷ [],
      (
        gs ++ group.Rec es.items ∷ [],
        groups_more gs (group.Rec es.items) fits unended,
        append_assoc (section_lines gs) lines ((codes "end" ∷ []) ∷ []) ∙ sym whole,
      ),
    )

-- what a builder was built from begins a section
pub builder_begins : (g : SectionBuilder) → HasBuilderIndices g → BeginsSection (builder_lines g)
builder_begins g fits = begins g.groups.items g.open fits.0 fits.1
