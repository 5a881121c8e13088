-- Maps from types to names, from the front of bytes and written again.
use Rattle.std.proofs.Common.{◌≡◌, ℕ, suc, ◌+◌, ◌-◌, ◌<◌, ◌≤◌, List, [], ◌∷◌, ◌++◌, length, map, Some, None, Ok, refl, sym, ap, subst, ◌∙◌, arith, append_assoc, append-nil, length-append}
use Rattle.std.specs.List.{All}
use Rattle.std.proofs.lemmas.List.Elements.{All-nil, All-cons, All-contains, Contains-get_or, Contains-append_right}
use Rattle.wasm_binary.specs.Leb128.{IsU32}
use Rattle.wasm_binary.specs.Grammar.{AreItems, none, next}
use Rattle.wasm_binary.specs.Steps.Reading.{u32_at}
use Rattle.wasm_binary.proofs.Integers.{u32_sound}
use Rattle.wasm_module.specs.declared.renaming.Widths.{Widths}
use Rattle.wasm_module.specs.declared.renaming.Widths.TheVariants as width
use Rattle.wasm_module.specs.Changes.{Changes}
use Rattle.wasm_module.specs.Renaming.{NewIndices, new_index, least_width, IsTextOf}
use Rattle.wasm_module.specs.NameSections.{TypeEntry, type_entry, IsEntry, entry, AreKept, IsKnownEntry, known, IsTypeMap, IsNewEntry, renumbered, RenamesMap, empty, entries}
use Rattle.wasm_module.specs.Steps.Heads.{fault}
use Rattle.wasm_module.specs.Steps.Renaming.{Appends}
use Rattle.wasm_module.specs.Steps.NameSections.{Takes, BeginsNone, TakesEntry, BeginsNoEntry, TakesEntries, BeginsNotEntries, Keeps, IsNewMap}
use Rattle.wasm_module.proofs.NameMaps.{entry_free, no_count}
use Rattle.wasm_module.proofs.KeptEntries.{none_kept, deleted_goes}
use Rattle.wasm_module.proofs.Searching.{integer_short}
use Rattle.wasm_module.proofs.TextItems.{IsPrefixFree, items_as, same_items, item_on, no_items, items_on, items_cut_off, vec_free, vec_items}

module _ (Follows : List ℕ → Type 0) (count : ℕ) where
  pub is_known : (text : List ℕ) (e : TypeEntry) → IsKnownEntry Follows count text e → e.index < count
  is_known _ _ (known text e h less) = less

  is_entry : (text : List ℕ) (e : TypeEntry) → IsKnownEntry Follows count text e → IsEntry Follows text e
  is_entry _ _ (known text e h less) = h

  pub are_entries : (text : List ℕ) (es : List TypeEntry) → AreItems (IsKnownEntry Follows count) text es →
      AreItems (IsEntry Follows) text es
  are_entries = items_as (IsKnownEntry Follows count) (IsEntry Follows) is_entry

module _ (Follows : List ℕ → Type 0) (new_indices : NewIndices) where
  abbrev IsKnown : List ℕ → TypeEntry → Type 0
  IsKnown = IsKnownEntry Follows (length new_indices)

  pub entries_begun : (bytes : List ℕ) (kept : List (ℕ × TypeEntry)) → kept ≡ [] →
      TakesEntries Follows new_indices 0 kept bytes bytes
  entries_begun bytes kept e =
      record {
        entries = [];
        taken = no_items IsKnown bytes;
        as_many = refl;
        are_kept = subst (λ (u : List (ℕ × TypeEntry)). AreKept new_indices [] u) (sym e)
            (none_kept new_indices);
        few = subst (λ (u : List (ℕ × TypeEntry)). length u ≤ 0) (sym e) (omega arith);
      }

  pub entries_on : (count : ℕ) (old new : List (ℕ × TypeEntry)) (bytes rest after : List ℕ) (n : ℕ)
      (e : TypeEntry) → TakesEntries Follows new_indices count old bytes rest →
      TakesEntry Follows (length new_indices) e rest after → new_index new_indices e.index ≡ Some n →
      Keeps n e old new → TakesEntries Follows new_indices (count + 1) new bytes after
  entries_on count old new bytes rest after n e t h is k =
      record {
        entries = t.entries ++ e ∷ [];
        taken = items_on IsKnown t.entries bytes rest after h.text e t.taken h.is_entry h.parts;
        as_many = length-append t.entries (e ∷ []) ∙ omega (arith, t.as_many);
        are_kept = k.keeps new_indices t.entries t.are_kept
            (is_known Follows (length new_indices) h.text e h.is_entry) is;
        few = omega (arith, t.few, k.few);
      }

  -- the entry of a deleted type goes
  pub entries_passed : (count : ℕ) (kept : List (ℕ × TypeEntry)) (bytes rest after : List ℕ)
      (e : TypeEntry) → TakesEntries Follows new_indices count kept bytes rest →
      TakesEntry Follows (length new_indices) e rest after → new_index new_indices e.index ≡ None →
      TakesEntries Follows new_indices (count + 1) kept bytes after
  entries_passed count kept bytes rest after e t h gone =
      record {
        entries = t.entries ++ e ∷ [];
        taken = items_on IsKnown t.entries bytes rest after h.text e t.taken h.is_entry h.parts;
        as_many = length-append t.entries (e ∷ []) ∙ omega (arith, t.as_many);
        are_kept = deleted_goes new_indices t.entries kept e t.are_kept
            (is_known Follows (length new_indices) h.text e h.is_entry) gone;
        few = omega (arith, t.few);
      }

  pub entries_unread : IsPrefixFree Follows → (count taken : ℕ) (kept : List (ℕ × TypeEntry))
      (bytes rest : List ℕ) → TakesEntries Follows new_indices taken kept bytes rest → taken < count →
      BeginsNoEntry Follows (length new_indices) rest →
      BeginsNotEntries Follows (length new_indices) count bytes
  entries_unread free count taken kept bytes rest t less h others after many s =
      items_cut_off IsKnown (entry_free Follows (length new_indices) free) t.entries bytes rest count t.taken
      (omega (arith, t.as_many, less)) h others after many s

  abbrev IsNarrow : TypeEntry → Type 0
  IsNarrow e = e.width ≤ 5

  narrow : (text : List ℕ) (e : TypeEntry) → IsEntry Follows text e → IsNarrow e
  narrow _ _ (entry text follows k h f) = integer_short 0x80 text k h

  all_narrow : (text : List ℕ) (es : List TypeEntry) → AreItems IsKnown text es → All IsNarrow es
  all_narrow _ _ none = All-nil IsNarrow
  all_narrow _ _ (next text others e es h hs) =
      All-cons IsNarrow e es (narrow text e (is_entry Follows (length new_indices) text e h))
      (all_narrow others es hs)

  one_narrow : (es before after : List TypeEntry) (e : TypeEntry) → All IsNarrow es →
      es ≡ before ++ e ∷ after → IsNarrow e
  one_narrow es before after e all parts =
      All-contains IsNarrow (before ++ e ∷ after) e
      (subst (λ (u : List TypeEntry). All IsNarrow u) parts all)
      (Contains-append_right before (e ∷ after) e (0, omega arith, refl))

  pub kept_narrow : (count : ℕ) (kept : List (ℕ × TypeEntry)) (bytes rest : List ℕ) →
      TakesEntries Follows new_indices count kept bytes rest → All (λ (p : ℕ × TypeEntry). p.1.width ≤ 5) kept
  kept_narrow count kept bytes rest t k d lt =
      let l = (t.are_kept.are_least _ _ (Contains-get_or kept k d lt)).1 in
      one_narrow t.entries l.before l.after _ (all_narrow t.taken.text t.entries t.taken.are) l.parts

  -- ---- whole maps

  no_text : (text : List ℕ) (es : List TypeEntry) → AreItems IsKnown text es → length es ≡ 0 → text ≡ []
  no_text _ _ none e = refl
  no_text _ _ (next text others x es h hs) e = absurd (omega (arith, e))

  pub count_short : (content : List ℕ) (count : ℕ) (behind : List ℕ) → u32_at content ≡ Ok (count, behind) →
      length content - length behind ≤ 5
  count_short content count behind e =
      let n = u32_sound content count behind e in
      let long : length content ≡ length n.text + length behind = ap (λ (u : List ℕ). length u) n.parts
      ∙ length-append n.text behind in
      let short = integer_short 0x80 n.text count n.is_text in
      omega (arith, long, short)

  pub map_stays : (widths : Widths) (content : List ℕ) (count : ℕ) (behind rest : List ℕ)
      (kept : List (ℕ × TypeEntry)) → u32_at content ≡ Ok (count, behind) →
      TakesEntries Follows new_indices count kept behind rest → rest ≡ [] → count ≡ 0 →
      RenamesMap Follows new_indices widths content content []
  map_stays widths content count behind rest kept e t empty_rest zero_is =
      let n = u32_sound content count behind e in
      let text-is = no_text t.taken.text t.entries t.taken.are (t.as_many ∙ zero_is) in
      let behind-is : behind ≡ [] = t.taken.parts ∙ ap (λ (u : List ℕ). u ++ rest) text-is ∙ empty_rest in
      let content-is : content ≡ n.text = n.parts ∙ ap (λ (u : List ℕ). n.text ++ u) behind-is
      ∙ append-nil n.text in
      subst (λ (u : List ℕ). RenamesMap Follows new_indices widths u u []) (sym content-is)
      (empty n.text (subst (λ (m : ℕ). IsU32 n.text m) zero_is n.is_text))

  names_long : (es : List TypeEntry) → length es ≡ length (map (λ (x : TypeEntry). x.index) es)
  names_long [] = refl
  names_long (e ∷ es) = ap suc (names_long es)

  pub map_changes : (widths : Widths) (content : List ℕ) (count width : ℕ) (behind rest : List ℕ)
      (kept : List (ℕ × TypeEntry)) (new : List ℕ) → u32_at content ≡ Ok (count, behind) →
      width ≡ length content - length behind → TakesEntries Follows new_indices count kept behind rest →
      rest ≡ [] → (count ≡ 0 → ⊥) → IsNewMap widths (least_width widths width) kept new →
      Changes (RenamesMap Follows new_indices widths) content new
  map_changes widths content count width behind rest kept new e wide t empty_rest some w =
      let n = u32_sound content count behind e in
      let long : length content ≡ length n.text + length behind = ap (λ (u : List ℕ). length u) n.parts
      ∙ length-append n.text behind in
      let width-is : width ≡ length n.text = omega (arith, wide, long) in
      let behind-is : behind ≡ t.taken.text = t.taken.parts
      ∙ ap (λ (u : List ℕ). t.taken.text ++ u) empty_rest ∙ append-nil t.taken.text in
      let content-is : content ≡ n.text ++ t.taken.text = n.parts
      ∙ ap (λ (u : List ℕ). n.text ++ u) behind-is in
      let there : t.entries ≡ [] → ⊥ = λ h.
      some (sym t.as_many ∙ ap (λ (u : List TypeEntry). length u) h) in
      let named : map (λ (x : TypeEntry). x.index) t.entries ≡ [] → ⊥ = λ h.
      some (sym t.as_many ∙ names_long t.entries
      ∙ ap (λ (u : List ℕ). length u) h) in
      subst (λ (u : List ℕ). Changes (RenamesMap Follows new_indices widths) u new) (sym content-is)
      (subst (λ (u : List ℕ). Changes (RenamesMap Follows new_indices widths) (n.text ++ t.taken.text) u)
      (sym w.parts)
      (record {
        names = map (λ (x : TypeEntry). x.index) t.entries;
        becomes =
            entries n.text t.taken.text w.count w.texts t.entries kept
            (subst (λ (m : ℕ). IsU32 n.text m) (sym t.as_many) n.is_text)
            (are_entries Follows (length new_indices) t.taken.text t.entries t.taken.are) there t.are_kept
            (subst (λ (m : ℕ). IsTextOf 0x80 (least_width widths m) w.count (length kept)) width-is
            w.is_count)
            w.are;
        is_naming = named;
      }))

-- what begins no bytes is not all of them
pub not_whole : (IsText : List ℕ → Type 0) (bytes : List ℕ) → BeginsNone IsText bytes → ¬ (IsText bytes)
not_whole IsText bytes h is = h [] (record { text = bytes; is_text = is; parts = sym (append-nil bytes) })

module _ (Follows : List ℕ → Type 0) (count : ℕ) where
  pub map_countless : (content left : List ℕ) → u32_at content ≡ fault left → ¬ (IsTypeMap Follows count content)
  map_countless content left e =
      not_whole (IsTypeMap Follows count) content (no_count (IsKnownEntry Follows count) content left e)

  pub map_unread : (content : List ℕ) (many : ℕ) (behind : List ℕ) → u32_at content ≡ Ok (many, behind) →
      BeginsNotEntries Follows count many behind → ¬ (IsTypeMap Follows count content)
  map_unread content many behind e h v =
      let i = vec_items (IsKnownEntry Follows count) content [] many behind v.items
      (ap u32_at (append-nil content) ∙ e) v.is_vec in
      h v.items [] i.0 i.1

-- nothing is left behind a map that all of the bytes are
pub whole_map : (Follows : List ℕ → Type 0) → IsPrefixFree Follows → (count : ℕ) (bytes rest : List ℕ) →
    Takes (IsTypeMap Follows count) bytes rest → IsTypeMap Follows count bytes → rest ≡ []
whole_map Follows free count bytes rest t v =
    vec_free (IsKnownEntry Follows count) (entry_free Follows count free) t.text bytes rest [] t.is_text.items
    v.items t.is_text.is_vec v.is_vec (sym t.parts ∙ sym (append-nil bytes))

pub map_left_over : (Follows : List ℕ → Type 0) → IsPrefixFree Follows → (new_indices : NewIndices)
    (content : List ℕ) (count : ℕ) (behind rest : List ℕ) (kept : List (ℕ × TypeEntry)) →
    u32_at content ≡ Ok (count, behind) → TakesEntries Follows new_indices count kept behind rest →
    (rest ≡ [] → ⊥) → ¬ (IsTypeMap Follows (length new_indices) content)
map_left_over Follows free new_indices content count behind rest kept e t some v =
    let i = vec_items (IsKnownEntry Follows (length new_indices)) content [] count behind v.items
    (ap u32_at (append-nil content) ∙ e) v.is_vec in
    some (same_items (IsKnownEntry Follows (length new_indices))
    (entry_free Follows (length new_indices) free) t.taken.text t.entries i.1.text v.items rest []
    t.taken.are i.1.are (sym t.taken.parts ∙ i.1.parts) (t.as_many ∙ sym i.0))

-- ---- what is written

pub least_short : (widths : Widths) (least n : ℕ) → least ≡ least_width widths n → n ≤ 5 → least ≤ 5
least_short width.Shortest least n e le = omega (arith, e)
least_short width.Kept least n e le = omega (arith, e, le)

pub record IsWrittenUpTo (widths : Widths) (least : ℕ) (kept left : List (ℕ × TypeEntry))
    (out : List ℕ) : Type 0 where
  pub count : List ℕ
  pub texts : List ℕ
  pub done : List (ℕ × TypeEntry)
  pub parts : out ≡ count ++ texts
  pub is_count : IsTextOf 0x80 least count (length kept)
  pub are : AreItems (IsNewEntry widths) texts done
  pub all : kept ≡ done ++ left

pub written_begun : (widths : Widths) (least : ℕ) (kept left : List (ℕ × TypeEntry)) (out count : List ℕ) →
    kept ≡ left → out ≡ count → IsTextOf 0x80 least count (length kept) →
    IsWrittenUpTo widths least kept left out
written_begun widths least kept left out count e o h =
    record {
      count = count;
      texts = [];
      done = [];
      parts = o ∙ sym (append-nil count);
      is_count = h;
      are = none;
      all = e;
    }

pub written_on : (widths : Widths) (least : ℕ) (kept left after : List (ℕ × TypeEntry))
    (out new text : List ℕ) (n : ℕ) (e : TypeEntry) → IsWrittenUpTo widths least kept left out →
    left ≡ (n, e) ∷ after → IsTextOf 0x80 (least_width widths e.width) text n →
    new ≡ out ++ (text ++ e.follows) → IsWrittenUpTo widths least kept after new
written_on widths least kept left after out new text n e w is h o =
    record {
      count = w.count;
      texts = w.texts ++ (text ++ e.follows);
      done = w.done ++ (n, e) ∷ [];
      parts = o ∙ ap (λ (u : List ℕ). u ++ (text ++ e.follows)) w.parts
          ∙ append_assoc w.count w.texts (text ++ e.follows);
      is_count = w.is_count;
      are = item_on (IsNewEntry widths) w.texts w.done (text ++ e.follows) (n, e) w.are
          (renumbered text n e h);
      all = w.all ∙ ap (λ (u : List (ℕ × TypeEntry)). w.done ++ u) is ∙ sym
          (append_assoc w.done ((n, e) ∷ []) after);
    }

-- the count is written
pub count_written : (widths : Widths) (least n : ℕ) (kept left : List (ℕ × TypeEntry)) (old out : List ℕ) →
    kept ≡ left → old ≡ [] → n ≡ length kept → Appends (λ text. IsTextOf 0x80 least text n) old out →
    IsWrittenUpTo widths least kept left out
count_written widths least n kept left old out e nothing many a =
    written_begun widths least kept left out a.text e (a.parts ∙ ap (λ (u : List ℕ). u ++ a.text) nothing)
    (subst (λ m. IsTextOf 0x80 least a.text m) many a.is_text)

-- an entry is written
pub entry_written : (widths : Widths) (least small : ℕ) (kept left after : List (ℕ × TypeEntry))
    (out mid new : List ℕ) (n index width : ℕ) (follows : List ℕ) (e : TypeEntry) →
    IsWrittenUpTo widths least kept left out → left ≡ (n, e) ∷ after → e ≡ type_entry index width follows →
    small ≡ least_width widths width → Appends (λ text. IsTextOf 0x80 small text n) out mid →
    new ≡ mid ++ follows → IsWrittenUpTo widths least kept after new
entry_written widths least small kept left after out mid new n index width follows e w is e-is small-is a o =
    written_on widths least kept left after out new a.text n (type_entry index width follows) w
    (is ∙ ap (λ (u : TypeEntry). (n, u) ∷ after) e-is)
    (subst (λ m. IsTextOf 0x80 m a.text n) small-is a.is_text)
    (o ∙ ap (λ (u : List ℕ). u ++ follows) a.parts ∙ append_assoc out a.text follows)
