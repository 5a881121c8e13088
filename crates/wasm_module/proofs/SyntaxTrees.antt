-- A syntax tree becomes one other tree, and this stays where each new index is its own.
use Rattle.std.proofs.Common.{◌≡◌, ℕ, List, [], ◌∷◌, ◌++◌, length, Some, refl, sym, ap, subst, ◌∙◌}
use Rattle.std.specs.List.{Contains}
use Rattle.std.specs.List.Sorted.{IsStrictlyIncreasing}
use Rattle.wasm_module.specs.declared.renaming.Widths.{Widths}
use Rattle.wasm_module.specs.OwnIndices.{AreOwn}
use Rattle.wasm_module.specs.NameSections.{TypeEntry, type_entry, AreKept}
use Rattle.wasm_module.specs.SyntaxTrees.{SyntaxTree, index, sized, joined, mapped, types, bytes_of, names_in, AreWritten, none, next, TreeBecomes, unchanged, renumbers, unresized, resizes, joins, unmapped, remaps, retypes}
use Rattle.wasm_module.specs.Renaming.{NewIndices, new_index, least_width, IsTextOf}
use Rattle.wasm_module.proofs.Changing.{prefix_empty, back_empty, both_empty}
use Rattle.wasm_module.proofs.KeptEntries.{some_is}
use Rattle.wasm_module.proofs.NumberTexts.{text_once, written_width}
use Rattle.wasm_module.proofs.Entries.{Kept, keys, kept_once, has_entry}
use Rattle.wasm_module.proofs.OwnEntries.{in_map, indices_of, no_entries, found_long, numbered, numbered_long, own_kept}

-- ---- one result

written_once : (w : Widths) (kept : Kept) (a b : List ℕ) (es fs : List TypeEntry) →
    AreWritten w kept a es → AreWritten w kept b fs → (a ≡ b) × (es ≡ fs)
written_once w _ _ _ _ _ none none = (refl, refl)
written_once w _ _ _ _ _ (next n e new kept a es is h) (next _ _ new' _ b fs is' g) =
    let one : new ≡ new' = text_once 0x80 (least_width w e.width) new new' n n is is' refl in
    let r = written_once w kept a b es fs h g in (
      ap (λ (u : List ℕ). (u ++ e.follows) ++ a) one ∙ ap (λ (u : List ℕ). (new' ++ e.follows) ++ u) r.0,
      ap (λ (u : List ℕ). type_entry n (length u) e.follows ∷ es) one
          ∙ ap (λ (u : List TypeEntry). type_entry n (length new') e.follows ∷ u) r.1,
    )

module _ (t : List ℕ) (m : NewIndices) (w : Widths) where
  pub one_tree : (p q r : SyntaxTree) → TreeBecomes t m w p q → TreeBecomes t m w p r → q ≡ r
  one_tree _ _ _ (unchanged text) (unchanged _) = refl
  one_tree _ _ _ (renumbers end k n text new to is) (renumbers _ _ n' _ new' to' is') =
      let same : n ≡ n' = some_is n n' (new_index m k) to to' in
      let one : new ≡ new' = text_once end (least_width w (length text)) new new' n n' is is' same in
      ap (λ (u : List ℕ). index end u n) one ∙ ap (λ u. index end new' u) same
  one_tree _ _ _ (unresized size p q nameless same h) (unresized _ _ r nameless' same' g) =
      ap (λ u. sized size u) (one_tree p q r h g)
  one_tree _ _ _ (unresized size p q nameless same h) (resizes _ new _ r some is g) = absurd (some nameless)
  one_tree _ _ _ (resizes size new p q some is h) (unresized _ _ r nameless same g) = absurd (some nameless)
  one_tree _ _ _ (resizes size new p q some is h) (resizes _ new' _ r some' is' g) =
      let same : q ≡ r = one_tree p q r h g in
      let one : new ≡ new' = text_once 0x80 (least_width w (length size)) new new' (length (bytes_of q))
      (length (bytes_of r)) is is' (ap (λ u. length (bytes_of u)) same) in
      ap (λ (u : List ℕ). sized u q) one ∙ ap (λ u. sized new' u) same
  one_tree _ _ _ (joins p q r s h g) (joins _ _ r' s' h' g') =
      ap (λ u. joined u s) (one_tree p r r' h h') ∙ ap (λ u. joined r' u) (one_tree q s s' g g')
  one_tree _ _ _ (unmapped count texts es nothing) (unmapped _ _ _ nothing') = refl
  one_tree _ _ _ (unmapped count texts es nothing) (remaps _ _ new_count news _ fs kept some is t a) =
      absurd (some nothing)
  one_tree _ _ _ (remaps count texts new_count news es fs kept some is t a) (unmapped _ _ _ nothing) =
      absurd (some nothing)
  one_tree _ _ _ (remaps count texts new news es fs kept some is t a)
      (remaps _ _ new' news' _ fs' kept' some' is' t' a') =
      let same : kept ≡ kept' = kept_once m es kept kept' is is' in
      let one : new ≡ new' = text_once 0x80 (least_width w (length count)) new new' (length kept)
      (length kept') t t' (ap (λ (u : Kept). length u) same) in
      let r = written_once w kept' news news' fs fs'
      (subst (λ (u : Kept). AreWritten w u news fs) same a) a' in
      ap (λ (u : List ℕ). mapped u news fs) one ∙ ap (λ (u : List ℕ). mapped new' u fs) r.0
      ∙ ap (λ (u : List TypeEntry). mapped new' news' u) r.1
  one_tree _ _ _ (retypes size content new is) (retypes _ _ new' is') =
      ap (λ (u : List ℕ). types u t) (text_once 0x80 0 new new' (length t) (length t) is is' refl)

  -- a tree that names no type becomes one that names none
  pub none_named : (p q : SyntaxTree) → TreeBecomes t m w p q → names_in p ≡ [] → names_in q ≡ []
  none_named _ _ (unchanged text) e = refl
  none_named _ _ (renumbers end k n text new to is) e = absurd cc
  none_named _ _ (unresized size p q nameless same h) e = none_named p q h nameless
  none_named _ _ (resizes size new p q some is h) e = absurd (some e)
  none_named _ _ (joins p q r s h g) e =
      both_empty (names_in r) (names_in s)
      (none_named p r h (prefix_empty (names_in p) (names_in q) e))
      (none_named q s g (back_empty (names_in p) (names_in q) e))
  none_named _ _ (unmapped count texts es nothing) e = e
  none_named _ _ (remaps count texts new news es fs kept some is t a) e = absurd (some (no_entries es e))
  none_named _ _ (retypes size content new is) e = refl

-- ---- entries that are written

pub written_indices : (w : Widths) (kept : Kept) (texts : List ℕ) (es : List TypeEntry) →
    AreWritten w kept texts es → indices_of es ≡ keys kept
written_indices w _ _ _ none = refl
written_indices w _ _ _ (next n e new kept texts es is h) =
    ap (λ (u : List ℕ). n ∷ u) (written_indices w kept texts es h)

-- they are written as themselves
written_again : (w : Widths) (kept : Kept) (texts : List ℕ) (es : List TypeEntry) →
    AreWritten w kept texts es → AreWritten w (numbered es) texts es
written_again w _ _ _ none = none
written_again w _ _ _ (next n e new kept texts es is h) =
    next n (type_entry n (length new) e.follows) new (numbered es) texts es
    (written_width 0x80 w e.width new n is) (written_again w kept texts es h)

-- ---- the second round

module _ (first again : NewIndices) (own : AreOwn first again) (t : List ℕ) (w : Widths) where
  resized_again : (size before : List ℕ) (p : SyntaxTree) (names : List ℕ) → names_in p ≡ names →
      IsTextOf 0x80 (least_width w (length before)) size (length (bytes_of p)) → TreeBecomes t again w p p →
      TreeBecomes t again w (sized size p) (sized size p)
  resized_again size before p [] e is h = unresized size p p e refl h
  resized_again size before p (x ∷ xs) e is h =
      resizes size size p p (λ k. let some : x ∷ xs ≡ [] = sym e ∙ k in cc)
      (written_width 0x80 w (length before) size (length (bytes_of p)) is) h

  mapped_again : (count before texts : List ℕ) (kept : Kept) (es fs : List TypeEntry) →
      AreKept first es kept → IsTextOf 0x80 (least_width w (length before)) count (length kept) →
      AreWritten w kept texts fs → TreeBecomes t again w (mapped count texts fs) (mapped count texts fs)
  mapped_again count before texts kept es [] is n a = unmapped count texts [] refl
  mapped_again count before texts kept es (x ∷ xs) is n a =
      let fs : List TypeEntry = x ∷ xs in
      let indices : indices_of fs ≡ keys kept = written_indices w kept texts fs a in
      let up : IsStrictlyIncreasing (indices_of fs) =
      subst (λ (u : List ℕ). IsStrictlyIncreasing u) (sym indices) is.ascending in
      let its : (f : TypeEntry) → Contains fs f → new_index again f.index ≡ Some f.index =
      λ f k. let o = has_entry kept f.index
      (subst (λ (u : List ℕ). Contains u f.index) indices (in_map (λ (j : TypeEntry). j.index) f fs k))
      in own o.0.index f.index (is.are_least f.index o.0 o.1).0 in
      let long : length kept ≡ length (numbered fs) = sym (found_long fs kept indices)
      ∙ sym (numbered_long fs) in
      remaps count texts count texts fs fs (numbered fs) (λ e. absurd cc) (own_kept again fs up its)
      (subst (λ k. IsTextOf 0x80 (least_width w (length count)) count k) long
      (written_width 0x80 w (length before) count (length kept) n)) (written_again w kept texts fs a)

  pub becomes_again : (p q : SyntaxTree) → TreeBecomes t first w p q → TreeBecomes t again w q q
  becomes_again _ _ (unchanged text) = unchanged text
  becomes_again _ _ (renumbers end k n text new to is) =
      renumbers end n n new new (own k n to) (written_width end w (length text) new n is)
  becomes_again _ _ (unresized size p q nameless same h) =
      unresized size q q (none_named t first w p q h nameless) refl (becomes_again p q h)
  becomes_again _ _ (resizes size new p q some is h) =
      resized_again new size q (names_in q) refl is (becomes_again p q h)
  becomes_again _ _ (joins p q r s h g) = joins r s r s (becomes_again p r h) (becomes_again q s g)
  becomes_again _ _ (unmapped count texts es nothing) = unmapped count texts es nothing
  becomes_again _ _ (remaps count texts new news es fs kept some is n a) =
      mapped_again new count news kept es fs is n a
  becomes_again _ _ (retypes size content new is) = retypes new t new is
