-- Syntax trees that are alike become one by new indices that lead together, and those that become one
-- are alike.
use Rattle.std.proofs.Common.{◌≡◌, ℕ, List, [], ◌++◌, length, refl, sym, ap, subst, ◌∙◌}
use Rattle.std.proofs.lemmas.List.{length-map}
use Rattle.wasm_binary.specs.Modules.{header}
use Rattle.wasm_module.specs.declared.renaming.Widths.TheVariants as widths
use Rattle.wasm_module.specs.declared.renaming.Widths.{Widths}
use Rattle.wasm_module.specs.Alike.{Pairing, swapped, BelongNowhere, SizesAlike, both_stay, neither_stays, first_stays, second_stays, Alike, same_bytes, indices, sizes, both, empty_maps, maps, second_empties, first_empties, type_sections, AreAlike, LeadTogether}
use Rattle.wasm_module.specs.NameSections.{TypeEntry, AreKept}
use Rattle.wasm_module.specs.SyntaxTrees.{SyntaxTree, index, sized, joined, mapped, types, bytes_of, AreWritten, TreeBecomes, unchanged, renumbers, unresized, resizes, joins, unmapped, remaps, retypes}
use Rattle.wasm_module.specs.SyntaxTrees.AreWritten.{none as none_written, next as next_written}
use Rattle.wasm_module.specs.RenamedModules.{RenamesModule}
use Rattle.wasm_module.specs.Renaming.{NewIndices, new_index, IsTextOf}
use Rattle.wasm_module.proofs.AlikeNames.{swap, shown, kept_together, written_together, none_kept, written_shown, same_names_of, nowhere_of}
use Rattle.wasm_module.proofs.Entries.{Kept}
use Rattle.wasm_module.proofs.KeptEntries.{some_is}
use Rattle.wasm_module.proofs.NumberTexts.{text_once}

-- what is written of no entries
nothing_written : (a : Kept) (texts : List ℕ) (es : List TypeEntry) → AreWritten widths.Shortest a texts es →
    a ≡ [] → (texts ≡ []) × (es ≡ [])
nothing_written _ _ _ none_written e = (refl, refl)
nothing_written _ _ _ (next_written n f new kept texts es is h) e = absurd cc

-- where no entries are written, none are kept
none_written_of : (a : Kept) (texts : List ℕ) (es : List TypeEntry) →
    AreWritten widths.Shortest a texts es → es ≡ [] → (a ≡ []) × (texts ≡ [])
none_written_of _ _ _ none_written e = (refl, refl)
none_written_of _ _ _ (next_written n f new kept texts es is h) e = absurd cc

-- an empty map stays as a map that loses all becomes
emptied_map : (R : Pairing) (m w : NewIndices) → LeadTogether R m w → (es fs : List TypeEntry) (a : Kept)
    (count new texts : List ℕ) → AreKept m es a → BelongNowhere R es → IsTextOf 0x80 0 count 0 →
    IsTextOf 0x80 0 new (length a) → AreWritten widths.Shortest a texts fs →
    mapped new texts fs ≡ mapped count [] []
emptied_map R m w h es fs a count new texts is nowhere shortest n written =
    let empty : a ≡ [] = none_kept R m w h es a is nowhere in
    let nothing = nothing_written a texts fs written empty in
    let one : new ≡ count = text_once 0x80 0 new count (length a) 0 n shortest
    (ap (λ (u : Kept). length u) empty) in
    ap (λ (u : List ℕ). mapped u texts fs) one ∙ ap (λ (u : List ℕ). mapped count u fs) nothing.0
    ∙ ap (λ (u : List TypeEntry). mapped count [] u) nothing.1

as_long : (a b : Kept) → shown a ≡ shown b → length a ≡ length b
as_long a b same =
    sym (length-map a (λ (p : ℕ × TypeEntry). (p.0, p.1.follows)))
    ∙ ap (λ (u : List (ℕ × List ℕ)). length u) same
    ∙ length-map b (λ (p : ℕ × TypeEntry). (p.0, p.1.follows))

module _ (R : Pairing) (m w : NewIndices) (h : LeadTogether R m w) (t : List ℕ) where
  abbrev Shortest : Widths
  Shortest = widths.Shortest

  -- contents with alike sizes become one where the contents do
  sizes_become_one : (size other : List ℕ) (p q r s : SyntaxTree) → SizesAlike p q size other →
      TreeBecomes t m Shortest (sized size p) r → TreeBecomes t w Shortest (sized other q) s →
      ((x y : SyntaxTree) → TreeBecomes t m Shortest p x → TreeBecomes t w Shortest q y → x ≡ y) → r ≡ s
  sizes_become_one _ _ p q _ _ alike (unresized size _ x nameless same f)
      (unresized other _ y nameless' same' g) one =
      elim alike [
        | both_stay e e' is ↦
            ap (λ (u : List ℕ). sized u x) is ∙ ap (λ u. sized other u) (one x y f g)
        | neither_stays some some' ↦ absurd (some nameless)
        | first_stays e some is ↦ absurd (some nameless')
        | second_stays some e is ↦ absurd (some nameless)
      ]
  sizes_become_one _ _ p q _ _ alike (unresized size _ x nameless same f) (resizes other new _ y some is g)
      one =
      elim alike [
        | both_stay e e' k ↦ absurd (some e')
        | neither_stays some' some'' ↦ absurd (some' nameless)
        | first_stays e some' k ↦
            let content : x ≡ y = one x y f g in
            let text : size ≡ new = text_once 0x80 0 size new (length (bytes_of p)) (length (bytes_of y)) k is
            (ap (λ (u : List ℕ). length u) same ∙ ap (λ u. length (bytes_of u)) content) in
            ap (λ (u : List ℕ). sized u x) text ∙ ap (λ u. sized new u) content
        | second_stays some' e k ↦ absurd (some e)
      ]
  sizes_become_one _ _ p q _ _ alike (resizes size new _ x some is f) (unresized other _ y nameless same g)
      one =
      elim alike [
        | both_stay e e' k ↦ absurd (some e)
        | neither_stays some' some'' ↦ absurd (some'' nameless)
        | first_stays e some' k ↦ absurd (some e)
        | second_stays some' e k ↦
            let content : x ≡ y = one x y f g in
            let text : new ≡ other =
            text_once 0x80 0 new other (length (bytes_of x)) (length (bytes_of q)) is k
            (ap (λ u. length (bytes_of u)) content ∙ ap (λ (u : List ℕ). length u) (sym same)) in
            ap (λ (u : List ℕ). sized u x) text ∙ ap (λ u. sized other u) content
      ]
  sizes_become_one _ _ p q _ _ alike (resizes size new _ x some is f) (resizes other new' _ y some' is' g)
      one =
      let content : x ≡ y = one x y f g in
      let text : new ≡ new' = text_once 0x80 0 new new' (length (bytes_of x)) (length (bytes_of y)) is is'
      (ap (λ u. length (bytes_of u)) content) in
      ap (λ (u : List ℕ). sized u x) text ∙ ap (λ u. sized new' u) content

  -- alike trees become one
  pub become_one : (p q r s : SyntaxTree) → Alike R p q → TreeBecomes t m Shortest p r →
      TreeBecomes t w Shortest q s → r ≡ s
  become_one _ _ _ _ (same_bytes text) (unchanged _) (unchanged _) = refl
  become_one _ _ _ _ (indices end k l text other belongs) (renumbers _ _ n _ new to is)
      (renumbers _ _ n' _ new' to' is') =
      let g = h.goes k l belongs in
      let same : n ≡ n' =
      some_is n g.0 (new_index m k) to g.1 ∙ some_is g.0 n' (new_index w l) g.2 to' in
      let one : new ≡ new' = text_once end 0 new new' n n' is is' same in
      ap (λ (u : List ℕ). index end u n) one ∙ ap (λ u. index end new' u) same
  become_one _ _ _ _ (sizes size other p q sizes-are alike) f g =
      sizes_become_one size other p q _ _ sizes-are f g (λ r s f g. become_one p q r s alike f g)
  become_one _ _ _ _ (both p q r s a b) (joins _ _ x y f f') (joins _ _ z v g g') =
      ap (λ u. joined u y) (become_one p r x z a f g) ∙ ap (λ u. joined z u) (become_one q s y v b f' g')
  become_one _ _ _ _ (empty_maps count texts) (unmapped _ _ _ _) (unmapped _ _ _ _) = refl
  become_one _ _ _ _ (empty_maps count texts) (remaps _ _ _ _ _ _ _ some _ _ _) g = absurd (some refl)
  become_one _ _ _ _ (empty_maps count texts) (unmapped _ _ _ _) (remaps _ _ _ _ _ _ _ some _ _ _) =
      absurd (some refl)
  become_one _ _ _ _ (maps count texts count' texts' es fs some some' names) (unmapped _ _ _ nothing) g =
      absurd (some nothing)
  become_one _ _ _ _ (maps count texts count' texts' es fs some some' names)
      (remaps _ _ new news _ xs a _ is n written) (unmapped _ _ _ nothing) = absurd (some' nothing)
  become_one _ _ _ _ (maps count texts count' texts' es fs some some' names)
      (remaps _ _ new news _ xs a _ is n written) (remaps _ _ new' news' _ ys b _ is' n' written') =
      let same : shown a ≡ shown b = kept_together R m w h es fs a b is is' names in
      let long : length a ≡ length b = as_long a b same in
      let one : new ≡ new' = text_once 0x80 0 new new' (length a) (length b) n n' long in
      let r = written_together a b news news' xs ys same written written' in
      ap (λ (u : List ℕ). mapped u news xs) one ∙ ap (λ (u : List ℕ). mapped new' u xs) r.0
      ∙ ap (λ (u : List TypeEntry). mapped new' news' u) r.1
  become_one _ _ _ _ (second_empties count count' texts' fs shortest some nowhere) (unmapped _ _ _ _)
      (remaps _ _ new news _ ys b _ is n written) =
      sym (emptied_map (swapped R) w m (swap R m w h) fs ys b count new news is nowhere shortest n written)
  become_one _ _ _ _ (second_empties count count' texts' fs shortest some nowhere) (unmapped _ _ _ _)
      (unmapped _ _ _ nothing) = absurd (some nothing)
  become_one _ _ _ _ (second_empties count count' texts' fs shortest some nowhere)
      (remaps _ _ _ _ _ _ _ some' _ _ _) g = absurd (some' refl)
  become_one _ _ _ _ (first_empties count texts count' es shortest some nowhere)
      (remaps _ _ new news _ xs a _ is n written) (unmapped _ _ _ _) =
      emptied_map R m w h es xs a count' new news is nowhere shortest n written
  become_one _ _ _ _ (first_empties count texts count' es shortest some nowhere) (unmapped _ _ _ nothing) g =
      absurd (some nothing)
  become_one _ _ _ _ (first_empties count texts count' es shortest some nowhere)
      (remaps _ _ _ _ _ _ _ _ _ _ _) (remaps _ _ _ _ _ _ _ some' _ _ _) = absurd (some' refl)
  become_one _ _ _ _ (type_sections size content size' content') (retypes _ _ new is) (retypes _ _ new' is') =
      ap (λ (u : List ℕ). types u t) (text_once 0x80 0 new new' (length t) (length t) is is' refl)

-- ---- trees that become one are alike, whatever their type sections get

module _ (R : Pairing) (m w : NewIndices) (h : LeadTogether R m w) where
  pub alike_before : (t u : List ℕ) (p q r : SyntaxTree) → TreeBecomes t m widths.Shortest p r →
      TreeBecomes u w widths.Shortest q r → Alike R p q
  alike_before t u _ _ _ (unchanged text) (unchanged _) = same_bytes text
  alike_before t u _ _ _ (renumbers end k n text new to is) (renumbers _ l _ other _ to' is') =
      indices end k l text other (h.belong k l n to to')
  alike_before t u _ _ _ (unresized size p x nameless same f) (unresized _ q _ nameless' same' g) =
      sizes size size p q (both_stay nameless nameless' refl) (alike_before t u p q x f g)
  alike_before t u _ _ _ (unresized size p x nameless same f) (resizes other _ q _ some is g) =
      sizes size other p q
      (first_stays nameless some (subst (λ (u : List ℕ). IsTextOf 0x80 0 size (length u)) (sym same) is))
      (alike_before t u p q x f g)
  alike_before t u _ _ _ (resizes size new p x some is f) (unresized _ q _ nameless same g) =
      sizes size new p q
      (second_stays some nameless (subst (λ (u : List ℕ). IsTextOf 0x80 0 new (length u)) (sym same) is))
      (alike_before t u p q x f g)
  alike_before t u _ _ _ (resizes size new p x some is f) (resizes other _ q _ some' is' g) =
      sizes size other p q (neither_stays some some') (alike_before t u p q x f g)
  alike_before t u _ _ _ (joins p q r s f f') (joins p' q' _ _ g g') =
      both p q p' q' (alike_before t u p p' r f g) (alike_before t u q q' s f' g')
  alike_before t u _ _ _ (unmapped count texts es nothing) (unmapped _ _ _ nothing') =
      subst (λ (u : List TypeEntry). Alike R (mapped count texts u) (mapped count texts u)) (sym nothing)
      (empty_maps count texts)
  alike_before t u _ _ _ (unmapped count texts es nothing)
      (remaps count' texts' _ _ fs _ b some is n written) =
      let empty = none_written_of b texts es written nothing in
      let shortest : IsTextOf 0x80 0 count 0 =
      subst (λ (u : Kept). IsTextOf 0x80 0 count (length u)) empty.0 n in
      subst (λ (u : List ℕ). Alike R (mapped count u es) (mapped count' texts' fs)) (sym empty.1)
      (subst (λ (u : List TypeEntry). Alike R (mapped count [] u) (mapped count' texts' fs)) (sym nothing)
      (second_empties count count' texts' fs shortest some
      (nowhere_of (swapped R) w m (swap R m w h) fs b is empty.0)))
  alike_before t u _ _ _ (remaps count texts new news es xs a some is n written) (unmapped _ _ _ nothing) =
      let empty = none_written_of a news xs written nothing in
      let shortest : IsTextOf 0x80 0 new 0 = subst (λ (u : Kept). IsTextOf 0x80 0 new (length u)) empty.0 n in
      subst (λ (u : List ℕ). Alike R (mapped count texts es) (mapped new u xs)) (sym empty.1)
      (subst (λ (u : List TypeEntry). Alike R (mapped count texts es) (mapped new [] u)) (sym nothing)
      (first_empties count texts new es shortest some (nowhere_of R m w h es a is empty.0)))
  alike_before t u _ _ _ (remaps count texts new news es xs a some is n written)
      (remaps count' texts' _ _ fs _ b some' is' n' written') =
      maps count texts count' texts' es fs some some'
      (same_names_of R m w h es fs a b is is'
      (written_shown a news xs written ∙ sym (written_shown b news xs written')))
  alike_before t _ _ _ _ (retypes size content new is) (retypes size' content' _ is') =
      type_sections size content size' content'

-- modules that are alike become one
pub modules_become_one : (R : Pairing) (m w : NewIndices) → LeadTogether R m w → (count other_count : ℕ) →
    length m ≡ count → length w ≡ other_count → (t bytes other a b : List ℕ) →
    AreAlike R count other_count bytes other → RenamesModule t m widths.Shortest bytes a →
    RenamesModule t w widths.Shortest other b → a ≡ b
modules_become_one R m w h count other_count many other_many t bytes other a b alike f g =
    let p = alike.has.to t m widths.Shortest a many f in
    let q = alike.other_has.to t w widths.Shortest b other_many g in
    sym p.2 ∙ ap (λ u. header ++ bytes_of u)
    (become_one R m w h t alike.tree alike.other_tree p.0 q.0 alike.alike p.1 q.1)
    ∙ q.2
