-- The syntax trees of maps from types.
use Rattle.std.proofs.Common.{◌≡◌, ℕ, ◌<◌, List, [], ◌∷◌, ◌++◌, length, refl, sym, ap, subst, ◌∙◌, append-nil}
use Rattle.std.specs.List.{All, Contains}
use Rattle.std.proofs.lemmas.List.Elements.{All-head, All-tail}
use Rattle.wasm_binary.specs.Grammar.{AreItems, none, next}
use Rattle.wasm_binary.specs.Leb128.{IsU32}
use Rattle.wasm_module.specs.declared.renaming.Widths.{Widths}
use Rattle.wasm_module.specs.NameSections.{TypeEntry, type_entry, IsEntry, entry, IsKnownEntry, known, IsNewEntry, renumbered, RenamesMap, empty, entries}
use Rattle.wasm_module.specs.SyntaxTrees.{SyntaxTree, mapped, AreWritten, unmapped, remaps}
use Rattle.wasm_module.specs.SyntaxTrees.AreWritten.{none as none_written, next as next_written}
use Rattle.wasm_module.specs.Renaming.{NewIndices}
use Rattle.wasm_module.proofs.NumberTexts.{cancel}
use Rattle.wasm_module.proofs.SyntaxTrees.{written_indices}
use Rattle.wasm_module.proofs.TextItems.{IsPrefixFree}
use Rattle.wasm_module.proofs.Entries.{Kept, least_in, first_in, later_in, entries_counted_once}
use Rattle.wasm_module.proofs.TreesOfChanges.{Changing, Writes, Finds, AreOne}
use Rattle.wasm_module.proofs.TypeMaps.{are_entries}
use Rattle.wasm_module.proofs.OwnEntries.{indices_of, found_long, follows_in}

-- ---- entries

as_written : (w : Widths) (texts : List ℕ) (kept : Kept) → AreItems (IsNewEntry w) texts kept →
    (es : List TypeEntry) × AreWritten w kept texts es
as_written w _ _ none = ([], none_written)
as_written w _ _ (next _ others _ ps (renumbered new n e is) hs) =
    let r = as_written w others ps hs in (
      type_entry n (length new) e.follows ∷ r.0,
      next_written n e new ps others r.0 is r.1,
    )

as_items : (w : Widths) (kept : Kept) (texts : List ℕ) (es : List TypeEntry) → AreWritten w kept texts es →
    AreItems (IsNewEntry w) texts kept
as_items w _ _ _ none_written = none
as_items w _ _ _ (next_written n e new kept texts es is h) =
    next (new ++ e.follows) texts (n, e) kept (renumbered new n e is) (as_items w kept texts es h)

module _ (Follows : List ℕ → Type 0) where
  known_entries : (n : ℕ) (texts : List ℕ) (es : List TypeEntry) → AreItems (IsEntry Follows) texts es →
      All (λ e. e.index < n) es → AreItems (IsKnownEntry Follows n) texts es
  known_entries n _ _ none below = none
  known_entries n _ _ (next text others e es is h) below =
      next text others e es (known text e is (All-head (λ f. f.index < n) e es below))
      (known_entries n others es h (All-tail (λ f. f.index < n) e es below))

  -- what was written are entries again
  as_entries : (n : ℕ) (w : Widths) (kept : Kept) (texts : List ℕ) (es : List TypeEntry) →
      AreWritten w kept texts es →
      ((k : ℕ) (e : TypeEntry) → Contains kept (k, e) → Follows e.follows × (k < n)) →
      AreItems (IsKnownEntry Follows n) texts es
  as_entries n w _ _ _ none_written f = none
  as_entries n w _ _ _ (next_written k e new kept texts es is h) f =
      let there = f k e (first_in (k, e) kept) in
      let one = type_entry k (length new) e.follows in
      next (new ++ e.follows) texts one es
      (known (new ++ e.follows) one (entry new e.follows k is.is_text there.0) there.1)
      (as_entries n w kept texts es h (λ i g later. f i g (later_in (k, e) (i, g) kept later)))

  -- ---- maps

  abbrev pub MapBy : Changing
  MapBy t m w = RenamesMap Follows m w

  empty_map : (m : NewIndices) (w : Widths) (count texts : List ℕ) (es : List TypeEntry) →
      IsU32 count (length es) → AreItems (IsKnownEntry Follows (length m)) texts es → es ≡ [] →
      RenamesMap Follows m w (count ++ texts) (count ++ texts) (indices_of es)
  empty_map m w count _ _ h none e =
      subst (λ (u : List ℕ). RenamesMap Follows m w u u []) (sym (append-nil count)) (empty count h)
  empty_map m w count _ _ h (next text others x xs k ks) e = absurd cc

  pub data MapTree (n : ℕ) : SyntaxTree → Type 0 where
    map_tree :
        (count texts : List ℕ) (es : List TypeEntry) → IsU32 count (length es)
        → AreItems (IsKnownEntry Follows n) texts es → MapTree n (mapped count texts es)

  pub maps_one : IsPrefixFree Follows → (n : ℕ) → AreOne (MapTree n)
  maps_one free n _ _ (map_tree count texts es h are) (map_tree count' texts' fs g its) e =
      let c = entries_counted_once Follows free count texts count' texts' es fs h g
      (are_entries Follows n texts es are) (are_entries Follows n texts' fs its) e in
      let one : count ≡ count' = cancel count count' texts texts' e c.1 in
      ap (λ (u : List ℕ). mapped u texts es) one ∙ ap (λ (u : List ℕ). mapped count' u es) c.1
      ∙ ap (λ (u : List TypeEntry). mapped count' texts' u) c.0

  pub maps_written : Writes MapBy MapTree
  maps_written t m w _ _ (map_tree count texts es h are) (unmapped _ _ _ nothing) =
      empty_map m w count texts es h are nothing
  maps_written t m w _ _ (map_tree count texts es h are) (remaps _ _ new_count news _ fs kept some is n a) =
      entries count texts new_count news es kept h (are_entries Follows (length m) texts es are) some is n
      (as_items w kept news fs a)

  pub maps_found : Finds MapBy MapTree
  maps_found t m w _ _ _ (empty count h) =
      record {
        tree = mapped count [] [];
        new_tree = mapped count [] [];
        is = map_tree count [] [] h none;
        is_again = λ n bound. map_tree count [] [] h none;
        becomes = unmapped count [] [] refl;
        text_is = append-nil count;
        new_is = append-nil count;
        names_are = refl;
      }
  maps_found t m w _ _ _ (entries count texts new_count news es kept h are some is n written) =
      let a = as_written w news kept written in
      let long : length kept ≡ length a.0 =
      sym (found_long a.0 kept (written_indices w kept news a.0 a.1)) in
      record {
        tree = mapped count texts es;
        new_tree = mapped new_count news a.0;
        is = map_tree count texts es h (known_entries (length m) texts es are is.known);
        is_again = λ c bound. map_tree new_count news a.0 (subst (λ k. IsU32 new_count k) long n.is_text)
            (as_entries c w kept news a.0 a.1
            (λ k e there. let least = is.are_least k e there in
            (follows_in Follows texts es are e (least_in m es e least.1), bound.below e.index k least.0)));
        becomes = remaps count texts new_count news es a.0 kept some is n a.1;
        text_is = refl;
        new_is = refl;
        names_are = refl;
      }
