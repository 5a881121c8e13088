-- The syntax trees of subsections with names, and of contents of custom sections.
use Rattle.std.proofs.Common.{◌≡◌, ℕ, ◌≤◌, List, [], ◌∷◌, ◌++◌, length, refl, sym, ap, subst, ◌∙◌, arith}
use Rattle.wasm_binary.specs.Grammar.{none, next, IsVec, counted}
use Rattle.wasm_binary.specs.Leb128.{IsU32}
use Rattle.wasm_module.specs.declared.renaming.Widths.{Widths}
use Rattle.wasm_module.specs.Changes.{ChangeAll}
use Rattle.wasm_module.specs.NameSections.{IsName, IsNameMap, TypeEntry, IsKnownEntry, known, RenamesNames, RenamesSubsection, subsection, IsTypeMap, AreNames, IsSubsection, AreSubsections, name_bytes, RenamesCustom, name_section, unread}
use Rattle.wasm_module.specs.NameSections.AreNames.{type_names as are_type_names, field_names as are_field_names, others as are_others}
use Rattle.wasm_module.specs.NameSections.IsSubsection.{sized as sized_subsection}
use Rattle.wasm_module.specs.NameSections.RenamesCustom.{other as other_name}
use Rattle.wasm_module.specs.NameSections.RenamesNames.{type_names, field_names, others as other_names}
use Rattle.wasm_module.specs.Renaming.{NewIndices}
use Rattle.wasm_module.specs.SyntaxTrees.{SyntaxTree, still, joined, bytes_of, names_in, unchanged, joins}
use Rattle.wasm_module.proofs.NameMaps.{name_free, name_map_free}
use Rattle.wasm_module.proofs.NumberTexts.{cancel}
use Rattle.wasm_module.proofs.SizedContents.{same_content}
use Rattle.wasm_module.proofs.SameTexts.{same_first, same_later, named}
use Rattle.wasm_module.proofs.TextItems.{items_as}
use Rattle.wasm_module.proofs.TreesOfChanges.{Changing, Trees, Counted, Writes, Finds, AreOne, AreFirst, found_as, found_still, found_behind}
use Rattle.wasm_module.proofs.TreesOfContents.{SizedTree, sized_tree, sized_first, sized_written, sized_found, TreesInTurn, no_tree, next_tree, all_written, all_found}
use Rattle.wasm_module.proofs.TreesOfMaps.{MapTree, map_tree, maps_one, maps_written, maps_found}

-- ---- contents of subsections

abbrev NamesBy : ℕ → Changing
NamesBy id t m w = RenamesNames id m w

pub data NamesTree (id n : ℕ) : SyntaxTree → Type 0 where
  of_type_names : (p : SyntaxTree) → id ≡ 4 → MapTree IsName n p → NamesTree id n p
  of_field_names : (p : SyntaxTree) → id ≡ 10 → MapTree IsNameMap n p → NamesTree id n p
  of_others : (text : List ℕ) → (id ≡ 4 → ⊥) → (id ≡ 10 → ⊥) → NamesTree id n (still text)

names_one : (id n : ℕ) → AreOne (NamesTree id n)
names_one id n p q (of_type_names _ is h) (of_type_names _ is' k) e = maps_one IsName name_free n p q h k e
names_one id n p q (of_type_names _ is h) (of_field_names _ is' k) e = absurd (omega (arith, is, is'))
names_one id n p _ (of_type_names _ is h) (of_others text fails lacks) e = absurd (fails is)
names_one id n p q (of_field_names _ is h) (of_type_names _ is' k) e = absurd (omega (arith, is, is'))
names_one id n p q (of_field_names _ is h) (of_field_names _ is' k) e =
    maps_one IsNameMap name_map_free n p q h k e
names_one id n p _ (of_field_names _ is h) (of_others text fails lacks) e = absurd (lacks is)
names_one id n _ q (of_others text fails lacks) (of_type_names _ is k) e = absurd (fails is)
names_one id n _ q (of_others text fails lacks) (of_field_names _ is k) e = absurd (lacks is)
names_one id n _ _ (of_others text fails lacks) (of_others other fails' lacks') e =
    ap (λ (u : List ℕ). still u) e

names_written : (id : ℕ) → Writes (NamesBy id) (NamesTree id)
names_written id t m w p q (of_type_names _ is h) k =
    type_names (bytes_of p) (bytes_of q) (names_in p) is (maps_written IsName t m w p q h k)
names_written id t m w p q (of_field_names _ is h) k =
    field_names (bytes_of p) (bytes_of q) (names_in p) is (maps_written IsNameMap t m w p q h k)
names_written id t m w _ _ (of_others text fails lacks) (unchanged _) = other_names text fails lacks

names_found : (id : ℕ) → Finds (NamesBy id) (NamesTree id)
names_found id t m w text new names (type_names _ _ _ is h) =
    found_as t m w (MapTree IsName) (NamesTree id) (λ n p k. of_type_names p is k) text new names
    (maps_found IsName t m w text new names h)
names_found id t m w text new names (field_names _ _ _ is h) =
    found_as t m w (MapTree IsNameMap) (NamesTree id) (λ n p k. of_field_names p is k) text new names
    (maps_found IsNameMap t m w text new names h)
names_found id t m w text _ _ (other_names _ fails lacks) =
    found_still t m w (NamesTree id) text (λ n few. of_others text fails lacks)

-- ---- what stands behind an id

pub data BehindId (Is : ℕ → SyntaxTree → Type 0) : SyntaxTree → Type 0 where
  behind_id : (id : ℕ) (p : SyntaxTree) → Is id p → BehindId Is (joined (still (id ∷ [])) p)

pub behind_first : (Is : ℕ → Trees) → ((id : ℕ) → AreFirst (Is id)) → AreFirst (BehindId Is)
behind_first Is first _ _ r s (behind_id id p h) (behind_id other q k) e =
    let one = same_first id other (bytes_of p ++ r) (bytes_of q ++ s) e in
    let a = first id p q r s h (subst (λ n. Is n q) (sym one) k)
    (same_later id other (bytes_of p ++ r) (bytes_of q ++ s) e) in
    (ap (λ n. joined (still (n ∷ [])) p) one ∙ ap (λ u. joined (still (other ∷ [])) u) a.0, a.1)

-- ---- subsections

abbrev SubsectionBy : Changing
SubsectionBy t m w = RenamesSubsection m w

abbrev pub SubsectionTree : Counted
SubsectionTree n = BehindId (λ id. SizedTree (NamesTree id n))

subsection_first : (n : ℕ) → AreFirst (SubsectionTree n)
subsection_first n =
    behind_first (λ id. SizedTree (NamesTree id n)) (λ id. sized_first (NamesTree id n) (names_one id n))

subsection_written : Writes SubsectionBy SubsectionTree
subsection_written t m w _ _ (behind_id id p h) (joins _ _ _ q (unchanged _) k) =
    subsection id (bytes_of p) (bytes_of q) (names_in p)
    (sized_written (NamesBy id) (NamesTree id) (names_written id) t m w p q h k)

subsection_found : Finds SubsectionBy SubsectionTree
subsection_found t m w _ _ _ (subsection id text new names h) =
    found_behind t m w (λ n. SizedTree (NamesTree id n)) SubsectionTree (id ∷ []) (λ n p k. behind_id id p k)
    text new names (sized_found (NamesBy id) (NamesTree id) (names_found id) t m w text new names h)

module _ (n : ℕ) where
  some_bytes : (p : SyntaxTree) (rest : List ℕ) → SubsectionTree n p → [] ≡ bytes_of p ++ rest → ⊥
  some_bytes _ rest (behind_id id p h) e = absurd cc

  -- any number of subsections
  several_one : (count other : ℕ) (p q : SyntaxTree) → TreesInTurn (SubsectionTree n) count p →
      TreesInTurn (SubsectionTree n) other q → bytes_of p ≡ bytes_of q → p ≡ q
  several_one _ _ _ _ no_tree no_tree e = refl
  several_one _ _ _ _ no_tree (next_tree count p q h hs) e = absurd (some_bytes p (bytes_of q) h e)
  several_one _ _ _ _ (next_tree count p q h hs) no_tree e = absurd (some_bytes p (bytes_of q) h (sym e))
  several_one _ _ _ _ (next_tree count p q h hs) (next_tree other p' q' k ks) e =
      let a = subsection_first n p p' (bytes_of q) (bytes_of q') h k e in
      ap (λ u. joined u q) a.0 ∙ ap (λ u. joined p' u) (several_one count other q q' hs ks a.1)

  -- ---- what can be read

  map_read : (Follows : List ℕ → Type 0) (p : SyntaxTree) → MapTree Follows n p →
      IsTypeMap Follows n (bytes_of p)
  map_read Follows _ (map_tree count texts es h are) =
      record { items = es; is_vec = counted count texts es h are }

  names_read : (id : ℕ) (p : SyntaxTree) → NamesTree id n p → AreNames n id (bytes_of p)
  names_read id p (of_type_names _ is h) = are_type_names (bytes_of p) is (map_read IsName p h)
  names_read id p (of_field_names _ is h) = are_field_names (bytes_of p) is (map_read IsNameMap p h)
  names_read id _ (of_others text fails lacks) = are_others text fails lacks

  subsections_read : (count : ℕ) (p : SyntaxTree) → TreesInTurn (SubsectionTree n) count p →
      AreSubsections n (bytes_of p)
  subsections_read _ _ no_tree = record { ids = []; are = none }
  subsections_read _ _ (next_tree count _ q (behind_id id _ (sized_tree size p h is)) hs) =
      let rest = subsections_read count q hs in
      record {
        ids = id ∷ rest.ids;
        are = next (id ∷ (size ++ bytes_of p)) (bytes_of q) id rest.ids
            (sized_subsection id size (bytes_of p) h (names_read id p is)) rest.are;
      }

  tree_read : (count : ℕ) (p : SyntaxTree) (texts : List ℕ) → TreesInTurn (SubsectionTree n) count p →
      bytes_of p ≡ texts → AreSubsections n texts
  tree_read count p texts hs e = subst (λ (u : List ℕ). AreSubsections n u) e (subsections_read count p hs)

-- subsections that become others can be read
pub renamed_read : (m : NewIndices) (w : Widths) (count : ℕ) (texts new names : List ℕ) →
    ChangeAll (RenamesSubsection m w) count texts new names → AreSubsections (length m) texts
renamed_read m w count texts new names h =
    let f = all_found SubsectionBy SubsectionTree subsection_found [] m w count texts new names h in
    tree_read (length m) count f.tree texts f.is f.text_is

-- ---- what can be read with some types can be read with more

module _ (n count : ℕ) (few : n ≤ count) where
  more_known : (Follows : List ℕ → Type 0) (text : List ℕ) (e : TypeEntry) → IsKnownEntry Follows n text e →
      IsKnownEntry Follows count text e
  more_known Follows _ _ (known text e is less) = known text e is (omega (arith, less, few))

  more_entries : (Follows : List ℕ → Type 0) (text : List ℕ) (es : List TypeEntry) →
      IsVec (IsKnownEntry Follows n) text es → IsTypeMap Follows count text
  more_entries Follows _ _ (counted number texts es h are) =
      record {
        items = es;
        is_vec =
            counted number texts es h
            (items_as (IsKnownEntry Follows n) (IsKnownEntry Follows count) (more_known Follows) texts es
            are);
      }

  more_names : (id : ℕ) (text : List ℕ) → AreNames n id text → AreNames count id text
  more_names id text (are_type_names _ is h) =
      are_type_names text is (more_entries IsName text h.items h.is_vec)
  more_names id text (are_field_names _ is h) =
      are_field_names text is (more_entries IsNameMap text h.items h.is_vec)
  more_names id text (are_others _ fails lacks) = are_others text fails lacks

  more_subsections : (text : List ℕ) (id : ℕ) → IsSubsection n text id → IsSubsection count text id
  more_subsections _ _ (sized_subsection id size content h is) =
      sized_subsection id size content h (more_names id content is)

  pub more_read : (texts : List ℕ) → AreSubsections n texts → AreSubsections count texts
  more_read texts r =
      record {
        ids = r.ids;
        are = items_as (IsSubsection n) (IsSubsection count) more_subsections texts r.ids r.are;
      }

-- ---- custom sections

abbrev pub CustomBy : Changing
CustomBy t m w = RenamesCustom m w

pub data CustomTree (count : ℕ) : SyntaxTree → Type 0 where
  of_name_section :
      (subsections : ℕ) (size : List ℕ) (p : SyntaxTree) → IsU32 size (length name_bytes)
      → TreesInTurn (SubsectionTree count) subsections p
      → CustomTree count (joined (still size) (joined (still name_bytes) p))
  of_unread :
      (size texts : List ℕ) → IsU32 size (length name_bytes) → ¬ (AreSubsections count texts)
      → CustomTree count (still (size ++ (name_bytes ++ texts)))
  of_other_name :
      (size bytes follows : List ℕ) → IsU32 size (length bytes) → (bytes ≡ name_bytes → ⊥)
      → CustomTree count (still (size ++ (bytes ++ follows)))

-- the names of two custom sections with the same bytes
same_named : (size name follows other others after : List ℕ) → IsU32 size (length name) →
    IsU32 other (length others) → size ++ (name ++ follows) ≡ other ++ (others ++ after) →
    (name ≡ others) × (follows ≡ after)
same_named size name follows other others after h g e =
    same_content (size ++ (name ++ follows)) name follows others after (named size name follows _ h refl)
    (named other others after _ g e)

pub custom_one : (count : ℕ) → AreOne (CustomTree count)
custom_one n _ _ (of_name_section count size p h hs) (of_name_section other size' q g gs) e =
    let c = same_named size name_bytes (bytes_of p) size' name_bytes (bytes_of q) h g e in
    let one : size ≡ size' = cancel size size' (name_bytes ++ bytes_of p) (name_bytes ++ bytes_of q) e
    (ap (λ (u : List ℕ). name_bytes ++ u) c.1) in
    ap (λ (u : List ℕ). joined (still u) (joined (still name_bytes) p)) one
    ∙ ap (λ u. joined (still size') (joined (still name_bytes) u)) (several_one n count other p q hs gs c.1)
custom_one n _ _ (of_name_section count size p h hs) (of_unread size' texts g fails) e =
    absurd (fails (tree_read n count p texts hs
    (same_named size name_bytes (bytes_of p) size' name_bytes texts h g e).1))
custom_one n _ _ (of_name_section count size p h hs) (of_other_name size' bytes follows g different) e =
    absurd (different (sym (same_named size name_bytes (bytes_of p) size' bytes follows h g e).0))
custom_one n _ _ (of_unread size texts h fails) (of_name_section count size' p g gs) e =
    absurd (fails (tree_read n count p texts gs
    (same_named size' name_bytes (bytes_of p) size name_bytes texts g h (sym e)).1))
custom_one n _ _ (of_unread size texts h fails) (of_unread size' texts' g fails') e =
    ap (λ (u : List ℕ). still u) e
custom_one n _ _ (of_unread size texts h fails) (of_other_name size' bytes follows g different) e =
    ap (λ (u : List ℕ). still u) e
custom_one n _ _ (of_other_name size bytes follows h different) (of_name_section count size' p g gs) e =
    absurd (different (same_named size bytes follows size' name_bytes (bytes_of p) h g e).0)
custom_one n _ _ (of_other_name size bytes follows h different) (of_unread size' texts g fails) e =
    ap (λ (u : List ℕ). still u) e
custom_one n _ _ (of_other_name size bytes follows h different) (of_other_name size' bytes' follows' g other)
    e = ap (λ (u : List ℕ). still u) e

pub custom_written : Writes CustomBy CustomTree
custom_written t m w _ _ (of_name_section count size p h hs)
    (joins _ _ _ _ (unchanged _) (joins _ _ _ q (unchanged _) k)) =
    name_section count size (bytes_of p) (bytes_of q) (names_in p) h
    (all_written SubsectionBy SubsectionTree subsection_written t m w count p q hs k)
custom_written t m w _ _ (of_unread size texts h fails) (unchanged _) = unread size texts h fails
custom_written t m w _ _ (of_other_name size bytes follows h different) (unchanged _) =
    other_name size bytes follows h different

pub custom_found : Finds CustomBy CustomTree
custom_found t m w _ _ _ (name_section count size text new names h hs) =
    let f = all_found SubsectionBy SubsectionTree subsection_found t m w count text new names hs in
    record {
      tree = joined (still size) (joined (still name_bytes) f.tree);
      new_tree = joined (still size) (joined (still name_bytes) f.new_tree);
      is = of_name_section count size f.tree h f.is;
      is_again = λ n bound. of_name_section count size f.new_tree h (f.is_again n bound);
      becomes =
          joins (still size) (joined (still name_bytes) f.tree) (still size)
          (joined (still name_bytes) f.new_tree) (unchanged size)
          (joins (still name_bytes) f.tree (still name_bytes) f.new_tree (unchanged name_bytes) f.becomes);
      text_is = ap (λ (u : List ℕ). size ++ (name_bytes ++ u)) f.text_is;
      new_is = ap (λ (u : List ℕ). size ++ (name_bytes ++ u)) f.new_is;
      names_are = f.names_are;
    }
custom_found t m w _ _ _ (unread size texts h fails) =
    found_still t m w CustomTree (size ++ (name_bytes ++ texts))
    (λ n few. of_unread size texts h (λ r. fails (more_read n (length m) few texts r)))
custom_found t m w _ _ _ (other_name size bytes follows h different) =
    found_still t m w CustomTree (size ++ (bytes ++ follows))
    (λ n few. of_other_name size bytes follows h different)
