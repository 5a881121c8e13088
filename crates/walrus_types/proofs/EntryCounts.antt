-- How many entries stand before a place.
use Rattle.std.proofs.Common.{◌≡◌, ℕ, ◌+◌, ◌<◌, ◌≤◌, List, [], ◌∷◌, ◌++◌, length, take, drop, refl, sym, ap, ◌∙◌, arith, take-append-drop}
use Rattle.std.specs.List.{slice_index_or}
use Rattle.std.proofs.lemmas.List.{take_more, map-append}
use Rattle.walrus_ty.specs.declared.records.GroupAt.{GroupAt}
use Rattle.walrus_ty.specs.Groups.{Group, Single, Rec, Section}
use Rattle.walrus_ty.specs.Records.{group_of, section_of}
use Rattle.walrus_sections.specs.{FirstError.definitions_of, Section.index_space}
use Rattle.walrus_sections.proofs.Sections.Splits.{size, length-places}

size-append : (s t : Section) → size (s ++ t) ≡ size s + size t
size-append [] t = omega arith
size-append (Single d ∷ s) t = let e = size-append s t in omega (arith, e)
size-append (Rec ds ∷ s) t = let e = size-append s t in omega (arith, e)

size-one : (g : Group) → size (g ∷ []) ≡ length (definitions_of g)
size-one (Single d) = refl
size-one (Rec ds) = omega arith

-- one group more
pub count_more :
    (groups : List GroupAt) (i : ℕ) (g : GroupAt) → i < length groups →
    g ≡ slice_index_or groups i g →
    (index_space (section_of (take (i + 1) groups))).count ≡
    (index_space (section_of (take i groups))).count + length (definitions_of (group_of g))
count_more groups i g below is =
    let one : take (i + 1) groups ≡ take i groups ++ g ∷ [] = take_more groups i g below
    ∙ ap (λ (x : GroupAt). take i groups ++ x ∷ []) (sym is) in
    let more : size (section_of (take (i + 1) groups)) ≡ size (section_of (take i groups)) + length
    (definitions_of (group_of g)) =
    ap (λ (gs : List GroupAt). size (section_of gs)) one
    ∙ (ap size (map-append group_of (take i groups) (g ∷ []))
    ∙ (size-append (section_of (take i groups)) (group_of g ∷ [])
    ∙ ap (λ (n : ℕ). size (section_of (take i groups)) + n) (size-one (group_of g)))) in
    omega (
      arith,
      more,
      length-places 0 0 (section_of (take (i + 1) groups)),
      length-places 0 0 (section_of (take i groups)),
    )

-- the groups before a place have no more entries than all
pub count_part :
    (groups : List GroupAt) (i : ℕ) →
    (index_space (section_of (take i groups))).count ≤ (index_space (section_of groups)).count
count_part groups i =
    let all : size (section_of groups) ≡ size (section_of (take i groups)) + size (section_of (drop i groups))
    =
    ap (λ (gs : List GroupAt). size (section_of gs)) (sym (take-append-drop i groups))
    ∙ (ap size (map-append group_of (take i groups) (drop i groups))
    ∙ size-append (section_of (take i groups)) (section_of (drop i groups))) in
    omega (arith, all, length-places 0 0 (section_of (take i groups)), length-places 0 0 (section_of groups))
