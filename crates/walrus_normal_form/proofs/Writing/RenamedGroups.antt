-- Groups whose names are replaced.
use Rattle.std.proofs.Common.{◌≡◌, ℕ, zero, suc, ◌<◌, List, [], ◌∷◌, length, map, slice_set, Contains, refl, ap, ◌∙◌, arith}
use Rattle.std.specs.List.{range_with_len}
use Rattle.walrus_ty.specs.Definition.{Definition, Names, rename}
use Rattle.walrus_ty.specs.Groups.{Group, Single, Rec}
use Rattle.walrus_sections.specs.FirstError.{definitions_of}
use Rattle.walrus_normal_form.specs.declared.slot_group.SlotGroup.{SlotGroup}
use Rattle.walrus_normal_form.specs.Steps.ReadSections.{slot_group_at, slots_of}
use Rattle.walrus_sections.specs.WritingOrders.{written_group}
use Rattle.walrus_normal_form.specs.Steps.WrittenRecords.{GroupNames, rename_group}
use Rattle.walrus_ty.proofs.Names.Definitions.{rename_agree}

pub map-slice_set :
    {X Y : Type 0} (f : X → Y) (xs : List X) (i : ℕ) (x : X) →
    map f (slice_set xs i x) ≡ slice_set (map f xs) i (f x)
map-slice_set f [] i x = refl
map-slice_set f (y ∷ ys) zero x = refl
map-slice_set f (y ∷ ys) (suc i) x = ap (λ zs. f y ∷ zs) (map-slice_set f ys i x)

here : {X : Type 0} (x : X) (xs : List X) → Contains (x ∷ xs) x
here x xs = (0, omega arith, refl)

there : {X : Type 0} (x y : X) (xs : List X) → Contains xs x → Contains (y ∷ xs) x
there x y xs c = (suc c.0, omega (arith, c.1), c.2)

-- the slots of a group come one after the other
pub slots-consecutive :
    (first : ℕ) (g : Group) → (slots_of first g).ids ≡ range_with_len first (length (definitions_of g))
slots-consecutive first (Single d) = refl
slots-consecutive first (Rec ds) = refl

all_agree :
    (m m' : ℕ → ℕ) (ds : List Definition) →
    ((d : Definition) (k : ℕ) → Contains ds d → Names d k → m k ≡ m' k) →
    map (rename m) ds ≡ map (rename m') ds
all_agree m m' [] same = refl
all_agree m m' (d ∷ ds) same =
    ap (λ x. x ∷ map (rename m) ds) (rename_agree m m' d (λ k n. same d k (here d ds) n))
    ∙ ap (λ xs. rename m' d ∷ xs) (all_agree m m' ds (λ e k c n. same e k (there e d ds c) n))

-- where two ways to replace what the group names agree, the results are the same
pub rename_group-agree :
    (m m' : ℕ → ℕ) (g : Group) → ((k : ℕ) → GroupNames g k → m k ≡ m' k) →
    rename_group m g ≡ rename_group m' g
rename_group-agree m m' (Single d) same = ap Single (rename_agree m m' d (λ k n. same k (d, here d [], n)))
rename_group-agree m m' (Rec ds) same = ap Rec (all_agree m m' ds (λ d k c n. same k (d, c, n)))

pub map-agree :
    {Y : Type 0} (f h : SlotGroup → Y) (gs : List SlotGroup) →
    ((a : ℕ) → a < length gs → f (slot_group_at gs a) ≡ h (slot_group_at gs a)) → map f gs ≡ map h gs
map-agree f h [] same = refl
map-agree f h (g ∷ gs) same =
    ap (λ x. x ∷ map f gs) (same 0 (omega arith))
    ∙ ap (λ xs. h g ∷ xs) (map-agree f h gs (λ a lt. same (suc a) (omega (arith, lt))))

pub map-map :
    {X Y Z : Type 0} (f : Y → Z) (h : X → Y) (xs : List X) → map f (map h xs) ≡ map (λ x. f (h x)) xs
map-map f h [] = refl
map-map f h (x ∷ xs) = ap (λ ys. f (h x) ∷ ys) (map-map f h xs)

head_same : {X : Type 0} (x y : X) (xs ys : List X) → x ∷ xs ≡ y ∷ ys → x ≡ y
head_same x y xs ys e = cc

-- records that are what their slots define are written as what these define
pub renamed-written :
    (m : ℕ → ℕ) (f : ℕ → Definition) (first : ℕ) (g : Group) →
    definitions_of g ≡ map f (slots_of first g).ids →
    rename_group m g ≡ written_group (λ i. rename m (f i)) (slots_of first g)
renamed-written m f first (Single d) e = ap (λ x. Single (rename m x)) (head_same d (f first) [] [] e)
renamed-written m f first (Rec ds) e =
    ap (λ xs. Rec (map (rename m) xs)) e ∙ ap Rec (map-map (rename m) f (range_with_len first (length ds)))
