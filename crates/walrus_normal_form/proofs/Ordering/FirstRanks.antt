-- The rank of the first of a list, and what is left after it.
use Rattle.std.proofs.Common.{◌≡◌, ℕ, ◌-◌, ◌<◌, ◌≤◌, Bool, true, false, List, [], ◌∷◌, map, length, take, drop, get_or, cond, Option, Some, refl, ap, ◌∙◌, arith}
use Rattle.std.proofs.lemmas.List.{append-nil, take_all}
use Rattle.walrus_ty.specs.declared.ty.value.Val.{Val}
use Rattle.walrus_normal_form.specs.SortKeys.{after_first, first_rank, is_open, item_rank, marked_items, val_rank}

-- an empty list has no first
pub empty-rank :
    {A : Type 0} (rank_of : A → ℕ) (items : List A) → length items < 1 →
    0 ≡ first_rank rank_of items
empty-rank rank_of [] below = refl
empty-rank rank_of (item ∷ items) below = absurd (omega (arith, below))

pub empty-after :
    {A : Type 0} (rank_of : A → ℕ) (items : List A) → length items < 1 →
    items ≡ after_first rank_of items
empty-after rank_of [] below = refl
empty-after rank_of (item ∷ items) below = absurd (omega (arith, below))

-- this is the first of a list
pub first-rank :
    {A : Type 0} (rank_of : A → ℕ) (items : List A) (item : A) (n : ℕ) → 1 ≤ length items →
    item ≡ get_or items 0 item → n ≡ rank_of item → n ≡ first_rank rank_of items
first-rank rank_of [] item n long is_first is = absurd (omega (arith, long))
first-rank rank_of (x ∷ xs) item n long is_first is = is ∙ ap rank_of is_first

-- the first is open
pub open-after :
    {A : Type 0} (rank_of : A → ℕ) (items : List A) (item : A) (n : ℕ) → 1 ≤ length items →
    item ≡ get_or items 0 item → n ≡ rank_of item → true ≡ is_open n →
    [] ≡ after_first rank_of items
open-after rank_of [] item n long is_first is opens = refl
open-after {A} rank_of (x ∷ xs) item n long is_first is opens =
    ap (λ b. cond {A = List A} b [] xs) (opens ∙ ap is_open (is ∙ ap rank_of is_first))

-- the first is not open
pub closed-after :
    {A : Type 0} (rank_of : A → ℕ) (items : List A) (item : A) (n : ℕ) → 1 ≤ length items →
    item ≡ get_or items 0 item → n ≡ rank_of item → false ≡ is_open n →
    take (length items - 1) (drop 1 items) ≡ after_first rank_of items
closed-after rank_of [] item n long is_first is closes = refl
closed-after {A} rank_of (x ∷ xs) item n long is_first is closes =
    take_all (length (x ∷ xs) - 1) xs (omega arith)
    ∙ ap (λ b. cond {A = List A} b [] xs) (closes ∙ ap is_open (is ∙ ap rank_of is_first))

-- the rank of the first value, behind which a mark may come
pub mark-rank :
    {A : Type 0} (vals further : List (Val A)) (b : Bool) → length vals < 1 → b ≡ true →
    1 ≡ first_rank item_rank (marked_items vals b further)
mark-rank [] further true below is = refl
mark-rank [] further false below is = absurd cc
mark-rank (x ∷ xs) further b below is = absurd (omega (arith, below))

pub mark-after :
    {A : Type 0} (vals further : List (Val A)) (b : Bool) → length vals < 1 → b ≡ true →
    marked_items further false [] ≡ after_first item_rank (marked_items vals b further)
mark-after [] further true below is = append-nil (map Some further)
mark-after [] further false below is = absurd cc
mark-after (x ∷ xs) further b below is = absurd (omega (arith, below))

pub end-rank :
    {A : Type 0} (vals further : List (Val A)) (b : Bool) → length vals < 1 → b ≡ false →
    0 ≡ first_rank item_rank (marked_items vals b further)
end-rank [] further false below is = refl
end-rank [] further true below is = absurd cc
end-rank (x ∷ xs) further b below is = absurd (omega (arith, below))

pub end-after :
    {A : Type 0} (vals further : List (Val A)) (b : Bool) → length vals < 1 → b ≡ false →
    [] ≡ after_first item_rank (marked_items vals b further)
end-after [] further false below is = refl
end-after [] further true below is = absurd cc
end-after (x ∷ xs) further b below is = absurd (omega (arith, below))

pub first_val-rank :
    {A : Type 0} (vals further : List (Val A)) (b : Bool) (val : Val A) (n : ℕ) → 1 ≤ length vals →
    val ≡ get_or vals 0 val → n ≡ val_rank val →
    n ≡ first_rank item_rank (marked_items vals b further)
first_val-rank [] further b val n long is_first is = absurd (omega (arith, long))
first_val-rank (x ∷ xs) further b val n long is_first is = is ∙ ap val_rank is_first

pub open-val-after :
    {A : Type 0} (vals further : List (Val A)) (b : Bool) (val : Val A) (n : ℕ) → 1 ≤ length vals →
    val ≡ get_or vals 0 val → n ≡ val_rank val → true ≡ is_open n →
    [] ≡ after_first item_rank (marked_items vals b further)
open-val-after [] further b val n long is_first is opens = absurd (omega (arith, long))
open-val-after {A} (x ∷ xs) further b val n long is_first is opens =
    ap (λ c. cond {A = List (Option (Val A))} c [] (marked_items xs b further))
    (opens ∙ ap is_open (is ∙ ap val_rank is_first))

pub closed-val-after :
    {A : Type 0} (vals further : List (Val A)) (b : Bool) (val : Val A) (n : ℕ) → 1 ≤ length vals →
    val ≡ get_or vals 0 val → n ≡ val_rank val → false ≡ is_open n →
    marked_items (take (length vals - 1) (drop 1 vals)) b further ≡
    after_first item_rank (marked_items vals b further)
closed-val-after [] further b val n long is_first is closes = absurd (omega (arith, long))
closed-val-after {A} (x ∷ xs) further b val n long is_first is closes =
    ap (λ (l : List (Val A)). marked_items l b further) (take_all (length (x ∷ xs) - 1) xs (omega arith))
    ∙ ap (λ c. cond {A = List (Option (Val A))} c [] (marked_items xs b further))
    (closes ∙ ap is_open (is ∙ ap val_rank is_first))
