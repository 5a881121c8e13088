-- Lists that have no text, since an item has none or they are too long for one.
use Rattle.std.proofs.Common.{ℕ, ◌^◌, ◌<◌, List, [], ◌∷◌, ◌++◌, length}
use Rattle.walrus_ty.specs.declared.ty.value.Val.{Val}
use Rattle.walrus_ty.specs.declared.records.CompAt.{CompAt}
use Rattle.walrus_ty.specs.declared.records.CompAt.TheVariants as comp
use Rattle.walrus_ty.specs.declared.records.EntryAt.{EntryAt}
use Rattle.walrus_ty.specs.declared.records.GroupAt.{GroupAt}
use Rattle.walrus_ty.specs.declared.records.GroupAt.TheVariants as group
use Rattle.wasm_binary.specs.Faults.{HasNoText}
use Rattle.wasm_binary.specs.Grammar.{AreItems, none, next, IsVec, counted, IsValType, IsFieldType, IsCompType, array, struct, function, IsSubType, declared, plain, IsRecType, rec, single}
use Rattle.wasm_binary.proofs.Shortest.{integer_bound}

-- some bytes are a text of it
abbrev HasText : {A : Type 0} → (List ℕ → A → Type 0) → A → Type 0
HasText IsText x = (bytes : List ℕ) × IsText bytes x

-- ---- lists

abbrev VecParts : {A : Type 0} → (List ℕ → A → Type 0) → List A → Type 0
VecParts IsText items = (length items < 2 ^ 32) × HasText (AreItems IsText) items

vec_parts : {A : Type 0} (IsText : List ℕ → A → Type 0) (bytes : List ℕ) (items : List A) →
    IsVec IsText bytes items → VecParts IsText items
vec_parts IsText _ _ (counted count texts items h hs) =
    (integer_bound 0x80 (2 ^ 32) count (length items) h, (texts, hs))

pub too_long : {A : Type 0} (IsText : List ℕ → A → Type 0) (items : List A) → (length items < 2 ^ 32 → ⊥) →
    HasNoText (IsVec IsText) items
too_long IsText items long bytes h = long (vec_parts IsText bytes items h).0

abbrev ItemsParts : {A : Type 0} → (List ℕ → A → Type 0) → List A → Type 0
ItemsParts IsText [] = Unit {0}
ItemsParts IsText (x ∷ xs) = HasText IsText x × HasText (AreItems IsText) xs

items_parts : {A : Type 0} (IsText : List ℕ → A → Type 0) (bytes : List ℕ) (items : List A) →
    AreItems IsText bytes items → ItemsParts IsText items
items_parts IsText _ _ none = tt
items_parts IsText _ _ (next text others item items h hs) = ((text, h), (others, hs))

pub no_items : {A : Type 0} (IsText : List ℕ → A → Type 0) (before : List A) (item : A) (after : List A) →
    HasNoText IsText item → HasNoText (AreItems IsText) (before ++ item ∷ after)
no_items IsText [] item after bad bytes h = let k = (items_parts IsText bytes (item ∷ after) h).0 in
    bad k.0 k.1
no_items IsText (x ∷ before) item after bad bytes h = let k =
    (items_parts IsText bytes (x ∷ (before ++ item ∷ after)) h).1 in
    no_items IsText before item after bad k.0 k.1
