-- Fields and composite types: what is read has the text that stands there, and what has a text is
-- read.
use Rattle.std.proofs.Common.{◌≡◌, ℕ, ◌≤◌, Bool, true, false, nat_eq, ◌||◌, List, [], ◌∷◌, ◌++◌, Ok, refl, sym, ap, subst, ◌∙◌, arith, ne_eqb}
use Rattle.walrus_ty.specs.declared.ty.value.Val.{Val}
use Rattle.walrus_ty.specs.declared.ty.value.Val.TheVariants as val
use Rattle.walrus_ty.specs.declared.ty.value.Storage.{Storage}
use Rattle.walrus_ty.specs.declared.ty.value.Storage.TheVariants as storage
use Rattle.walrus_ty.specs.declared.ty.value.Field.{Field}
use Rattle.walrus_ty.specs.declared.records.CompAt.{CompAt}
use Rattle.walrus_ty.specs.declared.records.CompAt.TheVariants as comp
use Rattle.wasm_binary.specs.Grammar.{IsVec, IsValType, i32, i64, f32, f64, v128, ref, IsStorageType, i8, i16, value, mutability_code, IsFieldType, field, IsCompType, array, struct, function}
use Rattle.wasm_binary.specs.Steps.Reading.{val_at, storage_at, mutability_at, field_at, vec_at, function_at, comp_at}
use Rattle.wasm_binary.proofs.Basics.{Takes, IsSound, IsComplete, split, branch, one_takes, map_takes, pair_takes, pair_again}
use Rattle.wasm_binary.proofs.Lists.{vec_sound, vec_complete}
use Rattle.wasm_binary.proofs.Values.{Begins, begins_with, again_from, ref_begins, val_sound, val_complete}

-- ---- storage types

pub storage_sound : IsSound IsStorageType storage_at
unfolding storage_at
storage_sound [] v rest e = absurd cc
storage_sound (b ∷ bytes) v rest e =
    let P : ℕ → Type 0 = λ k. Takes IsStorageType (k ∷ bytes) v rest in
    branch P b 0x78 _ _ (Ok (v, rest)) e (one_takes IsStorageType 0x78 bytes storage.I8 v rest i8) (λ e1.
    branch P b 0x77 _ _ (Ok (v, rest)) e1 (one_takes IsStorageType 0x77 bytes storage.I16 v rest i16)
    (map_takes IsValType IsStorageType val_at (λ k. storage.Val k) [] val_sound (λ t a h. value t a h)
    (b ∷ bytes) v rest))

value_reads : (v : Val ℕ) (rest : List ℕ) (b : ℕ) (bytes : List ℕ) → 0x63 ≤ b → b ≤ 0x74 →
    val_at (b ∷ bytes) ≡ Ok (v, rest) → storage_at (b ∷ bytes) ≡ Ok (storage.Val v, rest)
unfolding storage_at
value_reads v rest b bytes from to e =
    rw (ne_eqb b 0x78 (λ q. omega (arith, q, to)), ne_eqb b 0x77 (λ q. omega (arith, q, to)), e) refl

value_again : (text : List ℕ) (v : Val ℕ) (rest : List ℕ) → IsValType text v →
    val_at (text ++ rest) ≡ Ok (v, rest) → storage_at (text ++ rest) ≡ Ok (storage.Val v, rest)
unfolding storage_at
value_again _ _ rest i32 e = rw e refl
value_again _ _ rest i64 e = rw e refl
value_again _ _ rest f32 e = rw e refl
value_again _ _ rest f64 e = rw e refl
value_again _ _ rest v128 e = rw e refl
value_again _ _ rest (ref text r t) e =
    again_from val_at storage_at (val.Ref r) (storage.Val (val.Ref r)) rest (ref_begins text r t) e
    (value_reads (val.Ref r) rest)

pub storage_complete : IsComplete IsStorageType storage_at
unfolding storage_at
storage_complete _ _ rest i8 = refl
storage_complete _ _ rest i16 = refl
storage_complete _ _ rest (value text v h) = value_again text v rest h (val_complete text v rest h)

-- ---- fields

abbrev IsMutability : List ℕ → Bool → Type 0
IsMutability text m = text ≡ mutability_code m ∷ []

mutability_sound : IsSound IsMutability mutability_at
unfolding mutability_at
mutability_sound [] v rest e = absurd cc
mutability_sound (b ∷ bytes) v rest e =
    let P : ℕ → Type 0 = λ k. Takes IsMutability (k ∷ bytes) v rest in
    branch P b 0x00 _ _ (Ok (v, rest)) e (one_takes IsMutability 0x00 bytes false v rest refl) (λ e1.
    branch P b 0x01 _ _ (Ok (v, rest)) e1 (one_takes IsMutability 0x01 bytes true v rest refl) (λ e2.
    absurd cc))

mutability_at_code : (m : Bool) (rest : List ℕ) → mutability_at (mutability_code m ∷ rest) ≡ Ok (m, rest)
unfolding mutability_at
mutability_at_code false rest = refl
mutability_at_code true rest = refl

mutability_complete : IsComplete IsMutability mutability_at
mutability_complete text m rest h = ap (λ (u : List ℕ). mutability_at (u ++ rest)) h
    ∙ mutability_at_code m rest

abbrev made_field : Storage ℕ → Bool → Field ℕ
made_field s m = record { element_type = s; mutable = m }

field_text : (s t : List ℕ) (a : Storage ℕ) (m : Bool) → IsStorageType s a → IsMutability t m →
    IsFieldType (s ++ t) (made_field a m)
field_text s t a m h k = subst (λ (u : List ℕ). IsFieldType (s ++ u) (made_field a m)) (sym k) (field s a m h)

pub field_sound : IsSound IsFieldType field_at
unfolding field_at
field_sound bytes v rest e =
    pair_takes IsStorageType IsMutability IsFieldType storage_at mutability_at made_field [] storage_sound
    mutability_sound field_text bytes v rest e

pub field_complete : IsComplete IsFieldType field_at
unfolding field_at
field_complete _ _ rest (field text s m h) =
    pair_again IsStorageType IsMutability storage_at mutability_at made_field storage_complete
    mutability_complete text (mutability_code m ∷ []) s m rest h refl

-- ---- composite types

abbrev made_function : List (Val ℕ) → List (Val ℕ) → CompAt
made_function ps rs = comp.Function ps rs

function_takes : (bytes : List ℕ) (v : CompAt) (rest : List ℕ) → function_at bytes ≡ Ok (v, rest) →
    Takes IsCompType (0x60 ∷ bytes) v rest
unfolding function_at
function_takes bytes v rest e =
    pair_takes (IsVec IsValType) (IsVec IsValType) IsCompType (vec_at val_at) (vec_at val_at) made_function
    (0x60 ∷ []) (vec_sound IsValType val_at val_sound) (vec_sound IsValType val_at val_sound)
    (λ s t a b h k. function s t a b h k) bytes v rest e

function_again : (s t : List ℕ) (ps rs : List (Val ℕ)) (rest : List ℕ) → IsVec IsValType s ps →
    IsVec IsValType t rs → function_at ((s ++ t) ++ rest) ≡ Ok (comp.Function ps rs, rest)
unfolding function_at
function_again s t ps rs rest h k =
    pair_again (IsVec IsValType) (IsVec IsValType) (vec_at val_at) (vec_at val_at) made_function
    (vec_complete IsValType val_at val_complete) (vec_complete IsValType val_at val_complete) s t ps rs
    rest h k

pub comp_sound : IsSound IsCompType comp_at
unfolding comp_at
comp_sound [] v rest e = absurd cc
comp_sound (b ∷ bytes) v rest e =
    let P : ℕ → Type 0 = λ k. Takes IsCompType (k ∷ bytes) v rest in
    branch P b 0x60 _ _ (Ok (v, rest)) e (function_takes bytes v rest) (λ e1.
    branch P b 0x5F _ _ (Ok (v, rest)) e1 (map_takes (IsVec IsFieldType) IsCompType (vec_at field_at) (λ fs.
    comp.Struct fs) (0x5F ∷ []) (vec_sound IsFieldType field_at field_sound) (λ t a h. struct t a h) bytes
    v rest) (λ e2.
    branch P b 0x5E _ _ (Ok (v, rest)) e2 (map_takes IsFieldType IsCompType field_at (λ f. comp.Array f)
    (0x5E ∷ []) field_sound (λ t a h. array t a h) bytes v rest) (λ e3.
    split (nat_eq b 0x5D) _ _ (Ok (v, rest)) e3 (λ q. absurd cc) (λ e4.
    split (nat_eq b 0x65) _ _ (Ok (v, rest)) e4 (λ q. absurd cc) (λ e5.
    split (nat_eq b 0x4C || nat_eq b 0x4D) _ _ (Ok (v, rest)) e5 (λ q. absurd cc) (λ q. absurd cc))))))

pub comp_complete : IsComplete IsCompType comp_at
unfolding comp_at
comp_complete _ _ rest (array text f h) = rw (field_complete text f rest h) refl
comp_complete _ _ rest (struct text fs h) = rw
    (vec_complete IsFieldType field_at field_complete text fs rest h) refl
comp_complete _ _ rest (function s t ps rs h k) = function_again s t ps rs rest h k

pub comp_begins : (text : List ℕ) (c : CompAt) → IsCompType text c → Begins text 0x5E 0x60
comp_begins _ _ (array text f h) = begins_with 0x5E text (omega arith) (omega arith)
comp_begins _ _ (struct text fs h) = begins_with 0x5F text (omega arith) (omega arith)
comp_begins _ _ (function s t ps rs h k) = begins_with 0x60 (s ++ t) (omega arith) (omega arith)
