-- The shortest text of a type section is determined.
use Rattle.std.proofs.Common.{◌≡◌, ℕ, ◌^◌, ◌≤◌, true, List, [], ◌∷◌, ◌++◌, length, refl, ap, ◌∙◌, arith, length-append}
use Rattle.walrus_ty.specs.Definition.{supertype_names}
use Rattle.wasm_binary.specs.Leb128.{IsInteger, IsU32}
use Rattle.wasm_binary.specs.Grammar.{AreItems, none, next, IsVec, counted, IsHeapType, abstract_type, index, exact_index, null_code, IsRefType, written_out, abbreviated, IsValType, i32, i64, f32, f64, v128, ref, IsStorageType, i8, i16, value, mutability_code, IsFieldType, field, IsCompType, array, struct, function, sub_code, IsSubType, declared, plain, IsRecType, rec, single, IsTypes}
use Rattle.wasm_module.proofs.NumberTexts.{text_once}

-- no text of this value is shorter
abbrev pub IsLeast : {A : Type 0} → (List ℕ → A → Type 0) → List ℕ → A → Type 0
IsLeast IsText text x = (others : List ℕ) → IsText others x → length text ≤ length others

-- two shortest texts of a value are the same
abbrev pub OneLeast : {A : Type 0} → (List ℕ → A → Type 0) → Type 0
OneLeast {A} IsText =
    (a b : List ℕ) (x : A) → IsText a x → IsText b x → IsLeast IsText a x → IsLeast IsText b x → a ≡ b

integer_once : (end : ℕ) → OneLeast (IsInteger end (2 ^ 32))
integer_once end a b n h k l m =
    text_once end 0 a b n n (record { is_text = h; wide = omega arith; shortest = λ o t le. l o t })
    (record { is_text = k; wide = omega arith; shortest = λ o t le. m o t }) refl

-- ---- lists

joined_prefix : (a b o : List ℕ) → length (a ++ b) ≤ length (o ++ b) → length a ≤ length o
joined_prefix a b o h = omega (arith, h, length-append a b, length-append o b)

joined_back : (a b o : List ℕ) → length (a ++ b) ≤ length (a ++ o) → length b ≤ length o
joined_back a b o h = omega (arith, h, length-append a b, length-append a o)

later_less : (n : ℕ) (b o : List ℕ) → length (n ∷ b) ≤ length (n ∷ o) → length b ≤ length o
later_less n b o h = omega (arith, h)

both_same : (a b x y : List ℕ) → a ≡ x → b ≡ y → a ++ b ≡ x ++ y
both_same a b x y e f = ap (λ (u : List ℕ). u ++ b) e ∙ ap (λ (u : List ℕ). x ++ u) f

items_once : {A : Type 0} (IsText : List ℕ → A → Type 0) → OneLeast IsText → OneLeast (AreItems IsText)
items_once IsText once _ _ _ none none l m = refl
items_once IsText once _ _ _ (next a r x xs h hs) (next b s _ _ k ks) l m =
    both_same a r b s
    (once a b x h k (λ o t. joined_prefix a r o (l (o ++ r) (next o r x xs t hs)))
    (λ o t. joined_prefix b s o (m (o ++ s) (next o s x xs t ks))))
    (items_once IsText once r s xs hs ks (λ o t. joined_back a r o (l (a ++ o) (next a o x xs h t)))
    (λ o t. joined_back b s o (m (b ++ o) (next b o x xs k t))))

vec_once : {A : Type 0} (IsText : List ℕ → A → Type 0) → OneLeast IsText → OneLeast (IsVec IsText)
vec_once IsText once _ _ _ (counted a r xs h hs) (counted b s _ k ks) l m =
    both_same a r b s
    (integer_once 0x80 a b (length xs) h k
    (λ o t. joined_prefix a r o (l (o ++ r) (counted o r xs t hs)))
    (λ o t. joined_prefix b s o (m (o ++ s) (counted o s xs t ks))))
    (items_once IsText once r s xs hs ks (λ o t. joined_back a r o (l (a ++ o) (counted a o xs h t)))
    (λ o t. joined_back b s o (m (b ++ o) (counted b o xs k t))))

-- ---- value types

heap_once : OneLeast IsHeapType
heap_once _ _ _ (abstract_type a) (abstract_type _) l m = refl
heap_once _ _ _ (index a k h) (index b _ g) l m =
    integer_once 0x40 a b k h g (λ o t. l o (index o k t)) (λ o t. m o (index o k t))
heap_once _ _ _ (exact_index a k h) (exact_index b _ g) l m =
    ap (λ (u : List ℕ). 0x62 ∷ u)
    (integer_once 0x80 a b k h g (λ o t. later_less 0x62 a o (l (0x62 ∷ o) (exact_index o k t)))
    (λ o t. later_less 0x62 b o (m (0x62 ∷ o) (exact_index o k t))))

reference_once : OneLeast IsRefType
reference_once _ _ _ (written_out a n h t) (written_out b _ _ u) l m =
    ap (λ (u : List ℕ). null_code n ∷ u)
    (heap_once a b h t u (λ o k. later_less (null_code n) a o (l (null_code n ∷ o) (written_out o n h k)))
    (λ o k. later_less (null_code n) b o (m (null_code n ∷ o) (written_out o n h k))))
reference_once _ _ _ (written_out _ _ _ (abstract_type a)) (abbreviated _) l m =
    absurd (let k = l _ (abbreviated a) in omega (arith, k))
reference_once _ _ _ (abbreviated _) (written_out _ _ _ (abstract_type a)) l m =
    absurd (let k = m _ (abbreviated a) in omega (arith, k))
reference_once _ _ _ (abbreviated a) (abbreviated _) l m = refl

val_once : OneLeast IsValType
val_once _ _ _ i32 i32 l m = refl
val_once _ _ _ i64 i64 l m = refl
val_once _ _ _ f32 f32 l m = refl
val_once _ _ _ f64 f64 l m = refl
val_once _ _ _ v128 v128 l m = refl
val_once _ _ _ (ref a r h) (ref b _ k) l m =
    reference_once a b r h k (λ o t. l o (ref o r t)) (λ o t. m o (ref o r t))

-- ---- fields and composite types

storage_once : OneLeast IsStorageType
storage_once _ _ _ i8 i8 l m = refl
storage_once _ _ _ i16 i16 l m = refl
storage_once _ _ _ (value a v h) (value b _ k) l m =
    val_once a b v h k (λ o t. l o (value o v t)) (λ o t. m o (value o v t))

field_once : OneLeast IsFieldType
field_once _ _ _ (field a s n h) (field b _ _ k) l m =
    ap (λ (u : List ℕ). u ++ mutability_code n ∷ [])
    (storage_once a b s h k
    (λ o t. joined_prefix a (mutability_code n ∷ []) o (l (o ++ mutability_code n ∷ []) (field o s n t)))
    (λ o t. joined_prefix b (mutability_code n ∷ []) o (m (o ++ mutability_code n ∷ []) (field o s n t))))

comp_once : OneLeast IsCompType
comp_once _ _ _ (array a f h) (array b _ k) l m =
    ap (λ (u : List ℕ). 0x5E ∷ u)
    (field_once a b f h k (λ o t. later_less 0x5E a o (l (0x5E ∷ o) (array o f t)))
    (λ o t. later_less 0x5E b o (m (0x5E ∷ o) (array o f t))))
comp_once _ _ _ (struct a fs h) (struct b _ k) l m =
    ap (λ (u : List ℕ). 0x5F ∷ u)
    (vec_once IsFieldType field_once a b fs h k (λ o t. later_less 0x5F a o (l (0x5F ∷ o) (struct o fs t)))
    (λ o t. later_less 0x5F b o (m (0x5F ∷ o) (struct o fs t))))
comp_once _ _ _ (function a x ps rs h g) (function b y _ _ k j) l m =
    ap (λ (u : List ℕ). 0x60 ∷ u)
    (both_same a x b y
    (vec_once IsValType val_once a b ps h k
    (λ o t. joined_prefix a x o (later_less 0x60 (a ++ x) (o ++ x) (l (0x60 ∷ o ++ x) (function o x ps rs t
    g))))
    (λ o t. joined_prefix b y o (later_less 0x60 (b ++ y) (o ++ y) (m (0x60 ∷ o ++ y) (function o y ps rs t
    j)))))
    (vec_once IsValType val_once x y rs g j
    (λ o t. joined_back a x o (later_less 0x60 (a ++ x) (a ++ o) (l (0x60 ∷ a ++ o) (function a o ps rs h
    t))))
    (λ o t. joined_back b y o (later_less 0x60 (b ++ y) (b ++ o) (m (0x60 ∷ b ++ o) (function b o ps rs k
    t))))))

-- ---- definitions and groups

-- a composite type alone is shorter than a declared definition
declared_longer : (code : ℕ) (supers bytes : List ℕ) → length (code ∷ supers ++ bytes) ≤ length bytes → ⊥
declared_longer code supers bytes h = omega (arith, h, length-append supers bytes)

entry_once : OneLeast IsSubType
entry_once _ _ _ (declared a x f s c h g) (declared b y _ _ _ k j) l m =
    let code = sub_code f in
    ap (λ (u : List ℕ). code ∷ u)
    (both_same a x b y
    (vec_once IsU32 (integer_once 0x80) a b (supertype_names s) h k
    (λ o t. joined_prefix a x o (later_less code (a ++ x) (o ++ x) (l (code ∷ o ++ x) (declared o x f s c t
    g))))
    (λ o t. joined_prefix b y o (later_less code (b ++ y) (o ++ y) (m (code ∷ o ++ y) (declared o y f s c t
    j)))))
    (comp_once x y c g j
    (λ o t. joined_back a x o (later_less code (a ++ x) (a ++ o) (l (code ∷ a ++ o) (declared a o f s c h
    t))))
    (λ o t. joined_back b y o (later_less code (b ++ y) (b ++ o) (m (code ∷ b ++ o) (declared b o f s c k
    t))))))
entry_once _ _ _ (declared a x _ _ c h g) (plain b _ k) l m =
    absurd (declared_longer (sub_code true) a x (l x (plain x c g)))
entry_once _ _ _ (plain b _ k) (declared a x _ _ c h g) l m =
    absurd (declared_longer (sub_code true) a x (m x (plain x c g)))
entry_once _ _ _ (plain a c h) (plain b _ k) l m =
    comp_once a b c h k (λ o t. l o (plain o c t)) (λ o t. m o (plain o c t))

group_once : OneLeast IsRecType
group_once _ _ _ (rec a es h) (rec b _ k) l m =
    ap (λ (u : List ℕ). 0x4E ∷ u)
    (vec_once IsSubType entry_once a b es h k (λ o t. later_less 0x4E a o (l (0x4E ∷ o) (rec o es t)))
    (λ o t. later_less 0x4E b o (m (0x4E ∷ o) (rec o es t))))
group_once _ _ _ (single a e h) (single b _ k) l m =
    entry_once a b e h k (λ o t. l o (single o e t)) (λ o t. m o (single o e t))

pub shortest_types_once : OneLeast IsTypes
shortest_types_once = vec_once IsRecType group_once
