-- The words of a definition, read back: so two definitions with the same words are the same.
use Rattle.std.proofs.Common.{◌≡◌, ℕ, ◌<◌, ◌^◌, Bool, true, false, List, [], ◌∷◌, ◌++◌, map, take, drop, refl, sym, ◌∙◌, ap, arith}
use Rattle.std.specs.Prelude.{◌&&◌, nat_lt, nat_eq, Option, Some, None, codes, decimal, if◌then◌else◌}
use Rattle.std.specs.List.{flat_map}
use Rattle.std.specs.Char.{digit_value}
use Rattle.std.specs.Str.Parse.{IsNumeral, digits_value}
use Rattle.std.proofs.lemmas.Bool.{lt-ltb}
use Rattle.std.proofs.lemmas.Fmt.{decimal_is_IsNumeral}
use Rattle.walrus_ty.specs.declared.ty.value.AbstractHeapType.{AbstractHeapType}
use Rattle.walrus_ty.specs.declared.ty.value.AbstractHeapType.TheVariants as abstract
use Rattle.walrus_ty.specs.declared.ty.value.Heap.{Heap}
use Rattle.walrus_ty.specs.declared.ty.value.Heap.TheVariants as heap
use Rattle.walrus_ty.specs.declared.ty.value.Val.{Val}
use Rattle.walrus_ty.specs.declared.ty.value.Val.TheVariants as val
use Rattle.walrus_ty.specs.declared.ty.value.Storage.{Storage}
use Rattle.walrus_ty.specs.declared.ty.value.Storage.TheVariants as storage
use Rattle.walrus_ty.specs.declared.ty.value.Field.{Field}
use Rattle.walrus_ty.specs.declared.records.CompAt.{CompAt}
use Rattle.walrus_ty.specs.declared.records.CompAt.TheVariants as comp
use Rattle.walrus_ty.specs.declared.records.EntryAt.{EntryAt}
use Rattle.walrus_ty.specs.Value.{heap_names, val_names, storage_names, field_names}
use Rattle.walrus_ty.specs.Definition.{names_of, composite_names, supertype_names}
use Rattle.walrus_ty.specs.Records.{comp_composite, entry_definition}
use Rattle.walrus_text.specs.Text.{AreIndices, name_word, heap_word, val_word, storage_word, field_word, composite_words, open_words, supertype_words, entry_words}
use Rattle.walrus_text.proofs.Basics.{all_left, all_right}

abbrev same_bytes : List ℕ → List ℕ → Bool
same_bytes [] [] = true
same_bytes [] (d ∷ ds) = false
same_bytes (c ∷ cs) [] = false
same_bytes (c ∷ cs) (d ∷ ds) = nat_eq c d && same_bytes cs ds

-- numbers

abbrev number : List ℕ → ℕ
number word = digits_value 10 word

number_back : (k : ℕ) → k < 2 ^ 32 → number (decimal k) ≡ k
number_back k small = (decimal_is_IsNumeral k (omega (arith, small))).1

abbrev has_digit_first : List ℕ → Bool
has_digit_first [] = false
has_digit_first (c ∷ cs) = nat_lt (digit_value c) 10

digit_first : (ds : List ℕ) → IsNumeral 10 ds → has_digit_first ds ≡ true
digit_first [] h = absurd (omega (arith, h.0))
digit_first (c ∷ cs) h = lt-ltb (digit_value c) 10 h.1.0

number_first : (k : ℕ) → k < 2 ^ 32 → has_digit_first (decimal k) ≡ true
number_first k small = digit_first (decimal k) (decimal_is_IsNumeral k (omega (arith, small))).0

-- heap types

abbrev name_read : List ℕ → AbstractHeapType
name_read word =
    if same_bytes word (codes "func") then abstract.Func else
    (if same_bytes word (codes "extern") then abstract.Extern else
    (if same_bytes word (codes "any") then abstract.Any else
    (if same_bytes word (codes "none") then abstract.None else
    (if same_bytes word (codes "noextern") then abstract.NoExtern else
    (if same_bytes word (codes "nofunc") then abstract.NoFunc else
    (if same_bytes word (codes "eq") then abstract.Eq else
    (if same_bytes word (codes "struct") then abstract.Struct else
    (if same_bytes word (codes "array") then abstract.Array else
    (if same_bytes word (codes "i31") then abstract.I31 else
    (if same_bytes word (codes "exn") then abstract.Exn else abstract.NoExn))))))))))

abbrev other_heap_read : List ℕ → Heap ℕ
other_heap_read word =
    if same_bytes (take 6 word) (codes "exact:") then heap.Exact (number (drop 6 word))
    else heap.Abstract (name_read word)

abbrev heap_read : List ℕ → Heap ℕ
heap_read word = if has_digit_first word then heap.Concrete (number word) else other_heap_read word

name_back : (a : AbstractHeapType) → heap_read (name_word a) ≡ heap.Abstract a
name_back abstract.Func = refl
name_back v = refl

heap_back : (h : Heap ℕ) → AreIndices (heap_names h) → heap_read (heap_word h) ≡ h
heap_back (heap.Abstract a) fits = name_back a
heap_back (heap.Concrete k) fits =
    ap (λ (b : Bool). if b then heap.Concrete (number (decimal k)) else other_heap_read (decimal k))
    (number_first k fits.0)
    ∙ ap (λ (n : ℕ). heap.Concrete n) (number_back k fits.0)
heap_back (heap.Exact k) fits = ap (λ (n : ℕ). heap.Exact n) (number_back k fits.0)

-- value types

abbrev reference : Bool → Heap ℕ → Val ℕ
reference nullable h = val.Ref (record { nullable = nullable; heap_type = h })

abbrev plain_read : List ℕ → Val ℕ
plain_read word =
    if same_bytes word (codes "i32") then val.I32 else
    (if same_bytes word (codes "i64") then val.I64 else
    (if same_bytes word (codes "f32") then val.F32 else
    (if same_bytes word (codes "f64") then val.F64 else val.V128)))

abbrev other_val_read : List ℕ → Val ℕ
other_val_read word =
    if same_bytes (take 4 word) (codes "ref:") then reference false (heap_read (drop 4 word))
    else plain_read word

abbrev val_read : List ℕ → Val ℕ
val_read word =
    if same_bytes (take 5 word) (codes "null:") then reference true (heap_read (drop 5 word))
    else other_val_read word

reference_back :
    (nullable : Bool) (h : Heap ℕ) → AreIndices (heap_names h) →
    val_read (val_word (reference nullable h)) ≡ reference nullable h
reference_back true h fits = ap (λ (g : Heap ℕ). reference true g) (heap_back h fits)
reference_back false h fits = ap (λ (g : Heap ℕ). reference false g) (heap_back h fits)

val_back : (v : Val ℕ) → AreIndices (val_names v) → val_read (val_word v) ≡ v
val_back (val.Ref r) fits = reference_back r.nullable r.heap_type fits
val_back v fits = refl

-- fields

abbrev storage_read : List ℕ → Storage ℕ
storage_read word =
    if same_bytes word (codes "i8") then storage.I8 else
    (if same_bytes word (codes "i16") then storage.I16 else storage.Val (val_read word))

storage_reference_back :
    (nullable : Bool) (h : Heap ℕ) → AreIndices (heap_names h) →
    storage_read (val_word (reference nullable h)) ≡ storage.Val (reference nullable h)
storage_reference_back true h fits = ap (λ (v : Val ℕ). storage.Val v) (reference_back true h fits)
storage_reference_back false h fits = ap (λ (v : Val ℕ). storage.Val v) (reference_back false h fits)

storage_back : (s : Storage ℕ) → AreIndices (storage_names s) → storage_read (storage_word s) ≡ s
storage_back (storage.Val (val.Ref r)) fits = storage_reference_back r.nullable r.heap_type fits
storage_back v fits = refl

abbrev field : Bool → Storage ℕ → Field ℕ
field mutable s = record { element_type = s; mutable = mutable }

abbrev field_read : List ℕ → Field ℕ
field_read word =
    if same_bytes (take 4 word) (codes "mut:") then field true (storage_read (drop 4 word))
    else field false (storage_read word)

reference_not_mut :
    (nullable : Bool) (h : Heap ℕ) →
    same_bytes (take 4 (val_word (reference nullable h))) (codes "mut:") ≡ false
reference_not_mut true h = refl
reference_not_mut false h = refl

not_mut : (s : Storage ℕ) → same_bytes (take 4 (storage_word s)) (codes "mut:") ≡ false
not_mut (storage.Val (val.Ref r)) = reference_not_mut r.nullable r.heap_type
not_mut v = refl

field_parts_back :
    (mutable : Bool) (s : Storage ℕ) → AreIndices (storage_names s) →
    field_read (field_word (field mutable s)) ≡ field mutable s
field_parts_back true s fits = ap (λ (t : Storage ℕ). field true t) (storage_back s fits)
field_parts_back false s fits =
    ap (λ (b : Bool). if b then field true (storage_read (drop 4 (storage_word s))) else
    field false (storage_read (storage_word s))) (not_mut s)
    ∙ ap (λ (t : Storage ℕ). field false t) (storage_back s fits)

field_back : (f : Field ℕ) → AreIndices (field_names f) → field_read (field_word f) ≡ f
field_back f fits = field_parts_back f.mutable f.element_type fits

-- lists of them

all_back :
    {X : Type 0} (read : List ℕ → X) (word : X → List ℕ) (names : X → List ℕ) →
    ((x : X) → AreIndices (names x) → read (word x) ≡ x) → (xs : List X) →
    AreIndices (flat_map names xs) → map read (map word xs) ≡ xs
all_back read word names back [] fits = refl
all_back {X} read word names back (x ∷ xs) fits =
    ap (λ (y : X). y ∷ map read (map word xs)) (back x
    (all_left (λ i. i < 2 ^ 32) (names x) (flat_map names xs) fits))
    ∙ ap (λ (ys : List X). x ∷ ys) (all_back read word names back xs
    (all_right (λ i. i < 2 ^ 32) (names x) (flat_map names xs) fits))

abbrev before_arrow : List (List ℕ) → List (List ℕ)
before_arrow [] = []
before_arrow (w ∷ ws) = if same_bytes w (codes "->") then [] else w ∷ before_arrow ws

abbrev after_arrow : List (List ℕ) → List (List ℕ)
after_arrow [] = []
after_arrow (w ∷ ws) = if same_bytes w (codes "->") then ws else after_arrow ws

reference_not_arrow :
    (nullable : Bool) (h : Heap ℕ) → same_bytes (val_word (reference nullable h)) (codes "->") ≡ false
reference_not_arrow true h = refl
reference_not_arrow false h = refl

not_arrow : (v : Val ℕ) → same_bytes (val_word v) (codes "->") ≡ false
not_arrow (val.Ref r) = reference_not_arrow r.nullable r.heap_type
not_arrow v = refl

params_before :
    (vs : List (Val ℕ)) (ws : List (List ℕ)) →
    before_arrow (map val_word vs ++ codes "->" ∷ ws) ≡ map val_word vs
params_before [] ws = refl
params_before (v ∷ vs) ws =
    ap (λ (b : Bool). if b then [] else val_word v ∷ before_arrow (map val_word vs ++ codes "->" ∷ ws))
    (not_arrow v)
    ∙ ap (λ (us : List (List ℕ)). val_word v ∷ us) (params_before vs ws)

results_after :
    (vs : List (Val ℕ)) (ws : List (List ℕ)) →
    after_arrow (map val_word vs ++ codes "->" ∷ ws) ≡ ws
results_after [] ws = refl
results_after (v ∷ vs) ws =
    ap (λ (b : Bool). if b then map val_word vs ++ codes "->" ∷ ws else
    after_arrow (map val_word vs ++ codes "->" ∷ ws)) (not_arrow v)
    ∙ results_after vs ws

-- composite types

abbrev first_word : List (List ℕ) → List ℕ
first_word [] = []
first_word (w ∷ ws) = w

abbrev composite_read : List (List ℕ) → CompAt
composite_read [] = comp.Struct []
composite_read (w ∷ ws) =
    if same_bytes w (codes "func") then
    comp.Function (map val_read (before_arrow ws)) (map val_read (after_arrow ws))
    else (if same_bytes w (codes "struct") then comp.Struct (map field_read ws)
    else comp.Array (field_read (first_word ws)))

vals_back :
    (vs : List (Val ℕ)) (ws : List (List ℕ)) → AreIndices (flat_map val_names vs) →
    ws ≡ map val_word vs → map val_read ws ≡ vs
vals_back vs ws fits e = ap (map val_read) e ∙ all_back val_read val_word val_names val_back vs fits

composite_back :
    (c : CompAt) → AreIndices (composite_names (comp_composite c)) →
    composite_read (composite_words c) ≡ c
composite_back (comp.Function ps rs) fits =
    ap (λ (us : List (Val ℕ)). comp.Function us
    (map val_read (after_arrow (map val_word ps ++ codes "->" ∷ map val_word rs))))
    (vals_back ps (before_arrow (map val_word ps ++ codes "->" ∷ map val_word rs))
    (all_left (λ i. i < 2 ^ 32) (flat_map val_names ps) (flat_map val_names rs) fits)
    (params_before ps (map val_word rs)))
    ∙ ap (λ (us : List (Val ℕ)). comp.Function ps us)
    (vals_back rs (after_arrow (map val_word ps ++ codes "->" ∷ map val_word rs))
    (all_right (λ i. i < 2 ^ 32) (flat_map val_names ps) (flat_map val_names rs) fits)
    (results_after ps (map val_word rs)))
composite_back (comp.Struct fs) fits = ap (λ (gs : List (Field ℕ)). comp.Struct gs)
    (all_back field_read field_word field_names field_back fs fits)
composite_back (comp.Array f) fits = ap (λ (g : Field ℕ). comp.Array g) (field_back f fits)

-- definitions

abbrev entry : Bool → Option ℕ → CompAt → EntryAt
entry is_final supertype c = record { comp = c; is_final = is_final; supertype = supertype }

abbrev subtype_read : Bool → List (List ℕ) → EntryAt
subtype_read is_final [] = entry is_final None (composite_read [])
subtype_read is_final (w ∷ ws) =
    if same_bytes (take 4 w) (codes "sub:") then
    entry is_final (Some (number (drop 4 w))) (composite_read ws)
    else entry is_final None (composite_read (w ∷ ws))

abbrev entry_read : List (List ℕ) → EntryAt
entry_read [] = subtype_read true []
entry_read (w ∷ ws) = if same_bytes w (codes "open") then subtype_read false ws else
    subtype_read true (w ∷ ws)

subtype_back :
    (b : Bool) (s : Option ℕ) (c : CompAt) → AreIndices (composite_names (comp_composite c)) →
    AreIndices (supertype_names s) →
    subtype_read b (supertype_words s ++ composite_words c) ≡ entry b s c
subtype_back b (Some k) c fits small =
    ap (λ (n : ℕ). entry b (Some n) (composite_read (composite_words c))) (number_back k small.0)
    ∙ ap (λ (d : CompAt). entry b (Some k) d) (composite_back c fits)
subtype_back b None (comp.Function ps rs) fits small =
    ap (λ (d : CompAt). entry b None d) (composite_back (comp.Function ps rs) fits)
subtype_back b None (comp.Struct fs) fits small =
    ap (λ (d : CompAt). entry b None d) (composite_back (comp.Struct fs) fits)
subtype_back b None (comp.Array f) fits small =
    ap (λ (d : CompAt). entry b None d) (composite_back (comp.Array f) fits)

parts_back :
    (b : Bool) (s : Option ℕ) (c : CompAt) → AreIndices (composite_names (comp_composite c)) →
    AreIndices (supertype_names s) →
    entry_read (open_words b ++ (supertype_words s ++ composite_words c)) ≡ entry b s c
parts_back false s c fits small = subtype_back false s c fits small
parts_back true (Some k) c fits small = subtype_back true (Some k) c fits small
parts_back true None (comp.Function ps rs) fits small =
    subtype_back true None (comp.Function ps rs) fits small
parts_back true None (comp.Struct fs) fits small = subtype_back true None (comp.Struct fs) fits small
parts_back true None (comp.Array f) fits small = subtype_back true None (comp.Array f) fits small

entry_back : (e : EntryAt) → AreIndices (names_of (entry_definition e)) → entry_read (entry_words e) ≡ e
entry_back e fits =
    parts_back e.is_final e.supertype e.comp
    (all_left (λ i. i < 2 ^ 32) (composite_names (comp_composite e.comp)) (supertype_names e.supertype) fits)
    (all_right (λ i. i < 2 ^ 32) (composite_names (comp_composite e.comp)) (supertype_names e.supertype) fits)

pub same_entry :
    (d e : EntryAt) → AreIndices (names_of (entry_definition d)) →
    AreIndices (names_of (entry_definition e)) → entry_words d ≡ entry_words e → d ≡ e
same_entry d e fits others h = sym (entry_back d fits) ∙ (ap entry_read h ∙ entry_back e others)
