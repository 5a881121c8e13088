-- Lines of definitions, word by word.
use Rattle.std.proofs.Common.{◌≡◌, ◌≢◌, ℕ, ◌+◌, ◌<◌, ◌^◌, Bool, true, false, List, [], ◌∷◌, ◌++◌, map, length, refl, sym, ◌∙◌, ap, subst, arith}
use Rattle.std.specs.Prelude.{Option, Some, None, codes, decimal, not, if◌then◌else◌}
use Rattle.std.proofs.lemmas.Bool.{false≢true}
use Rattle.walrus_text.specs.Words.{has_items}
use Rattle.walrus_text.specs.Text.{AreIndices, IsText, heap_word, val_word, field_word, open_words, supertype_words, composite_words}
use Rattle.walrus_text.specs.Steps.Parts.{BeginsWith, PassesOver, one_passed, IsValWord, IsFieldWord, IsSupertypeWord, IsCompositeLine, IsSubtypeLine, IsEntryLine}
use Rattle.std.specs.List.{flat_map, AllByRecursion}
use Rattle.walrus_ty.specs.declared.ty.value.Val.{Val}
use Rattle.walrus_ty.specs.declared.ty.value.Val.TheVariants as val
use Rattle.walrus_ty.specs.declared.ty.value.Field.{Field}
use Rattle.walrus_ty.specs.declared.records.CompAt.{CompAt}
use Rattle.walrus_ty.specs.declared.records.CompAt.TheVariants as comp
use Rattle.walrus_ty.specs.declared.records.EntryAt.{EntryAt}
use Rattle.walrus_ty.specs.Value.{val_names, field_names}
use Rattle.walrus_ty.specs.Definition.{composite_names, supertype_names}
use Rattle.walrus_ty.specs.Records.{comp_composite}
use Rattle.walrus_text.proofs.Basics.{all_left, all_right, all_both, all_more, all_each}

-- the first two bytes of the first word
abbrev byte_of : List (List ℕ) → ℕ
byte_of [] = 0
byte_of ([] ∷ ws) = 0
byte_of ((b ∷ w) ∷ ws) = b

abbrev head_of : List ℕ → ℕ
head_of [] = 0
head_of (b ∷ w) = b

abbrev next_byte_of : List (List ℕ) → ℕ
next_byte_of [] = 0
next_byte_of ([] ∷ ws) = 0
next_byte_of ((b ∷ []) ∷ ws) = 0
next_byte_of ((b ∷ c ∷ w) ∷ ws) = c

abbrev rest_of : List (List ℕ) → List (List ℕ)
rest_of [] = []
rest_of (w ∷ ws) = ws

abbrev first_of : List ℕ → List (List ℕ) → List ℕ
first_of d [] = d
first_of d (w ∷ ws) = w

abbrev count : List (List ℕ) → ℕ
count [] = 0
count (w ∷ ws) = 1 + length ws

-- the numbers in some value types and one more
pub fits_more_values :
    (vs : List (Val ℕ)) (v : Val ℕ) → AreIndices (flat_map val_names vs) →
    AreIndices (val_names v) → AreIndices (flat_map val_names (vs ++ v ∷ []))
fits_more_values vs v h k = all_more (λ i. i < 2 ^ 32) val_names vs v h k

pub fits_more_fields :
    (fs : List (Field ℕ)) (f : Field ℕ) → AreIndices (flat_map field_names fs) →
    AreIndices (field_names f) → AreIndices (flat_map field_names (fs ++ f ∷ []))
fits_more_fields fs f h k = all_more (λ i. i < 2 ^ 32) field_names fs f h k

pub fits_both : (xs ys : List ℕ) → AreIndices xs → AreIndices ys → AreIndices (xs ++ ys)
fits_both xs ys h k = all_both (λ i. i < 2 ^ 32) xs ys h k

not_open :
    (s : Option ℕ) (c : CompAt) (rest : List (List ℕ)) →
    codes "open" ∷ rest ≡ supertype_words s ++ composite_words c → ⊥
not_open None (comp.Function ps rs) rest e = let k : 111 ≡ 102 = ap byte_of e in omega (arith, k)
not_open None (comp.Struct fs) rest e = let k : 111 ≡ 115 = ap byte_of e in omega (arith, k)
not_open None (comp.Array f) rest e = let k : 111 ≡ 97 = ap byte_of e in omega (arith, k)
not_open (Some j) c rest e = let k : 111 ≡ 115 = ap byte_of e in omega (arith, k)

subtype_line :
    (e : EntryAt) (ws : List (List ℕ)) →
    AreIndices (composite_names (comp_composite e.comp) ++ supertype_names e.supertype) →
    ws ≡ supertype_words e.supertype ++ composite_words e.comp → IsSubtypeLine ws
subtype_line e ws h k = (
  e.supertype,
  all_right _ (composite_names (comp_composite e.comp)) _ h,
  composite_words e.comp,
  (e.comp, all_left _ _ (supertype_names e.supertype) h, refl),
  k,
)

open_rest :
    (b : Bool) (s : Option ℕ) (c : CompAt) (rest : List (List ℕ)) →
    codes "open" ∷ rest ≡ open_words b ++ (supertype_words s ++ composite_words c) →
    rest ≡ supertype_words s ++ composite_words c
open_rest false s c rest e = ap rest_of e
open_rest true s c rest e = absurd (not_open s c rest e)

pub after_open :
    (word : List ℕ) (rest next : List (List ℕ)) → word ≡ codes "open" → rest ≡ next →
    IsEntryLine (word ∷ rest) → IsSubtypeLine next
after_open word rest next named same (e, fits, k) = subtype_line e next fits
    (sym same ∙ open_rest e.is_final e.supertype e.comp rest (ap (λ w. w ∷ rest) (sym named) ∙ k))

no_open_rest :
    (b : Bool) (word : List ℕ) (rest tail : List (List ℕ)) → word ≢ codes "open" →
    word ∷ rest ≡ open_words b ++ tail → word ∷ rest ≡ tail
no_open_rest false word rest tail other e = absurd (other (ap (first_of []) e))
no_open_rest true word rest tail other e = e

pub without_open :
    (word : List ℕ) (rest : List (List ℕ)) → word ≢ codes "open" → IsEntryLine (word ∷ rest) →
    IsSubtypeLine (word ∷ rest)
without_open word rest other (e, fits, k) = subtype_line e (word ∷ rest) fits
    (no_open_rest e.is_final word rest _ other k)

-- a composite type has words, and so has what follows `open`
some_words : (c : CompAt) → [] ≢ composite_words c
some_words (comp.Function ps rs) e =
    let d : 0 ≡ 1 + length (map val_word ps ++ codes "->" ∷ map val_word rs) = ap count e in omega (arith, d)
some_words (comp.Struct fs) e = let d : 0 ≡ 1 + length (map field_word fs) = ap count e in omega (arith, d)
some_words (comp.Array f) e = let d : 0 ≡ 2 = ap count e in omega (arith, d)

some_more_words : (s : Option ℕ) (c : CompAt) → [] ≢ supertype_words s ++ composite_words c
some_more_words None c e = some_words c e
some_more_words (Some k) c e = let d : 0 ≡ 1 + length (composite_words c) = ap count e in omega (arith, d)

pub only_open :
    (word : List ℕ) (rest : List (List ℕ)) → word ≡ codes "open" → rest ≡ [] →
    ¬ IsEntryLine (word ∷ rest)
only_open word rest named none (e, fits, k) = some_more_words e.supertype e.comp
    (sym none ∙ open_rest e.is_final e.supertype e.comp rest (ap (λ w. w ∷ rest) (sym named) ∙ k))

not_sub :
    (c : CompAt) (k : ℕ) (rest : List (List ℕ)) →
    (codes "sub:" ++ decimal k) ∷ rest ≡ composite_words c → ⊥
not_sub (comp.Function ps rs) k rest e = let d : 115 ≡ 102 = ap byte_of e in omega (arith, d)
not_sub (comp.Struct fs) k rest e = let d : 117 ≡ 116 = ap next_byte_of e in omega (arith, d)
not_sub (comp.Array f) k rest e = let d : 115 ≡ 97 = ap byte_of e in omega (arith, d)

pub after_supertype :
    (k : ℕ) (word : List ℕ) (rest next : List (List ℕ)) → word ≡ codes "sub:" ++ decimal k → rest ≡ next →
    IsSubtypeLine (word ∷ rest) → IsCompositeLine next
after_supertype k word rest next named same (Some j, fits, more, line, e) =
    subst IsCompositeLine (sym (ap rest_of e) ∙ same) line
after_supertype k word rest next named same (None, fits, more, (c, small, spelled), e) =
    absurd (not_sub c k rest (ap (λ w. w ∷ rest) (sym named) ∙ (e ∙ spelled)))

pub only_supertype :
    (k : ℕ) (word : List ℕ) (rest : List (List ℕ)) → word ≡ codes "sub:" ++ decimal k → rest ≡ [] →
    ¬ IsSubtypeLine (word ∷ rest)
only_supertype k word rest named none line =
    let (c, fits, e) = after_supertype k word rest rest named refl line in
    some_words c (sym none ∙ e)

pub without_supertype :
    (word : List ℕ) (rest : List (List ℕ)) → ¬ IsSupertypeWord word → IsSubtypeLine (word ∷ rest) →
    IsCompositeLine (word ∷ rest)
without_supertype word rest none (Some j, fits, more, line, e) =
    absurd (none (j, fits.0, ap (first_of []) e))
without_supertype word rest none (None, fits, more, line, e) = subst IsCompositeLine (sym e) line

-- the words of some values up to one that is none: what is left of any other reading is the same
pub span_rest :
    {X : Type 0} (f : X → List ℕ) (B : X → Type 0) (sep : List ℕ) → ((x : X) → f x ≢ sep) →
    (vs ps : List X) (left more : List (List ℕ)) → ¬ BeginsWith (IsText f B) left →
    AllByRecursion B ps → map f vs ++ left ≡ map f ps ++ sep ∷ more → left ≡ sep ∷ more
span_rest f B sep other [] [] left more stops fits e = e
span_rest f B sep other [] (p ∷ ps) left more stops fits e =
    absurd (stops (subst (BeginsWith (IsText f B)) (sym e) (p, fits.0, refl)))
span_rest f B sep other (v ∷ vs) [] left more stops fits e = absurd (other v (ap (first_of sep) e))
span_rest f B sep other (v ∷ vs) (p ∷ ps) left more stops fits e =
    span_rest f B sep other vs ps left more stops fits.1 (ap rest_of e)

pub span_end :
    {X : Type 0} (f : X → List ℕ) (B : X → Type 0) → (vs ps : List X) (left : List (List ℕ)) →
    ¬ BeginsWith (IsText f B) left → AllByRecursion B ps → map f vs ++ left ≡ map f ps → left ≡ []
span_end f B [] [] left stops fits e = e
span_end f B [] (p ∷ ps) left stops fits e =
    absurd (stops (subst (BeginsWith (IsText f B)) (sym e) (p, fits.0, refl)))
span_end f B (v ∷ vs) [] left stops fits e = let d : 1 + length (map f vs ++ left) ≡ 0 = ap count e in
    absurd (omega (arith, d))
span_end f B (v ∷ vs) (p ∷ ps) left stops fits e = span_end f B vs ps left stops fits.1 (ap rest_of e)

ref_not_arrow :
    (nullable : Bool) (w : List ℕ) →
    (if nullable then codes "null:" else codes "ref:") ++ w ≡ codes "->" → ⊥
ref_not_arrow true w e = let d : 110 ≡ 45 = ap head_of e in omega (arith, d)
ref_not_arrow false w e = let d : 114 ≡ 45 = ap head_of e in omega (arith, d)

val_not_arrow : (v : Val ℕ) → val_word v ≢ codes "->"
val_not_arrow val.I32 e = let d : 105 ≡ 45 = ap head_of e in omega (arith, d)
val_not_arrow val.I64 e = let d : 105 ≡ 45 = ap head_of e in omega (arith, d)
val_not_arrow val.F32 e = let d : 102 ≡ 45 = ap head_of e in omega (arith, d)
val_not_arrow val.F64 e = let d : 102 ≡ 45 = ap head_of e in omega (arith, d)
val_not_arrow val.V128 e = let d : 118 ≡ 45 = ap head_of e in omega (arith, d)
val_not_arrow (val.Ref r) e = ref_not_arrow r.nullable (heap_word r.heap_type) e

-- a function type whose parameters end elsewhere than before `->`, or whose results end before the
-- line
pub no_arrow :
    (ws left : List (List ℕ)) (vs : List (Val ℕ)) → ws ≡ map val_word vs ++ left →
    ¬ BeginsWith IsValWord left → ((more : List (List ℕ)) → left ≢ codes "->" ∷ more) →
    ¬ IsCompositeLine (codes "func" ∷ ws)
no_arrow ws left vs e stops none (comp.Function ps rs, fits, k) =
    let each = all_each (λ i. i < 2 ^ 32) val_names ps
    (all_left _ (flat_map val_names ps) (flat_map val_names rs) fits) in
    none (map val_word rs) (span_rest val_word (λ v. AreIndices (val_names v)) (codes "->") val_not_arrow vs
    ps left (map val_word rs) stops each (sym e ∙ ap rest_of k))
no_arrow ws left vs e stops none (comp.Struct fs, fits, k) = let d : 102 ≡ 115 = ap byte_of k in
    omega (arith, d)
no_arrow ws left vs e stops none (comp.Array f, fits, k) = let d : 102 ≡ 97 = ap byte_of k in omega (arith, d)

pub more_after_results :
    (ws left others last : List (List ℕ)) (vs us : List (Val ℕ)) → ws ≡ map val_word vs ++ left →
    ¬ BeginsWith IsValWord left → left ≡ codes "->" ∷ others → others ≡ map val_word us ++ last →
    ¬ BeginsWith IsValWord last → ¬ (last ≡ []) → ¬ IsCompositeLine (codes "func" ∷ ws)
more_after_results ws left others last vs us e stops arrow f ends some (comp.Function ps rs, fits, k) =
    let each = all_each (λ i. i < 2 ^ 32) val_names ps
    (all_left _ (flat_map val_names ps) (flat_map val_names rs) fits) in
    let eachr = all_each (λ i. i < 2 ^ 32) val_names rs
    (all_right _ (flat_map val_names ps) (flat_map val_names rs) fits) in
    let tail = span_rest val_word (λ v. AreIndices (val_names v)) (codes "->") val_not_arrow vs ps left
    (map val_word rs) stops each (sym e ∙ ap rest_of k) in
    let same : others ≡ map val_word rs = ap rest_of (sym arrow ∙ tail) in
    some (span_end val_word (λ v. AreIndices (val_names v)) us rs last ends eachr (sym f ∙ same))
more_after_results ws left others last vs us e stops arrow f ends some (comp.Struct fs, fits, k) =
    let d : 102 ≡ 115 = ap byte_of k in omega (arith, d)
more_after_results ws left others last vs us e stops arrow f ends some (comp.Array g, fits, k) =
    let d : 102 ≡ 97 = ap byte_of k in omega (arith, d)

pub more_after_fields :
    (ws left : List (List ℕ)) (vs : List (Field ℕ)) → ws ≡ map field_word vs ++ left →
    ¬ BeginsWith IsFieldWord left → ¬ (left ≡ []) → ¬ IsCompositeLine (codes "struct" ∷ ws)
more_after_fields ws left vs e stops some (comp.Struct fs, fits, k) =
    some (span_end field_word (λ f. AreIndices (field_names f)) vs fs left stops
    (all_each (λ i. i < 2 ^ 32) field_names fs fits) (sym e ∙ ap rest_of k))
more_after_fields ws left vs e stops some (comp.Function ps rs, fits, k) = let d : 115 ≡ 102 = ap byte_of k in
    omega (arith, d)
more_after_fields ws left vs e stops some (comp.Array g, fits, k) = let d : 115 ≡ 97 = ap byte_of k in
    omega (arith, d)

-- words that begin as none of the three begin are no composite type
pub no_composite :
    (others : List (List ℕ)) (w : List ℕ) → w ≢ codes "func" → w ≢ codes "struct" → w ≢ codes "array" →
    ¬ IsCompositeLine (w ∷ others)
no_composite others w func struct array (comp.Function ps rs, fits, k) = func (ap (first_of []) k)
no_composite others w func struct array (comp.Struct fs, fits, k) = struct (ap (first_of []) k)
no_composite others w func struct array (comp.Array f, fits, k) = array (ap (first_of []) k)

-- what follows `array` is not one field
pub no_array :
    (ws : List (List ℕ)) → ¬ IsText (λ f. field_word f ∷ []) (λ f. AreIndices (field_names f)) ws →
    ¬ IsCompositeLine (codes "array" ∷ ws)
no_array ws none (comp.Array f, fits, k) = none (f, fits, ap rest_of k)
no_array ws none (comp.Function ps rs, fits, k) = let d : 97 ≡ 102 = ap byte_of k in omega (arith, d)
no_array ws none (comp.Struct fs, fits, k) = let d : 97 ≡ 115 = ap byte_of k in omega (arith, d)

pub not_blank : (ws : List (List ℕ)) → not (has_items ws) ≡ false → ¬ (ws ≡ [])
not_blank [] h e = false≢true (sym h)
not_blank (w ∷ ws) h e = let d : 1 + length ws ≡ 0 = ap count e in omega (arith, d)

pub blank_is : (ws : List (List ℕ)) → not (has_items ws) ≡ true → ws ≡ []
blank_is [] h = refl
blank_is (w ∷ ws) h = absurd (false≢true h)

pub not_alone :
    (others : List (List ℕ)) (w wanted : List ℕ) → not (has_items others) ≡ false →
    w ∷ others ≢ wanted ∷ []
not_alone others w wanted h k = not_blank others h (ap rest_of k)

-- one more word is passed over
pub passes_value : (words others after : List (List ℕ)) (v : Val ℕ) → PassesOver IsValWord words others →
    others ≡ val_word v ∷ after → AreIndices (val_names v) → PassesOver IsValWord words after
passes_value words others after v h e fits =
    one_passed (val_word v) after (subst (λ (ws : List (List ℕ)). PassesOver IsValWord words ws) e h)
    (v, fits, refl)

pub passes_field : (words others after : List (List ℕ)) (f : Field ℕ) → PassesOver IsFieldWord words others →
    others ≡ field_word f ∷ after → AreIndices (field_names f) → PassesOver IsFieldWord words after
passes_field words others after f h e fits =
    one_passed (field_word f) after (subst (λ (ws : List (List ℕ)). PassesOver IsFieldWord words ws) e h)
    (f, fits, refl)
