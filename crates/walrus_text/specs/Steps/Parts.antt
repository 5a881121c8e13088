-- The words and the lines that are the text of some part of a section, as `IsEntryLine` is of a
-- definition: what each function of the parser takes, and nothing else.
use Rattle.std.specs.Prelude.{ℕ, Bool, List, [], ◌∷◌, ◌++◌, ◌==◌, Option, codes, decimal, ◌≡◌, ◌<◌, ◌^◌, ◌⊎◌, ◌||◌, ◌&&◌, nat_lt, length, slice_index}
use Rattle.walrus_ty.specs.Value.{heap_names, val_names, storage_names, field_names}
use Rattle.walrus_ty.specs.Definition.{names_of, composite_names, supertype_names}
use Rattle.walrus_ty.specs.Records.{entry_definition, comp_composite}
use Rattle.walrus_ty.specs.declared.ty.value.AbstractHeapType.{AbstractHeapType}
use Rattle.walrus_text.specs.Text.{name_word, heap_word, val_word, storage_word, field_word, composite_words, supertype_words, entry_words, AreIndices, IsText}

-- the first word, where there is one, has P
abbrev pub BeginsWith : (List ℕ → Type 0) → List (List ℕ) → Type 0
BeginsWith P [] = ⊥
BeginsWith P (w ∷ ws) = P w

-- The second words are the first ones without some at the front, each of which has P.
pub data PassesOver (P : List ℕ → Type 0) (words : List (List ℕ)) : List (List ℕ) → Type 0 where
  all_left : PassesOver P words words
  one_passed :
      (word : List ℕ) (others : List (List ℕ))
      → PassesOver P words (word ∷ others) → P word → PassesOver P words others

abbrev pub IsIndexWord : List ℕ → Type 0
IsIndexWord word = IsText decimal (λ k. k < 2 ^ 32) word

-- a sign or zeros stand before the digits
abbrev pub has_sign_or_leading_zero : List ℕ → Bool
has_sign_or_leading_zero word =
    (slice_index word 0 == 43) || ((slice_index word 0 == 48) && nat_lt 1 (length word))

abbrev pub IsNameWord : List ℕ → Type 0
IsNameWord word = (name : AbstractHeapType) × (word ≡ name_word name)

abbrev pub IsHeapWord : List ℕ → Type 0
IsHeapWord word = IsText heap_word (λ h. AreIndices (heap_names h)) word

-- the word of a value type that is no reference
abbrev pub IsPlainWord : List ℕ → Type 0
IsPlainWord word =
    (word ≡ codes "i32") ⊎ ((word ≡ codes "i64") ⊎
    ((word ≡ codes "f32") ⊎ ((word ≡ codes "f64") ⊎ (word ≡ codes "v128"))))

abbrev pub IsValWord : List ℕ → Type 0
IsValWord word = IsText val_word (λ v. AreIndices (val_names v)) word

-- the word of a storage type that is no value type
abbrev pub IsPackedWord : List ℕ → Type 0
IsPackedWord word = (word ≡ codes "i8") ⊎ (word ≡ codes "i16")

abbrev pub IsStorageWord : List ℕ → Type 0
IsStorageWord word = IsText storage_word (λ s. AreIndices (storage_names s)) word

abbrev pub IsFieldWord : List ℕ → Type 0
IsFieldWord word = IsText field_word (λ f. AreIndices (field_names f)) word

abbrev pub IsSupertypeWord : List ℕ → Type 0
IsSupertypeWord word = IsText (λ k. codes "sub:" ++ decimal k) (λ k. k < 2 ^ 32) word

-- the words of a composite type
abbrev pub IsCompositeLine : List (List ℕ) → Type 0
IsCompositeLine words =
    IsText composite_words (λ c. AreIndices (composite_names (comp_composite c))) words

-- the words of a supertype and a composite type
abbrev pub IsSubtypeLine : List (List ℕ) → Type 0
IsSubtypeLine words =
    (supertype : Option ℕ) × AreIndices (supertype_names supertype) × (rest : List (List ℕ)) ×
    IsCompositeLine rest × (words ≡ supertype_words supertype ++ rest)

abbrev pub IsEntryLine : List (List ℕ) → Type 0
IsEntryLine words = IsText entry_words (λ e. AreIndices (names_of (entry_definition e))) words
