-- Texts that begin the same bytes name the same types, and have the same sizes.
use Rattle.std.proofs.Common.{◌≡◌, ℕ, List, ◌∷◌, ◌++◌, length, Option, Some, None, sym, ap, ◌∙◌, append_assoc}
use Rattle.std.proofs.lemmas.List.{append_cancel_right}
use Rattle.wasm_binary.specs.Leb128.{IsU32}
use Rattle.wasm_module.specs.declared.kind.Kind.{Kind}
use Rattle.wasm_module.specs.Contents.{section_kinds}
use Rattle.wasm_module.specs.Immediates.{Token, AreTexts, type_names}
use Rattle.wasm_module.specs.NamedTypes.{code_id}
use Rattle.wasm_module.specs.Steps.NameSections.{TakesSized}
use Rattle.wasm_module.specs.SyntaxTrees.{names_in}
use Rattle.wasm_module.proofs.TreesOfTexts.{tokens_names, one_text}

pub same_names : (kinds : List Kind) (t : List ℕ) (ps : List Token) (t' : List ℕ) (qs : List Token)
    (r r' : List ℕ) → AreTexts kinds t ps → AreTexts kinds t' qs → t ++ r ≡ t' ++ r' →
    type_names ps ≡ type_names qs
same_names kinds t ps t' qs r r' h g e =
    sym (tokens_names ps) ∙ ap names_in (one_text kinds t ps t' qs r r' h g e) ∙ tokens_names qs

-- ---- sizes

pub taken : (size content r bytes : List ℕ) → IsU32 size (length content) → bytes ≡ (size ++ content) ++ r →
    TakesSized content bytes r
taken size content r bytes is e =
    record { size = size; is_size = is; parts = e ∙ append_assoc size content r }

pub same_sizes : (size content r size' content' s : List ℕ) → content ≡ content' → r ≡ s →
    (size ++ content) ++ r ≡ (size' ++ content') ++ s → size ≡ size'
same_sizes size content r size' content' s c rest e =
    let t : (size ++ content) ++ r ≡ (size' ++ content') ++ r =
    e ∙ ap (λ (u : List ℕ). (size' ++ content') ++ u) (sym rest) in
    let k : size ++ content ≡ size' ++ content' =
    append_cancel_right (size ++ content) (size' ++ content') r t in
    append_cancel_right size size' content (k ∙ ap (λ (u : List ℕ). size' ++ u) (sym c))

pub named : (size name follows bytes : List ℕ) → IsU32 size (length name) →
    bytes ≡ size ++ (name ++ follows) → TakesSized name bytes follows
named size name follows bytes h e = record { size = size; is_size = h; parts = e }

-- ---- ids

pub same_first : (a b : ℕ) (x y : List ℕ) → a ∷ x ≡ b ∷ y → a ≡ b
same_first a b x y e = cc

pub same_later : (a b : ℕ) (x y : List ℕ) → a ∷ x ≡ b ∷ y → x ≡ y
same_later a b x y e = cc

pub same_kinds : (o : Option (List Kind)) (a b : List Kind) → o ≡ Some a → o ≡ Some b → a ≡ b
same_kinds o a b e h = let k : Some a ≡ Some b = sym e ∙ h in cc

pub no_texts_of_code : (id : ℕ) (kinds : List Kind) → section_kinds id ≡ Some kinds → id ≡ code_id → ⊥
no_texts_of_code id kinds e is = let k : Some kinds ≡ None = sym e ∙ ap section_kinds is in cc
