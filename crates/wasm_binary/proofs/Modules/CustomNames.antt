-- The name of a custom section: what is read is one, and each one is read.
use Rattle.std.proofs.Common.{◌≡◌, ℕ, ◌<◌, ◌≤◌, List, ◌∷◌, ◌++◌, length, take, drop, Option, Some, None, Ok, Err, refl, sym, ap, subst, ◌∙◌, arith, length-append, length-take-le, take-append-drop}
use Rattle.std.proofs.lemmas.List.{take_all}
use Rattle.std.specs.Prelude.{IfNone}
use Rattle.wasm_binary.specs.CustomSections.{IsNamed, BeginsCustom}
use Rattle.wasm_binary.specs.Leb128.{IsU32}
use Rattle.wasm_binary.specs.Sections.{IsSizeAt}
use Rattle.wasm_binary.specs.Steps.CustomSections.{IsContentPrefix}
use Rattle.wasm_binary.specs.Steps.Reading.{u32_at}
use Rattle.wasm_binary.specs.declared.error.Fault.{Fault}
use Rattle.wasm_binary.proofs.Basics.{done, value_is, rest_is}
use Rattle.wasm_binary.proofs.Integers.{u32_sound, u32_complete}
use Rattle.wasm_binary.proofs.Modules.Around.{no_size_there}

-- ---- in a content

-- the length of a name is read
length_read : (name content : List ℕ) (t : IsNamed name content) →
    u32_at content ≡ Ok (length name, name ++ t.follows)
length_read name content t =
    ap u32_at t.parts ∙ u32_complete t.size (length name) (name ++ t.follows) t.is_size

pub name_there : (content rest : List ℕ) (n : ℕ) → u32_at content ≡ Ok (n, rest) → n ≤ length rest →
    IsNamed (take n rest) content
name_there content rest n e le =
    let t = u32_sound content n rest e in
    record {
      size = t.text;
      follows = drop n rest;
      is_size = subst (λ k. IsU32 t.text k) (sym (length-take-le n rest le)) t.is_text;
      parts = t.parts ∙ ap (λ (u : List ℕ). t.text ++ u) (sym (take-append-drop n rest));
    }

pub no_name_short : (content rest : List ℕ) (n : ℕ) → u32_at content ≡ Ok (n, rest) → length rest < n →
    (name : List ℕ) → IsNamed name content → ⊥
no_name_short content rest n e lt name t =
    let same = sym e ∙ length_read name content t in
    let n-is : n ≡ length name = value_is n (length name) rest (name ++ t.follows) same in
    let rest-is : rest ≡ name ++ t.follows = rest_is n (length name) rest (name ++ t.follows) same in
    let long = ap (λ (u : List ℕ). length u) rest-is ∙ length-append name t.follows in
    omega (arith, lt, n-is, long)

pub no_name_bad : (content : List ℕ) (f : Fault) → u32_at content ≡ Err f → (name : List ℕ) →
    IsNamed name content → ⊥
no_name_bad content f e name t =
    no_size_there content f e (length name) (t.size, name ++ t.follows, t.is_size, t.parts)

-- ---- in a section

pub prefix_there : (bytes rest : List ℕ) (n : ℕ) → u32_at bytes ≡ Ok (n, rest) →
    IsContentPrefix (take n rest) bytes
prefix_there bytes rest n e =
    let t = u32_sound bytes n rest e in
    record {
      size = t.text;
      count = n;
      rest = rest;
      is_size = t.is_text;
      parts = t.parts;
      prefix = refl;
    }

tail_is : (a b : List ℕ) → ◌≡◌ {A = List ℕ} (0 ∷ a) (0 ∷ b) → a ≡ b
tail_is a b e = ap (λ (u : List ℕ). drop 1 u) e

-- a size is read
size_read : (size rest : List ℕ) (n : ℕ) → IsU32 size n → u32_at (size ++ rest) ≡ Ok (n, rest)
size_read size rest n h = u32_complete size n rest h

pub no_section_unsized : (bytes behind : List ℕ) → bytes ≡ 0 ∷ behind → ((n : ℕ) → IsSizeAt n behind → ⊥)
    → (name : List ℕ) → BeginsCustom name bytes → ⊥
no_section_unsized bytes behind is none name t =
    none t.count (t.size, t.rest, t.is_size, tail_is behind (t.size ++ t.rest) (sym is ∙ t.parts))

pub no_section_nameless : (bytes behind content : List ℕ) → bytes ≡ 0 ∷ behind → IsContentPrefix content behind
    → ((name : List ℕ) → IsNamed name content → ⊥) → (name : List ℕ) → BeginsCustom name bytes → ⊥
no_section_nameless bytes behind content is f none name t =
    let there : behind ≡ t.size ++ t.rest = tail_is behind (t.size ++ t.rest) (sym is ∙ t.parts) in
    let same : done f.count f.rest ≡ done t.count t.rest =
    sym (size_read f.size f.rest f.count f.is_size) ∙ ap u32_at (sym f.parts ∙ there)
    ∙ size_read t.size t.rest t.count t.is_size in
    let count-is : f.count ≡ t.count = value_is f.count t.count f.rest t.rest same in
    let rest-is : f.rest ≡ t.rest = rest_is f.count t.count f.rest t.rest same in
    let prefix-is : take t.count t.rest ≡ content = ap (λ k. take k t.rest) (sym count-is)
    ∙ ap (λ (u : List ℕ). take f.count u) (sym rest-is) ∙ sym f.prefix in
    none name (subst (λ (u : List ℕ). IsNamed name u) prefix-is t.is_named)

pub none_weaker : {X : Type 0} (found : Option X) (P Q : Type 0) → (P → Q) → IfNone found P → IfNone found Q
none_weaker None P Q f none = f none
none_weaker (Some x) P Q f none = tt

pub whole_prefix : (bytes rest : List ℕ) (n : ℕ) → u32_at bytes ≡ Ok (n, rest) → length rest < n →
    IsContentPrefix rest bytes
whole_prefix bytes rest n e lt =
    subst (λ (u : List ℕ). IsContentPrefix u bytes) (take_all n rest (omega (arith, lt)))
    (prefix_there bytes rest n e)
