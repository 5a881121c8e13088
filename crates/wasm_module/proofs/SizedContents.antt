-- A content behind its size, from the front of bytes.
use Rattle.std.proofs.Common.{◌≡◌, ℕ, ◌+◌, ◌<◌, ◌≤◌, List, ◌++◌, length, take, drop, Ok, refl, sym, ap, subst, ◌∙◌, arith, length-append, take-append-drop, take_at, drop_at, length-take-le}
use Rattle.wasm_binary.specs.Leb128.{IsU32}
use Rattle.wasm_binary.specs.Steps.Reading.{u32_at}
use Rattle.wasm_binary.proofs.Basics.{Reading, done, value_is, rest_is}
use Rattle.wasm_binary.proofs.Integers.{u32_sound, u32_complete}
use Rattle.wasm_module.specs.Steps.Heads.{fault}
use Rattle.wasm_module.specs.Steps.NameSections.{TakesSized, BeginsUnsized}

pub no_number : (r : Reading ℕ) (left : List ℕ) (n : ℕ) (rest : List ℕ) → r ≡ fault left → r ≡ Ok (n, rest)
    → ⊥
no_number r left n rest e h = absurd cc

-- two numbers that are read from the same bytes
pub same_number : (r : Reading ℕ) (n m : ℕ) (a b : List ℕ) → r ≡ Ok (n, a) → r ≡ Ok (m, b) →
    (n ≡ m) × (a ≡ b)
same_number r n m a b e h =
    let same : done n a ≡ done m b = sym e ∙ h in
    (value_is n m a b same, rest_is n m a b same)

-- a number that begins the bytes is read from them
pub number_read : (bytes text : List ℕ) (n : ℕ) (rest : List ℕ) → IsU32 text n → bytes ≡ text ++ rest →
    u32_at bytes ≡ Ok (n, rest)
number_read bytes text n rest h e = ap u32_at e ∙ u32_complete text n rest h

pub sized_read : (bytes content rest : List ℕ) → TakesSized content bytes rest →
    u32_at bytes ≡ Ok (length content, content ++ rest)
sized_read bytes content rest t = number_read bytes t.size (length content) (content ++ rest) t.is_size
    t.parts

pub sized_taken : (bytes : List ℕ) (n : ℕ) (behind content rest : List ℕ) → u32_at bytes ≡ Ok (n, behind) →
    n ≤ length behind → content ≡ take n behind → rest ≡ drop n behind → TakesSized content bytes rest
sized_taken bytes n behind content rest e fits prefix back =
    let t = u32_sound bytes n behind e in
    let long : length content ≡ n = ap (λ (u : List ℕ). length u) prefix ∙ length-take-le n behind fits in
    let whole : behind ≡ content ++ rest = sym (take-append-drop n behind)
    ∙ ap (λ (u : List ℕ). u ++ drop n behind) (sym prefix) ∙ ap (λ (u : List ℕ). content ++ u) (sym back) in
    record {
      size = t.text;
      is_size = subst (λ (m : ℕ). IsU32 t.text m) (sym long) t.is_text;
      parts = t.parts ∙ ap (λ (u : List ℕ). t.text ++ u) whole;
    }

-- no size begins the bytes
pub sizeless : (bytes left : List ℕ) → u32_at bytes ≡ fault left → BeginsUnsized bytes
sizeless bytes left e content rest t =
    no_number (u32_at bytes) left _ _ e (sized_read bytes content rest t)

-- the size is that of more bytes than there are
pub cut_off : (bytes : List ℕ) (n : ℕ) (behind : List ℕ) → u32_at bytes ≡ Ok (n, behind) →
    length behind < n → BeginsUnsized bytes
cut_off bytes n behind e cut content rest t =
    let same = same_number (u32_at bytes) n (length content) behind (content ++ rest) e
    (sized_read bytes content rest t) in
    let long : length behind ≡ length content + length rest = ap (λ (u : List ℕ). length u) same.1
    ∙ length-append content rest in
    omega (arith, cut, same.0, long)

-- two contents that begin the same bytes
pub same_content : (bytes content rest others after : List ℕ) → TakesSized content bytes rest →
    TakesSized others bytes after → (content ≡ others) × (rest ≡ after)
same_content bytes content rest others after t s =
    let same = same_number (u32_at bytes) (length content) (length others) (content ++ rest)
    (others ++ after) (sized_read bytes content rest t) (sized_read bytes others after s) in
    let n = length content in (
      sym (take_at content rest n refl) ∙ ap (take n) same.1 ∙ take_at others after n (sym same.0),
      sym (drop_at content rest n refl) ∙ ap (drop n) same.1 ∙ drop_at others after n (sym same.0),
    )
