-- Expressions and function bodies, from a scan.
use Rattle.std.proofs.Common.{◌≡◌, ℕ, List, [], ◌∷◌, length, nat_eq, true, false, refl, sym, ◌∙◌, arith, append-nil, eqb-true}
use Rattle.wasm_module.specs.declared.kind.Kind.{Kind}
use Rattle.wasm_module.specs.declared.scan.ScanError.{ScanError}
use Rattle.wasm_module.specs.declared.scan.ScanError.TheVariants as scan
use Rattle.wasm_module.specs.Immediates.{Token, AreTexts, stop}
use Rattle.wasm_module.specs.Bodies.{Names, body, IsBody, IsNoBody}
use Rattle.wasm_module.specs.Steps.Scans.{IsScanned, IsRefused}
use Rattle.wasm_module.specs.Steps.Contents.{NamesNo}
use Rattle.wasm_module.proofs.Scanning.{follows}

-- ---- texts of all of the bytes

pub names_no : (kinds : List Kind) (bytes : List ℕ) (e : ScanError) → IsRefused kinds bytes e →
    NamesNo kinds bytes e
names_no kinds bytes (scan.Malformed place) h = λ names b. h bytes [] b.tokens (sym (append-nil bytes)) b.are
names_no kinds bytes scan.Memory h = tt

nothing_is_empty : (text : List ℕ) (tokens : List Token) → AreTexts [] text tokens → text ≡ []
nothing_is_empty _ _ (stop _) = refl

-- where bytes are left behind a text, all of them are none
pub left_over : (kinds : List Kind) (bytes rest names : List ℕ) → IsScanned kinds bytes rest names →
    (rest ≡ [] → ⊥) → (others : List ℕ) → Names kinds bytes others → ⊥
left_over kinds bytes rest names s some others b =
    let r = follows kinds s.text s.tokens [] rest bytes b.tokens [] s.are b.are (sym s.parts
    ∙ sym (append-nil bytes)) in
    some (r.parts ∙ append-nil r.text ∙ nothing_is_empty r.text r.tokens r.are)

pub not_empty : (rest : List ℕ) → false ≡ nat_eq (length rest) 0 → rest ≡ [] → ⊥
not_empty [] e h = absurd cc
not_empty (b ∷ rest) e h = absurd cc

pub empty : (rest : List ℕ) → true ≡ nat_eq (length rest) 0 → rest ≡ []
empty [] e = refl
empty (b ∷ rest) e = absurd (omega (arith, eqb-true (length (b ∷ rest)) 0 (sym e)))

-- ---- function bodies

pub no_body : (bytes : List ℕ) (e : ScanError) → IsRefused body bytes e → IsNoBody bytes e
no_body bytes (scan.Malformed place) h = names_no body bytes (scan.Malformed place) h
no_body bytes scan.Memory h = tt

-- where bytes are left behind a body, there is no body of all of them
pub trailed : (bytes rest names : List ℕ) → IsScanned body bytes rest names → (rest ≡ [] → ⊥) →
    (others : List ℕ) → IsBody bytes others → ⊥
trailed = left_over body
