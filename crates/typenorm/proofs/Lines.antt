-- Lines that are cut out of bytes.
use Rattle.std.proofs.Common.{◌≡◌, ◌<◌, ℕ, suc, false, List, [], ◌∷◌, ◌++◌, length, take, Some, sym, subst, ap, ◌∙◌, arith, rules}
use Rattle.std.specs.Prelude.{◌==◌, slice_index_or, ◌+◌}
use Rattle.std.specs.List.{position}
use Rattle.std.proofs.Math.Seq.{take-suc}
use Rattle.std.proofs.Math.Facts.{eqb_yes}
use Rattle.std.proofs.lemmas.List.{get_or-take, length-take-le}
use Rattle.std.proofs.lemmas.List.Quantifiers.{position-Some}
use Rattle.typenorm.specs.Runs.{IsLine}

differs : (b : ℕ) → (b == 10) ≡ false → b ≡ 10 → ⊥
differs b unequal same = let k : (10 == 10) ≡ false = subst (λ x. (x == 10) ≡ false) same unequal in absurd cc

not_before :
    (bytes : List ℕ) (end k d : ℕ) → position (λ b. b == 10) bytes ≡ Some end → k < length (take end bytes) →
    slice_index_or (take end bytes) k d ≡ 10 → ⊥
not_before bytes end k d e lt same =
    let found = position-Some (λ b. b == 10) bytes end d e in
    let whole : length (take end bytes) ≡ end = length-take-le end bytes (omega arith) in
    let less : k < end = omega arith in
    differs (slice_index_or bytes k d) (found.2 k less) (sym (get_or-take end bytes k d less) ∙ same)

ends :
    (bytes : List ℕ) (end : ℕ) → position (λ b. b == 10) bytes ≡ Some end →
    take (end + 1) bytes ≡ take end bytes ++ 10 ∷ []
ends bytes end e =
    let found = position-Some (λ b. b == 10) bytes end 0 e in
    let same : slice_index_or bytes end 0 ≡ 10 = search (rules, found.1, eqb_yes) in
    let next : end + 1 ≡ suc end = omega arith in
    ap (λ n. take n bytes) next ∙ (take-suc bytes end 0 found.0 ∙ ap (λ b. take end bytes ++ b ∷ []) same)

pub line_to_feed :
    (bytes : List ℕ) (end : ℕ) → position (λ b. b == 10) bytes ≡ Some end → IsLine (take (end + 1) bytes)
line_to_feed bytes end e = (take end bytes, (λ k d lt same. not_before bytes end k d e lt same), ends bytes end e)
