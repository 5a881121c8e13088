-- The content of a module's type section, by its place.
use Rattle.std.proofs.Common.{◌≡◌, ℕ, ◌+◌, ◌-◌, ◌≤◌, List, ◌∷◌, ◌++◌, length, take, drop, sym, ap, ◌∙◌, arith, length-append, take_at, drop_at}
use Rattle.std.specs.Prelude.{slice_range}
use Rattle.wasm_binary.specs.Modules.{IsTypeSectionAt}

pub content_is : (bytes : List ℕ) (start stop : ℕ) (t : IsTypeSectionAt bytes start stop) →
    slice_range bytes start stop ≡ t.content
content_is bytes start stop t =
    let prefix : List ℕ = t.prefix ++ 1 ∷ t.size in
    let long : length t.content ≡ stop - start = omega (arith, t.stops) in
    ap (λ (u : List ℕ). take (stop - start) (drop start u)) t.parts
    ∙ ap (λ (u : List ℕ). take (stop - start) u) (drop_at prefix (t.content ++ t.back) start (sym t.starts))
    ∙ take_at t.content t.back (stop - start) long

-- it ends in the bytes
pub content_within : (bytes : List ℕ) (start stop : ℕ) (t : IsTypeSectionAt bytes start stop) →
    start + length t.content ≤ length bytes
content_within bytes start stop t =
    let prefix : List ℕ = t.prefix ++ 1 ∷ t.size in
    let long : length bytes ≡ length prefix + length (t.content ++ t.back) =
    ap (λ (u : List ℕ). length u) t.parts ∙ length-append prefix (t.content ++ t.back) in
    omega (arith, long, length-append t.content t.back, t.starts)
