-- What it means that bytes begin with others, and that they are a text after white space.
use Rattle.std.proofs.Common.{◌≡◌, ◌∙◌, ℕ, ◌<◌, Bool, true, false, List, length, drop, take, inl, inr, sym, ap, subst, arith}
use Rattle.std.specs.Cmp.Lexicographic.{pointwise}
use Rattle.std.specs.Prelude.{nat_eq, codes}
use Rattle.std.specs.Str.{IsTrimAsciiStart}
use Rattle.std.proofs.lemmas.Slice.Eq.{starts_is}
use Rattle.std.proofs.lemmas.Bool.Decides.{Decides-eqb}
use Rattle.std.proofs.lemmas.Bool.{cases_order}
use Rattle.error_context.specs.Lookalikes.{BeginsWith, IsText}

pub begins : (bytes front : List ℕ) (r : Bool) → r ≡ pointwise nat_eq front (take (length front) bytes) →
    r ≡ true → BeginsWith front bytes
begins bytes front r is holds = (drop (length front) bytes, (starts_is Decides-eqb bytes front r is).0 holds)

pub does_not_begin : (bytes front : List ℕ) (r : Bool) →
    r ≡ pointwise nat_eq front (take (length front) bytes) → r ≡ false → BeginsWith front bytes → ⊥
does_not_begin bytes front r is fails b =
    let holds : r ≡ true = (starts_is Decides-eqb bytes front r is).1 b.0 b.1 in
    let k : true ≡ false = sym holds ∙ fails in
    cc

-- white space goes no further than in the other one
no_further :
    (bytes rest other : List ℕ) (t : IsTrimAsciiStart bytes rest) (u : IsTrimAsciiStart bytes other) →
    t.0 < u.0 → ⊥
no_further bytes rest other t u lt =
    let k : true ≡ false = sym (u.3 t.0 lt) ∙ t.4 (omega (arith, lt, u.2)) in
    cc

-- bytes have one rest after their white space
one_rest : (bytes rest other : List ℕ) → IsTrimAsciiStart bytes rest → IsTrimAsciiStart bytes other →
    rest ≡ other
one_rest bytes rest other t u =
    elim (cases_order t.0 u.0) [
      | inl same ↦ t.1 ∙ (ap (λ n. drop n bytes) same ∙ sym u.1)
      | inr (inl lt) ↦ absurd (no_further bytes rest other t u lt)
      | inr (inr lt) ↦ absurd (no_further bytes other rest u t lt)
    ]

pub no_text : (bytes rest : List ℕ) → IsTrimAsciiStart bytes rest → (BeginsWith (codes "(module") rest → ⊥) →
    IsText bytes → ⊥
no_text bytes rest t fails h =
    fails (subst (λ (u : List ℕ). BeginsWith (codes "(module") u) (one_rest bytes h.0 rest h.1 t) h.2)
