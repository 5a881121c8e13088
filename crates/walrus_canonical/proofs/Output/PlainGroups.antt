-- A group of one is a lone type.
use Rattle.std.proofs.Common.{◌≡◌, ◌-◌, List, [], ◌∷◌, length, map, Some, None, slice_get, ap, arith}
use Rattle.walrus_ty.specs.declared.records.EntryAt.{EntryAt}
use Rattle.walrus_ty.specs.Groups.{Single}
use Rattle.walrus_ty.specs.Records.{entry_definition}
use Rattle.walrus_canonical.specs.Greedy.{plain_group}

pub is_lone :
    (es : List EntryAt) (e : EntryAt) → length es ≡ 1 → Some e ≡ slice_get es (length es - 1) →
    Single (entry_definition e) ≡ plain_group (map entry_definition es)
is_lone [] e one is = absurd (omega (arith, one))
is_lone (d ∷ []) e one is = let same : e ≡ d = cc in ap (λ x. Single (entry_definition x)) same
is_lone (d ∷ f ∷ es) e one is = absurd (omega (arith, one))

pub not_none :
    {X : Type 0} (es : List EntryAt) → length es ≡ 1 → None ≡ slice_get es (length es - 1) → X
not_none [] one is = absurd (omega (arith, one))
not_none (d ∷ []) one is = let k : ⊥ = cc in absurd k
not_none (d ∷ f ∷ es) one is = absurd (omega (arith, one))
