-- The tables of the code have what the rows of the specification say.
use Rattle.std.proofs.Common.{◌≡◌, ℕ, zero, suc, ◌+◌, ◌<◌, ◌≤◌, Bool, true, false, ◌&&◌, nat_le, nat_lt, cond, List, [], ◌∷◌, length, map, Option, Some, None, refl, sym, ap, ◌∙◌, arith, ltb-true, ltb-false, get_or}
use Rattle.std.proofs.lemmas.Bool.{lt-leb}
use Rattle.wasm_module.specs.declared.kind.Kind.{Kind}
use Rattle.wasm_module.specs.declared.kind.Immediates.{Immediates}
use Rattle.wasm_module.specs.declared.kind.Immediates.TheVariants as immediates
use Rattle.wasm_module.specs.Opcodes.{Row, kinds_in}
use Rattle.wasm_module.specs.Steps.Tables.{row_kinds, entry_at, IsTableOf}

-- what the rows say of this many opcodes from `first` on
abbrev pub kinds_from : List Row → ℕ → ℕ → List (Option (List Kind))
kinds_from rows first zero = []
kinds_from rows first (suc n) = kinds_in rows first ∷ kinds_from rows (suc first) n

-- no row goes as far as this opcode
abbrev pub all_below : List Row → ℕ → Bool
all_below [] end = true
all_below (r ∷ rows) end = nat_lt r.last end && all_below rows end

both : (a b : Bool) → (a && b) ≡ true → (a ≡ true) × (b ≡ true)
both true true e = (refl, refl)
both true false e = absurd cc
both false b e = absurd cc

not_in : (a b : Bool) (x y : Option (List Kind)) → b ≡ false → cond (a && b) x y ≡ y
not_in true true x y e = absurd cc
not_in true false x y e = refl
not_in false b x y e = refl

pub none_from : (rows : List Row) (end n : ℕ) → all_below rows end ≡ true → end ≤ n → kinds_in rows n ≡ None
none_from [] end n e le = refl
none_from (r ∷ rows) end n e le =
    let two = both (nat_lt r.last end) (all_below rows end) e in
    let past : nat_le n r.last ≡ false = lt-leb n r.last (omega (arith, ltb-true r.last end two.0, le)) in
    not_in (nat_le r.first n) (nat_le n r.last) (Some r.kinds) (kinds_in rows n) past
    ∙ none_from rows end n two.1 le

abbrev head_or : Option (List Kind) → List (Option (List Kind)) → Option (List Kind)
head_or d [] = d
head_or d (x ∷ xs) = x

abbrev tail_of : List (Option (List Kind)) → List (Option (List Kind))
tail_of [] = []
tail_of (x ∷ xs) = xs

entry_is : (table : List Immediates) (rows : List Row) (first n : ℕ) →
    map row_kinds table ≡ kinds_from rows first (length table) → n < length table →
    entry_at table n ≡ kinds_in rows (first + n)
unfolding entry_at
entry_is [] rows first n e lt = absurd (omega (arith, lt))
entry_is (entry ∷ table) rows first zero e lt =
    ap (head_or None) e ∙ ap (kinds_in rows) (omega arith)
entry_is (entry ∷ table) rows first (suc n) e lt =
    entry_is table rows (suc first) n (ap tail_of e) (omega (arith, lt)) ∙ ap (kinds_in rows) (omega arith)

pub none_there : (table : List Immediates) (n : ℕ) → length table ≤ n → entry_at table n ≡ None
unfolding entry_at
none_there [] n le = refl
none_there (entry ∷ table) zero le = absurd (omega (arith, le))
none_there (entry ∷ table) (suc n) le = none_there table n (omega (arith, le))

pub either : {P : Type 0} (b : Bool) → (b ≡ true → P) → (b ≡ false → P) → P
either true f g = f refl
either false f g = g refl

pub is_table : (rows : List Row) (table : List Immediates) →
    map row_kinds table ≡ kinds_from rows 0 (length table) → all_below rows (length table) ≡ true →
    IsTableOf rows table
is_table rows table e below n =
    either (nat_lt n (length table))
    (λ h. entry_is table rows 0 n e (ltb-true n (length table) h) ∙ ap (kinds_in rows) (omega arith))
    (λ h. let le = ltb-false n (length table) h in none_there table n le
    ∙ sym (none_from rows (length table) n below le))

pub entry_get : (table : List Immediates) (n : ℕ) → n < length table →
    row_kinds (get_or table n immediates.NoInstruction) ≡ entry_at table n
unfolding entry_at
entry_get [] n lt = absurd (omega (arith, lt))
entry_get (entry ∷ table) zero lt = refl
entry_get (entry ∷ table) (suc n) lt = entry_get table n (omega (arith, lt))
