-- The first name that a look-up lacks, in names of two parts.
use Rattle.std.proofs.Common.{◌≡◌, ℕ, List, ◌++◌, ap, ◌∙◌, Some, None, Option}
use Rattle.std.specs.Option.{option_or, is_none}
use Rattle.std.proofs.lemmas.List.Folds.{find-append}
use Rattle.walrus_ty.specs.Lookups.{first_missing}

module _ (look_up : ℕ → Option ℕ) where
  missing_append : (xs ys : List ℕ) → first_missing look_up (xs ++ ys) ≡ option_or (first_missing look_up xs)
      (first_missing look_up ys)
  missing_append xs ys = find-append (λ name. is_none (look_up name)) xs ys

  -- a name that is missing in the first part is the first
  pub missing_first : (xs ys : List ℕ) (k : ℕ) → first_missing look_up xs ≡ Some k →
      first_missing look_up (xs ++ ys) ≡ Some k
  missing_first xs ys k h = missing_append xs ys
      ∙ ap (λ (o : Option ℕ). option_or o (first_missing look_up ys)) h

  -- where the first part lacks nothing, the second decides
  pub missing_second : (xs ys : List ℕ) → first_missing look_up xs ≡ None →
      first_missing look_up (xs ++ ys) ≡ first_missing look_up ys
  missing_second xs ys h = missing_append xs ys
      ∙ ap (λ (o : Option ℕ). option_or o (first_missing look_up ys)) h
