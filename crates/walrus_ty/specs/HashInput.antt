-- What `Hash` looks at. Names and the lengths of lists are fed as words of a machine, so what is
-- fed tells them of what a program can hold: ids and lengths are below 2^64, the indices of a
-- section below 2^32.
use Rattle.std.specs.Prelude.{◌≡◌, ◌<◌, ◌^◌, ℕ, List, length, Option}
use Rattle.std.specs.Hash.{HashWrites}
use Rattle.std.specs.List.{AllByRecursion}
use Rattle.std.specs.Option.{IfSome}
use Rattle.walrus_ty.specs.Definition.{Composite, Function, Struct, Array, Definition}
use Rattle.walrus_ty.specs.Value.{val_name, field_name}

-- two are fed the same where these parts are the same, and there alone if a program can hold them
pub record HashesBy {A B : Type 0} (parts : A → B) (CanHold : A → Type 0)
    (input : A → HashWrites) : Type 0 where
  pub alike : (x y : A) → parts x ≡ parts y → input x ≡ input y
  pub apart : (x y : A) → CanHold x → CanHold y → input x ≡ input y → parts x ≡ parts y

-- the number has so many bits at most, if there is one
abbrev pub Fits : ℕ → Option ℕ → Type 0
Fits bits o = IfSome o (λ k. k < 2 ^ bits)

abbrev pub ListFits : {A : Type 0} → (A → Option ℕ) → ℕ → List A → Type 0
ListFits name bits xs = (length xs < 2 ^ 64) × AllByRecursion (λ x. Fits bits (name x)) xs

abbrev pub CompositeFits : ℕ → Composite → Type 0
CompositeFits bits (Function ps rs) = ListFits val_name bits ps × ListFits val_name bits rs
CompositeFits bits (Struct fs) = ListFits field_name bits fs
CompositeFits bits (Array f) = Fits bits (field_name f)

abbrev pub DefinitionFits : ℕ → Definition → Type 0
DefinitionFits bits d = CompositeFits bits d.composite × Fits bits d.supertype
