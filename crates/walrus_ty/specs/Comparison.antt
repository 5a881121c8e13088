-- What `==`, an order and `Hash` look at, told by a function that gives these parts.
use Rattle.std.specs.Prelude.{◌≡◌, ◌↔◌, ℕ, Bool, IsTrue, Option}
use Rattle.std.specs.declared.cmp.Ordering.{Ordering}
use Rattle.std.specs.declared.cmp.Ordering.TheVariants.{Equal}
use Rattle.walrus_ty.specs.declared.ty.composite.CompositeType.{CompositeType}
use Rattle.walrus_ty.specs.Types.{ModuleType}

-- two are equal, and neither comes first, exactly where these parts are the same
pub record ComparesBy {A B : Type 0} (parts : A → B) (eq : A → A → Bool)
    (cmp : A → A → Ordering) : Type 0 where
  pub equal : (x y : A) → (IsTrue (eq x y) ↔ (parts x ≡ parts y))
  pub tied : (x y : A) → ((cmp x y ≡ Equal) ↔ (parts x ≡ parts y))

-- the parts of a type that count: not its id, and not its name
pub record TypeParts : Type 0 where
  pub kind : CompositeType
  pub is_final : Bool
  pub supertype : Option ℕ
  pub is_for_function_entry : Bool

abbrev pub type_parts : ModuleType → TypeParts
type_parts t = record {
  kind = t.kind;
  is_final = t.is_final;
  supertype = t.supertype;
  is_for_function_entry = t.is_for_function_entry;
}
