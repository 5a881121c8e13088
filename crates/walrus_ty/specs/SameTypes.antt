-- When two types of a module are equal.
-- WebAssembly core specification, "Types". The mark of a function entry is of this crate's own.
use Rattle.std.specs.Prelude.{◌≡◌, Bool}
use Rattle.walrus_ty.specs.contracts.ty.TypePartialEq.TheImpl.{ghosts}
use Rattle.walrus_ty.specs.Types.{ModuleType}

-- whether two types are equal: by composite, finality, supertype and the mark of a function entry
unfoldable pub type_eq : ModuleType → ModuleType → Bool
type_eq = ghosts.eq

-- both have the same composite, finality, supertype and mark of a function entry
pub record IsSameType (a b : ModuleType) : Type 0 where
  pub kind : a.kind ≡ b.kind
  pub is_final : a.is_final ≡ b.is_final
  pub supertype : a.supertype ≡ b.supertype
  pub is_for_function_entry : a.is_for_function_entry ≡ b.is_for_function_entry
