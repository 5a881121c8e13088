-- What makes two locals equal, and what the hash of a local looks at.
use Rattle.std.specs.Prelude.{ℕ, List, Option, option_map, string_bytes}
use Rattle.walrus_ty.specs.declared.ty.value.Val.{Val}
use Rattle.ir_instr.specs.Locals.{LocalVariable}

-- the parts of a local, its name by its bytes
pub record LocalParts : Type 0 where
  pub id : ℕ
  pub ty : Val ℕ
  pub name : Option (List ℕ)

abbrev pub local_parts : LocalVariable → LocalParts
local_parts l = record { id = l.id; ty = l.ty; name = option_map string_bytes l.name }
