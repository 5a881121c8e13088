-- Forms of instructions that name no type and open no block, where each integer has one byte.
use Rattle.std.specs.Prelude.{◌≡◌, ℕ, zero, suc, List, [], ◌∷◌, Option, Some, None, nat_lt, cond}
use Rattle.wasm_module.specs.declared.kind.Space.TheVariants as space
use Rattle.wasm_module.specs.declared.kind.Kind.{Kind}
use Rattle.wasm_module.specs.declared.kind.Kind.TheVariants as kind
use Rattle.wasm_module.specs.declared.one_byte_immediates.OneByteForm.{OneByteForm}
use Rattle.wasm_module.specs.declared.one_byte_immediates.OneByteForm.TheVariants as form
use Rattle.wasm_module.specs.Opcodes.{Row, kinds_in}

-- the form with one immediate
abbrev pub form_of_one : Kind → OneByteForm
form_of_one (kind.Index space.Type) = form.Other
form_of_one (kind.Index _) = form.Integer
form_of_one kind.S32 = form.Integer
form_of_one kind.S64 = form.Integer
form_of_one (kind.MemArg most) = cond (nat_lt most 0x80) (form.MemArg most) form.Other
form_of_one _ = form.Other

-- the form with immediates of these kinds, or where there is no such instruction
abbrev pub one_byte_form : Option (List Kind) → OneByteForm
one_byte_form None = form.Other
one_byte_form (Some []) = form.Bare
one_byte_form (Some (k ∷ [])) = form_of_one k
one_byte_form (Some (k ∷ l ∷ kinds)) = form.Other

-- how many bytes an instruction has, with its opcode
abbrev pub one_byte_length : OneByteForm → ℕ
one_byte_length form.Bare = 1
one_byte_length form.Integer = 2
one_byte_length (form.MemArg most) = 3
one_byte_length form.Other = 0

-- what the first byte behind the opcode is below
abbrev pub first_limit : OneByteForm → ℕ
first_limit form.Bare = 0x100
first_limit form.Integer = 0x80
first_limit (form.MemArg most) = suc most
first_limit form.Other = 0

-- what the second byte behind the opcode is below
abbrev pub second_limit : OneByteForm → ℕ
second_limit form.Bare = 0x100
second_limit form.Integer = 0x100
second_limit (form.MemArg most) = 0x80
second_limit form.Other = 0

-- what the table has for this opcode
unfoldable pub form_at : List OneByteForm → ℕ → OneByteForm
form_at [] n = form.Other
form_at (f ∷ table) zero = f
form_at (f ∷ table) (suc n) = form_at table n

-- the table has the form of what the rows say, for each opcode
abbrev pub IsTableOfForms : List Row → List OneByteForm → Type 0
IsTableOfForms rows table = (n : ℕ) → form_at table n ≡ one_byte_form (kinds_in rows n)
