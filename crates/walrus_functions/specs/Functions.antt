-- What contracts see of the functions of a module that have a body.
-- WebAssembly core specification, "Indices": the indices of imported functions come first.
use Rattle.std.specs.Prelude.{ℕ, ◌+◌, ◌-◌, ◌<◌, ◌≤◌, List, [], ◌∷◌, ◌++◌, length, nat_lt, if◌then◌else◌, Option, None, slice_get, slice_set}
use Rattle.walrus_functions.specs.FunctionWithArgs.{FunctionWithArgs}

-- how many functions the module imports, and those that have a body, in the order of their ids
pub record Functions : Type 0 where
  pub imported : ℕ
  pub list : List FunctionWithArgs

-- the id of the next new function
abbrev pub next_function : Functions → ℕ
next_function fs = fs.imported + length fs.list

-- there is a function with this id that has a body
abbrev pub IsLocal : Functions → ℕ → Type 0
IsLocal fs id = (fs.imported ≤ id) × (id < next_function fs)

-- the function of the id, where it has a body
abbrev pub function_at : Functions → ℕ → Option FunctionWithArgs
function_at fs id =
    if nat_lt id fs.imported then None else slice_get fs.list (id - fs.imported)

-- fs with this function in place of the one that had the id, where it has a body
abbrev pub with_function : Functions → ℕ → FunctionWithArgs → Functions
with_function fs id f =
    if nat_lt id fs.imported then fs
    else record fs { list = slice_set fs.list (id - fs.imported) f }

-- fs with this function as its last
abbrev pub with_new_function : Functions → FunctionWithArgs → Functions
with_new_function fs f = record fs { list = fs.list ++ f ∷ [] }
