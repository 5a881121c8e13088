-- The stack of kinds that are still to come.
use Rattle.std.specs.Prelude.{◌≡◌, List, [], ◌∷◌, ◌++◌, Option, Some, None}
use Rattle.wasm_module.specs.declared.kind.Kind.{Kind}
use Rattle.wasm_module.specs.declared.stack.Entry.{Entry}
use Rattle.wasm_module.specs.Immediates.{times}

abbrev pub kinds_below : List Entry → List Kind
kinds_below [] = []
kinds_below (e ∷ entries) = e.kind ∷ (times e.more e.kind ++ kinds_below entries)

-- the first kind was taken, if there was one
abbrev pub IsTaken : Option Kind → List Kind → List Kind → Type 0
IsTaken (Some k) old new = old ≡ k ∷ new
IsTaken None old new = (old ≡ []) × (new ≡ [])
