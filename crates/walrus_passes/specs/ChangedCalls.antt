-- What becomes of an instruction that names a function, where calls are snipped or redirected.
-- WebAssembly core specification, "Control Instructions", `call`, `return_call` and `unreachable`;
-- "Reference Instructions", `ref.func`. That they are changed is of this crate's own.
use Rattle.std.specs.Prelude.{◌≡◌, ℕ, List, Bool, false, if◌then◌else◌, nat_eq, Option, Some, None}
use Rattle.std.specs.List.{list_any}
use Rattle.ir_instr.specs.declared.instr.Instr.{Instr}
use Rattle.ir_instr.specs.declared.instr.Instr.TheVariants.{Call, ReturnCall, RefFunc, Unreachable}
use Rattle.walrus_functions.specs.FunctionWithArgs.{FunctionWithArgs}
use Rattle.walrus_passes.specs.MappedInstrs.{IsMapped}

-- the function that an instruction names: one that it calls, or that it makes a reference to
abbrev pub named_function : Instr → Option ℕ
named_function (Call x) = Some x.func
named_function (ReturnCall x) = Some x.func
named_function (RefFunc x) = Some x.func
named_function _ = None

-- whether there is a function, and it is one of these
abbrev pub is_one_of : List ℕ → Option ℕ → Bool
is_one_of funcs None = false
is_one_of funcs (Some func) = list_any (nat_eq func) funcs

-- `unreachable` for an instruction that names one of these functions; any other one as it is
abbrev pub snipped : List ℕ → Instr → Instr
snipped funcs i = if is_one_of funcs (named_function i) then Unreachable (record {}) else i

-- each instruction that names one of these functions became `unreachable`, and nothing else of the
-- function changed
abbrev pub SnipsCalls : List ℕ → FunctionWithArgs → FunctionWithArgs → Type 0
SnipsCalls funcs old new = IsMapped (λ i j. j ≡ snipped funcs i) old new

-- the second function for the first one; any other one as it is
abbrev pub redirected_id : ℕ → ℕ → ℕ → ℕ
redirected_id from to func = if nat_eq func from then to else func

-- the instruction with the second function in place of the first one
abbrev pub redirected : ℕ → ℕ → Instr → Instr
redirected from to (Call x) = Call (record { func = redirected_id from to x.func })
redirected from to (ReturnCall x) = ReturnCall (record { func = redirected_id from to x.func })
redirected from to (RefFunc x) = RefFunc (record { func = redirected_id from to x.func })
redirected from to i = i

-- each instruction that names the first function names the second one instead, and nothing else of
-- the function changed
abbrev pub RedirectsCalls : ℕ → ℕ → FunctionWithArgs → FunctionWithArgs → Type 0
RedirectsCalls from to old new = IsMapped (λ i j. j ≡ redirected from to i) old new
