-- A function that calls another one, and converts what it passes on and what it returns.
-- WebAssembly core specification, "Functions"; "Variable Instructions" and "Control Instructions",
-- `local.set` and `call`. That such a function is made is of this crate's own.
use Rattle.std.specs.Prelude.{◌≡◌, ℕ, ◌+◌, List, [], ◌∷◌, ◌++◌, length, map, reverse, ◌⊎◌}
use Rattle.std.specs.List.{range_with_len}
use Rattle.std.specs.Option.{option_map_or}
use Rattle.walrus_ty.specs.declared.ty.value.Val.{Val}
use Rattle.walrus_types.specs.Table.{Table, FindsOrAdds, signature_at}
use Rattle.ir_instr.specs.Locals.{LocalVariable, unnamed_locals}
use Rattle.ir_instr.specs.Locations.{no_location}
use Rattle.ir_instr.specs.declared.instr.Instr.{Instr}
use Rattle.ir_instr.specs.declared.instr.Instr.TheVariants.{LocalSet, Call}
use Rattle.walrus_functions.specs.declared.error.BuildError.{BuildError}
use Rattle.walrus_functions.specs.declared.error.BuildError.TheVariants.{Memory}
use Rattle.walrus_functions.specs.Beginning.{begun, new_entry_type}
use Rattle.walrus_functions.specs.Body.{Body}
use Rattle.walrus_functions.specs.FunctionWithArgs.{FunctionWithArgs}
use Rattle.walrus_passes.specs.Adapters.{get_of}
use Rattle.walrus_passes.specs.Conversions.{Step, ConvertsEach, FailsToConvert, for_each, with_more}

-- the types of the parameters of a live function type; none for another id
abbrev pub params_of : Table → ℕ → List (Val ℕ)
params_of t id = option_map_or (λ f. f.params) (signature_at t id) []

-- the types of its results
abbrev pub results_of : Table → ℕ → List (Val ℕ)
results_of t id = option_map_or (λ f. f.results) (signature_at t id) []

-- The new locals: one for each parameter, and behind them one for each result.

abbrev pub new_params : List LocalVariable → List (Val ℕ) → List ℕ
new_params locals params = range_with_len (length locals) (length params)

abbrev pub new_results : List LocalVariable → List (Val ℕ) → List (Val ℕ) → List ℕ
new_results locals params results =
    range_with_len (length locals + length params) (length results)

abbrev pub set_of : ℕ → Instr × ℕ
set_of local = (LocalSet (record { local = local }), no_location)

-- the function is called, and its results are stored into these locals. The last result is on top
-- of the stack, so it is stored first
abbrev pub call_and_store : ℕ → List ℕ → List (Instr × ℕ)
call_and_store func results =
    (Call (record { func = func }), no_location) ∷ map set_of (reverse results)

-- what a conversion adds that passes its local on as it is
abbrev pub read_of : ℕ → ℕ → List (Instr × ℕ)
read_of _ local = get_of local ∷ []

-- a function that is called, the locals that it is given, and the locals that its results go to
pub record StoredCall : Type 0 where
  pub func : ℕ
  pub params : List ℕ
  pub results : List ℕ

-- the call in an adapter of the type `ty`
abbrev pub call_between : Table → List LocalVariable → ℕ → ℕ → ℕ → StoredCall
call_between t locals func func_ty ty = record {
  func = func;
  params = new_params locals (params_of t ty);
  results = new_results locals (params_of t ty) (results_of t func_ty);
}

-- the instructions for each parameter, the call, and the instructions for each result
abbrev pub converted_call :
    (ℕ → ℕ → List (Instr × ℕ)) → (ℕ → ℕ → List (Instr × ℕ)) → StoredCall → List (Instr × ℕ)
converted_call for_param for_result call =
    for_each for_param call.params ++ call_and_store call.func call.results
    ++ for_each for_result call.results

-- the body with these instructions in its entry, whose type is `entry_ty`, and nothing else
abbrev pub body_of : ℕ → ℕ → List (Instr × ℕ) → Body
body_of ty entry_ty instrs = with_more (begun ty entry_ty) 0 instrs

-- the conversion of parameters and that of results, each with its state before the first call
pub record BothConversions (P R : Type 0) : Type 1 where
  pub param_step : Step P
  pub param : P
  pub result_step : Step R
  pub res : R

abbrev pub both : {P R : Type 0} → Step P → P → Step R → R → BothConversions P R
both param_step param result_step res = record {
  param_step = param_step;
  param = param;
  result_step = result_step;
  res = res;
}

-- in the sequence of old each of the parameters was converted, then the function was called and its
-- results were stored, and then each of the results was converted
pub record ConvertsCall {P R : Type 0} (by : BothConversions P R) (seq : ℕ) (call : StoredCall)
    (old new : Body) : Type 0 where
  pub before_call : P × Body
  pub last : R
  pub converted_params : ConvertsEach by.param_step seq call.params (by.param, old) before_call
  pub converted_results : ConvertsEach by.result_step seq call.results
      (by.res, with_more before_call.1 seq (call_and_store call.func call.results)) (last, new)

-- memory was refused, or a conversion returned this error, one of a parameter, or one of a result
-- where all parameters were converted and the function was called
abbrev pub FailsToConvertCall :
    {P R : Type 0} → BothConversions P R → ℕ → StoredCall → Body → BuildError → Type 0
FailsToConvertCall {P} by seq call old e =
    (e ≡ Memory)
    ⊎ (FailsToConvert by.param_step seq call.params (by.param, old) e
    ⊎ ((before_call : P × Body)
    × ConvertsEach by.param_step seq call.params (by.param, old) before_call
    × FailsToConvert by.result_step seq call.results
    (by.res, with_more before_call.1 seq (call_and_store call.func call.results)) e))

-- the type that stands for a body with the results of `ty` was found or added, and the adapter has
-- that as the type of its entry, in which it converts, calls the function, and converts
pub record ConvertsAndCalls {P R : Type 0} (by : BothConversions P R) (call : StoredCall)
    (old new : Table) (ty : ℕ) (adapter : FunctionWithArgs) : Type 0 where
  pub entry_ty : ℕ
  pub entry : FindsOrAdds old new (new_entry_type old (results_of old ty)) entry_ty
  pub body : ConvertsCall by 0 call (begun ty entry_ty) adapter.body

-- the same type was found or added, and the function has just these instructions, in an entry of
-- that type
pub record HasInstrs (old new : Table) (ty : ℕ) (types : List (Val ℕ))
    (instrs : List (Instr × ℕ)) (func : FunctionWithArgs) : Type 0 where
  pub entry_ty : ℕ
  pub entry : FindsOrAdds old new (new_entry_type old types) entry_ty
  pub body : func.body ≡ body_of ty entry_ty instrs

-- memory was refused; or the entry's type was found or added, and a conversion failed
abbrev pub FailsToAdapt :
    {P R : Type 0} → BothConversions P R → StoredCall → Table → Table → ℕ → BuildError → Type 0
FailsToAdapt by call old new ty e =
    (e ≡ Memory)
    ⊎ ((entry_ty : ℕ) × FindsOrAdds old new (new_entry_type old (results_of old ty)) entry_ty
    × FailsToConvertCall by 0 call (begun ty entry_ty) e)

-- there are no new locals, or one for each parameter, or also one for each result
abbrev pub AddsLocalsInPart :
    List LocalVariable → List LocalVariable → List (Val ℕ) → List (Val ℕ) → Type 0
AddsLocalsInPart old new params results =
    (new ≡ old)
    ⊎ ((new ≡ old ++ unnamed_locals (length old) params)
    ⊎ (new ≡ old ++ unnamed_locals (length old) (params ++ results)))
