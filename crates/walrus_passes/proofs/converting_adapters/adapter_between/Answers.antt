use Rattle.std.proofs.Common.{◌≡◌, ℕ, ◌+◌, length, subst, sym, inr, rules}
use Rattle.std.proofs.lemmas.List.FromFn.{length-range_with_len}
use Rattle.walrus_types.specs.Table.{signature_at}
use Rattle.walrus_functions.specs.Body.{Body}
use Rattle.walrus_functions.specs.Building.{seq_id, function_of}
use Rattle.walrus_passes.specs.Conversions.{TakesEach, KeepsBuilder}
use Rattle.walrus_passes.specs.ConvertingAdapters.{ConvertsCall, FailsToConvertCall, both, call_between, results_of, params_of}
use Rattle.walrus_passes.proofs.Conversions.{at-entry, adapter-instrs, if-err}
use Rattle.walrus_passes.proofs.NewLocals.{params-count, results-count, call-between}
use Rattle.walrus_passes.proofs.converting_adapters.adapter_between.Goals as goal

pub convert_call-requires-clause-takes_params : goal.convert_call-requires-clause-takes_params
convert_call-requires-clause-takes_params g c =
    let Takes : ℕ → Type 0 = λ n. TakesEach (goal.P-pre g) (goal.P-step g) n c.args.convert_param in
    subst Takes (sym (params-count (signature_at c.args.types.now c.args.ty) c.args.locals.now
    c.params.result.now c.in_ok-args.args.items c.as_slice.result.now c.params.ensures
    c.in_ok-args.ensures.params c.as_slice.ensures.value)) c.requires.takes_params

pub convert_call-requires-clause-keeps_params : goal.convert_call-requires-clause-keeps_params
convert_call-requires-clause-keeps_params g c =
    let Keeps : ℕ → Type 0 = λ n. KeepsBuilder (goal.P-step g) n c.args.convert_param in
    subst Keeps (sym (params-count (signature_at c.args.types.now c.args.ty) c.args.locals.now
    c.params.result.now c.in_ok-args.args.items c.as_slice.result.now c.params.ensures
    c.in_ok-args.ensures.params c.as_slice.ensures.value)) c.requires.keeps_params

pub convert_call-requires-clause-takes_results : goal.convert_call-requires-clause-takes_results
convert_call-requires-clause-takes_results g c =
    let Takes : ℕ → Type 0 = λ n. TakesEach (goal.R-pre g) (goal.R-step g) n c.args.convert_result in
    subst Takes (sym (results-count (signature_at c.args.types.now c.args.func_ty) c.args.locals.now
    c.params.result.now c.results.result.now c.in_ok-args.results.items c.as_slice-2.result.now
    c.results.ensures c.in_ok-args.ensures.results c.as_slice-2.ensures.value)) c.requires.takes_results

pub convert_call-requires-clause-keeps_results : goal.convert_call-requires-clause-keeps_results
convert_call-requires-clause-keeps_results g c =
    let Keeps : ℕ → Type 0 = λ n. KeepsBuilder (goal.R-step g) n c.args.convert_result in
    subst Keeps (sym (results-count (signature_at c.args.types.now c.args.func_ty) c.args.locals.now
    c.params.result.now c.results.result.now c.in_ok-args.results.items c.as_slice-2.result.now
    c.results.ensures c.in_ok-args.ensures.results c.as_slice-2.ensures.value)) c.requires.keeps_results

pub returns-clause-adapter : goal.returns-clause-adapter
returns-clause-adapter g c =
    let by = both (goal.P-step g) c.args.convert_param (goal.R-step g) c.args.convert_result in
    let begins = c.in_ok-builder.ensures.ok in
    let f = c.local_func.result.body in
    let left : function_of c.convert_call.new.body ≡ f = search rules in
    let To : Body → Type 0 = λ b. ConvertsCall by (seq_id c.func_body-body.result)
    (record { func = c.args.func; params = c.as_slice.result.now; results = c.as_slice-2.result.now })
    (function_of c.func_body-body.result) b in
    record {
      entry_ty = begins.0;
      entry = begins.1;
      body = at-entry (λ n k b. ConvertsCall by n k b f) c.args.ty begins.0
          (seq_id c.func_body-body.result) _ _ c.in_ok-builder.builder
          (function_of c.func_body-body.result) begins.2 c.func_body-body.ensures.value
          c.func_body-body.ensures.id (call-between c.args.types.now c.args.locals.now c.args.func
          c.args.func_ty c.args.ty c.params.result.now c.results.result.now c.in_ok-args.args.items
          c.in_ok-args.results.items c.as_slice.result.now c.as_slice-2.result.now c.params.ensures
          c.results.ensures c.in_ok-args.ensures.params c.in_ok-args.ensures.results c.as_slice.ensures.value
          c.as_slice-2.ensures.value) (subst To left c.in_ok-convert_call.ensures.ok);
    }

pub returns-clause-instrs : goal.returns-clause-instrs
returns-clause-instrs g c =
    let params = params_of c.args.types.now c.args.ty in
    let results = results_of c.args.types.now c.args.func_ty in
    adapter-instrs (both (goal.P-step g) c.args.convert_param (goal.R-step g) c.args.convert_result)
    (call_between c.args.types.now c.args.locals.now c.args.func c.args.func_ty c.args.ty)
    c.args.types.now c.begin.new.types c.args.ty c.local_func.result (length params) (length results)
    (returns-clause-adapter g c) (length-range_with_len (length c.args.locals.now) (length params))
    (length-range_with_len (length c.args.locals.now + length params) (length results))

pub returns-in_err-convert_call-clause-err : goal.returns-in_err-convert_call-clause-err
returns-in_err-convert_call-clause-err g c =
    let by = both (goal.P-step g) c.args.convert_param (goal.R-step g) c.args.convert_result in
    let e = c.in_err-convert_call.field-0.0 in
    let begins = c.in_ok-builder.ensures.ok in
    if-err _ c.from_residual-in_err-convert_call.result e (search rules)
    (inr (
      begins.0,
      begins.1,
      at-entry (λ n k b. FailsToConvertCall by n k b e) c.args.ty begins.0
          (seq_id c.func_body-body.result) _ _ c.in_ok-builder.builder
          (function_of c.func_body-body.result) begins.2 c.func_body-body.ensures.value
          c.func_body-body.ensures.id (call-between c.args.types.now c.args.locals.now c.args.func
          c.args.func_ty c.args.ty c.params.result.now c.results.result.now c.in_ok-args.args.items
          c.in_ok-args.results.items c.as_slice.result.now c.as_slice-2.result.now c.params.ensures
          c.results.ensures c.in_ok-args.ensures.params c.in_ok-args.ensures.results c.as_slice.ensures.value
          c.as_slice-2.ensures.value) c.in_err-convert_call.ensures.err,
    ))
