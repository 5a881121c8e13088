-- Lemmas on the locals of an adapter, and on the types that they are for.
use Rattle.std.proofs.Common.{◌≡◌, ℕ, suc, ◌+◌, List, [], ◌∷◌, ◌++◌, length, map, refl, sym, ap, ◌∙◌, arith, append_assoc, length-append, Option, Some, None}
use Rattle.std.specs.List.{range_with_len}
use Rattle.std.proofs.lemmas.List.FromFn.{length-range_with_len}
use Rattle.std.specs.Option.{IsSomeAnd, option_map_or}
use Rattle.walrus_ty.specs.declared.ty.value.Val.{Val}
use Rattle.walrus_ty.specs.Signature.{Signature}
use Rattle.ir_instr.specs.Locals.{LocalVariable, unnamed_local, unnamed_locals}
use Rattle.walrus_types.specs.Table.{Table, signature_at}
use Rattle.walrus_passes.specs.ConvertingAdapters.{StoredCall, new_params, new_results, params_of, call_between}
use Rattle.walrus_passes.proofs.Calling.{new_ids}

-- what is read of a function type
pub types-are :
    (part : Signature → List (Val ℕ)) (o : Option Signature) (types : List (Val ℕ)) →
    IsSomeAnd o (λ f. types ≡ part f) → types ≡ option_map_or part o []
types-are part None types h = absurd h
types-are part (Some f) types h = h

-- two lists of new locals, one after the other, are one

locals-length : (n : ℕ) (types : List (Val ℕ)) → length (unnamed_locals n types) ≡ length types
locals-length n [] = refl
locals-length n (ty ∷ types) = ap suc (locals-length (suc n) types)

locals-append :
    (n k : ℕ) (xs ys : List (Val ℕ)) → k ≡ n + length xs →
    unnamed_locals n (xs ++ ys) ≡ unnamed_locals n xs ++ unnamed_locals k ys
locals-append n k [] ys e =
    let z : n ≡ k = omega (arith, e) in
    ap (λ (m : ℕ). unnamed_locals m ys) z
locals-append n k (ty ∷ xs) ys e =
    ap (λ (ls : List LocalVariable). unnamed_local n ty ∷ ls)
    (locals-append (suc n) k xs ys (omega (arith, e)))

next-local :
    (old mid : List LocalVariable) (params : List (Val ℕ)) →
    mid ≡ old ++ unnamed_locals (length old) params → length mid ≡ length old + length params
next-local old mid params e =
    ap length e ∙ length-append old (unnamed_locals (length old) params)
    ∙ ap (λ (n : ℕ). length old + n) (locals-length (length old) params)

pub both-added :
    (old mid new : List LocalVariable) (params results : List (Val ℕ)) →
    mid ≡ old ++ unnamed_locals (length old) params →
    new ≡ mid ++ unnamed_locals (length mid) results →
    new ≡ old ++ unnamed_locals (length old) (params ++ results)
both-added old mid new params results first second =
    second
    ∙ ap (λ (ls : List LocalVariable). ls ++ unnamed_locals (length mid) results) first
    ∙ append_assoc old (unnamed_locals (length old) params) (unnamed_locals (length mid) results)
    ∙ ap (λ (ls : List LocalVariable). old ++ ls)
    (sym (locals-append (length old) (length mid) params results (next-local old mid params first)))

pub result-ids :
    (old mid : List LocalVariable) (params results : List (Val ℕ)) (ids : List ℕ) →
    mid ≡ old ++ unnamed_locals (length old) params →
    ids ≡ map (λ l. l.id) (unnamed_locals (length mid) results) →
    ids ≡ new_results old params results
result-ids old mid params results ids first is =
    is ∙ new_ids (length mid) results
    ∙ ap (λ (n : ℕ). range_with_len n (length results)) (next-local old mid params first)

-- how many there are

pub params-count :
    (o : Option Signature) (old : List LocalVariable) (params : List (Val ℕ)) (ids slice : List ℕ) →
    IsSomeAnd o (λ f. params ≡ f.params) → ids ≡ new_params old params → slice ≡ ids →
    length slice ≡ length (option_map_or (λ f. f.params) o [])
params-count o old params ids slice are is same =
    ap length (same ∙ is) ∙ length-range_with_len (length old) (length params)
    ∙ ap length (types-are (λ f. f.params) o params are)

pub results-count :
    (o : Option Signature) (old : List LocalVariable) (params results : List (Val ℕ)) (ids slice : List ℕ) →
    IsSomeAnd o (λ f. results ≡ f.results) → ids ≡ new_results old params results → slice ≡ ids →
    length slice ≡ length (option_map_or (λ f. f.results) o [])
results-count o old params results ids slice are is same =
    ap length (same ∙ is) ∙ length-range_with_len (length old + length params) (length results)
    ∙ ap length (types-are (λ f. f.results) o results are)

-- they are the ones of the two function types
pub call-between :
    (t : Table) (old : List LocalVariable) (func func_ty ty : ℕ) (params results : List (Val ℕ))
    (args ids first second : List ℕ) →
    IsSomeAnd (signature_at t ty) (λ f. params ≡ f.params) →
    IsSomeAnd (signature_at t func_ty) (λ f. results ≡ f.results) →
    args ≡ new_params old params → ids ≡ new_results old params results → first ≡ args → second ≡ ids →
    ◌≡◌ {A = StoredCall} (record { func = func; params = first; results = second })
    (call_between t old func func_ty ty)
call-between t old func func_ty ty params results args ids first second params_are results_are args_are
    ids_are same also =
    let ps = types-are (λ f. f.params) (signature_at t ty) params params_are in
    let rs = types-are (λ f. f.results) (signature_at t func_ty) results results_are in
    λ i. record {
      func = func;
      params = (same ∙ args_are ∙ ap (new_params old) ps) i;
      results = (also ∙ ids_are ∙ ap (λ (ts : List (Val ℕ)). new_results old ts results) ps
          ∙ ap (new_results old (params_of t ty)) rs) i;
    }
