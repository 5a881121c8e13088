-- Lemmas on functions that call others.
use Rattle.std.proofs.Common.{◌≡◌, ℕ, suc, ◌+◌, ◌<◌, ◌≤◌, List, [], ◌∷◌, ◌++◌, length, map, take, refl, sym, ap, ◌∙◌, arith, append_assoc, get_or, get_or-set_same, Option, Some, None}
use Rattle.std.specs.List.{range_with_len}
use Rattle.std.specs.Option.{IsSomeAnd}
use Rattle.std.proofs.lemmas.List.{set-set, take_all, map_more}
use Rattle.walrus_ty.specs.declared.ty.value.Val.{Val}
use Rattle.walrus_ty.specs.Signature.{Signature}
use Rattle.ir_instr.specs.Locals.{unnamed_locals}
use Rattle.ir_instr.specs.Locations.{no_location}
use Rattle.ir_instr.specs.Sequence.{Sequence, empty_sequence}
use Rattle.ir_instr.specs.declared.instr_seq_type.InstrSeqType.TheVariants.{Simple}
use Rattle.ir_instr.specs.declared.instr.Instr.{Instr}
use Rattle.ir_instr.specs.declared.instr.Instr.TheVariants.{Call}
use Rattle.walrus_functions.specs.Body.{Body, Knows, sequence, with_sequence, with_instrs, with_instr}
use Rattle.walrus_passes.specs.Adapters.{get_of, call_with}

-- a sequence of which the instructions were written, with one more
more_instrs :
    (f : Body) (id : ℕ) (xs : List (Instr × ℕ)) (i : Instr) → Knows f id →
    with_instr (with_instrs f id xs) id i ≡ with_instrs f id (xs ++ (i, no_location) ∷ [])
more_instrs f id xs i known =
    let one : Sequence = record (sequence f id) { instrs = xs } in
    let there : sequence (with_instrs f id xs) id ≡ one =
    get_or-set_same f.seqs id one (empty_sequence id (Simple None)) known in
    ap (λ (s : Sequence). with_sequence (with_instrs f id xs) id
    (record s { instrs = s.instrs ++ (i, no_location) ∷ [] })) there
    ∙ ap (λ (seqs : List Sequence). record f { seqs = seqs })
    (set-set f.seqs id one (record one { instrs = xs ++ (i, no_location) ∷ [] }))

-- the body that adding leaves, by its parts
pub record Added (f now new : Body) (id at : ℕ) (xs : List (Instr × ℕ)) (i : Instr) : Type 0 where
  pub known : Knows f id
  pub before : now ≡ with_instrs f id xs
  pub place : at ≡ id
  pub added : new ≡ with_instr now at i

pub added_is :
    (f now new : Body) (id at : ℕ) (xs : List (Instr × ℕ)) (i : Instr) →
    Added f now new id at xs i → new ≡ with_instrs f id (xs ++ (i, no_location) ∷ [])
added_is f now new id at xs i a =
    a.added ∙ ap (λ (n : ℕ). with_instr now n i) a.place ∙ ap (λ (b : Body). with_instr b id i) a.before
    ∙ more_instrs f id xs i a.known

-- one local more is read
pub gets_more :
    (base : List (Instr × ℕ)) (args : List ℕ) (k arg : ℕ) → k < length args → arg ≡ get_or args k arg →
    (base ++ map get_of (take k args)) ++ get_of arg ∷ [] ≡ base ++ map get_of (take (k + 1) args)
gets_more base args k arg below is =
    append_assoc base (map get_of (take k args)) (get_of arg ∷ [])
    ∙ ap (λ (xs : List (Instr × ℕ)). base ++ xs) (ap (λ (n : ℕ). map get_of (take k args) ++ get_of n ∷ []) is
    ∙ sym (map_more get_of args k arg below))

-- all are read, and then the function is called
pub then_call :
    (base : List (Instr × ℕ)) (args : List ℕ) (k func : ℕ) → length args ≤ k →
    (base ++ map get_of (take k args)) ++ (Call (record { func = func }), no_location) ∷ [] ≡
    base ++ call_with args func
then_call base args k func all =
    ap (λ (xs : List ℕ). (base ++ map get_of xs) ++ (Call (record { func = func }), no_location) ∷ [])
    (take_all k args all)
    ∙ append_assoc base (map get_of args) ((Call (record { func = func }), no_location) ∷ [])

-- the ids of new locals follow one another
pub new_ids :
    (n : ℕ) (types : List (Val ℕ)) →
    map (λ l. l.id) (unnamed_locals n types) ≡ range_with_len n (length types)
new_ids n [] = refl
new_ids n (ty ∷ types) =
    let e : suc n ≡ n + 1 = omega arith in
    ap (λ (ids : List ℕ). n ∷ ids) (new_ids (suc n) types ∙ ap (λ (m : ℕ). range_with_len m (length types)) e)

pub args_are :
    (o : Option Signature) (n : ℕ) (types : List (Val ℕ)) (args ids : List ℕ) →
    IsSomeAnd o (λ f. types ≡ f.params) → args ≡ ids →
    ids ≡ map (λ l. l.id) (unnamed_locals n types) →
    IsSomeAnd o (λ f. args ≡ range_with_len n (length f.params))
args_are None n types args ids h is new = h
args_are (Some f) n types args ids h is new = is ∙ new ∙ new_ids n types
    ∙ ap (λ (ts : List (Val ℕ)). range_with_len n (length ts)) h
