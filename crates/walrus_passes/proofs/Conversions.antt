-- Lemmas on conversions, and on what a converting adapter does.
use Rattle.std.proofs.Common.{◌≡◌, ℕ, ◌+◌, ◌<◌, ◌≤◌, List, [], ◌∷◌, ◌++◌, length, take, get_or, refl, sym, ap, subst, ◌∙◌, arith, append_assoc, get_or-set_same, Ok, Err, Result, IfErr, None, append-nil, map, reverse, Bor, Some, Option, inr}
use Rattle.std.specs.List.{FoldsTo, enumerate_from, flat_map}
use Rattle.std.specs.Option.{option_map_or}
use Rattle.std.proofs.lemmas.List.{take_more, length-take-le, set-set, length-set, map-append}
use Rattle.std.proofs.lemmas.Option.{slice_get-get_or}
use Rattle.std.proofs.lemmas.Fn.{FoldsTo-push}
use Rattle.walrus_types.specs.Table.{Table}
use Rattle.ir_instr.specs.Sequence.{Sequence, empty_sequence}
use Rattle.ir_instr.specs.declared.instr_seq_type.InstrSeqType.TheVariants.{Simple}
use Rattle.ir_instr.specs.declared.instr.Instr.{Instr}
use Rattle.ir_instr.specs.declared.instr.Instr.TheVariants.{Call}
use Rattle.ir_instr.specs.Locations.{no_location}
use Rattle.walrus_functions.specs.declared.error.BuildError.{BuildError}
use Rattle.walrus_functions.specs.Body.{Body, Knows, sequence, with_sequence, with_instrs, instrs_of}
use Rattle.walrus_functions.specs.Beginning.{begun}
use Rattle.walrus_functions.specs.FunctionWithArgs.{FunctionWithArgs}
use Rattle.walrus_functions.specs.Building.{seq_id, function_of}
use Rattle.walrus_functions.proofs.BodyLemmas.{same_instrs}
use Rattle.walrus_passes.specs.Conversions.{Step, Reaches, AddsEach, Converts, ConvertsEach, FailsToConvert, with_more, for_each}
use Rattle.walrus_passes.specs.Conversions.Reaches.{at_start, after}
use Rattle.walrus_passes.specs.ConvertingAdapters.{StoredCall, BothConversions, ConvertsCall, FailsToConvertCall, ConvertsAndCalls, HasInstrs, call_and_store, results_of, converted_call, read_of, set_of}
use Rattle.walrus_passes.specs.Adapters.{get_of, call_with}

-- one local more is converted

enumerate-push :
    (n : ℕ) (xs : List ℕ) (y k : ℕ) → k ≡ n + length xs →
    enumerate_from n (xs ++ y ∷ []) ≡ enumerate_from n xs ++ (k, y) ∷ []
enumerate-push n [] y k e =
    let z : n ≡ k = omega (arith, e) in
    ap (λ (m : ℕ). (m, y) ∷ []) z
enumerate-push n (x ∷ xs) y k e =
    ap (λ (zs : List (ℕ × ℕ)). (n, x) ∷ zs) (enumerate-push (n + 1) xs y k (omega (arith, e)))

pub converted-more :
    {F : Type 0} (step : Step F) (seq : ℕ) (locals : List ℕ) (old q u : F × Body) (i local : ℕ) →
    i < length locals → local ≡ get_or locals i local → ConvertsEach step seq (take i locals) old q →
    Converts step seq (Ok tt) q (i, local) u → ConvertsEach step seq (take (i + 1) locals) old u
converted-more {F} step seq locals old q u i local below is before one =
    let size : i ≡ length (take i locals) = sym (length-take-le i locals (omega (arith, below))) in
    let items : enumerate_from 0 (take (i + 1) locals) ≡
    enumerate_from 0 (take i locals) ++ (i, local) ∷ [] =
    ap (enumerate_from 0) (take_more locals i local below)
    ∙ enumerate-push 0 (take i locals) (get_or locals i local) i (omega (arith, size))
    ∙ ap (λ (x : ℕ). enumerate_from 0 (take i locals) ++ (i, x) ∷ [])
    (sym is) in
    let Folds : List (ℕ × ℕ) → Type 0 = λ zs. FoldsTo (Converts step seq (Ok tt)) old zs u in
    subst Folds (sym items) (FoldsTo-push (Converts step seq (Ok tt)) old
    (enumerate_from 0 (take i locals)) q (i, local) u before one)

-- or is not

pub converted-if_err :
    {F : Type 0} (step : Step F) (seq : ℕ) (locals : List ℕ) (old q u : F × Body) (e : BuildError)
    (i local : ℕ) (r : Result (Unit {0}) BuildError) →
    i < length locals → local ≡ get_or locals i local → ConvertsEach step seq (take i locals) old q →
    Converts step seq (Err e) q (i, local) u → r ≡ Err e → IfErr r (FailsToConvert step seq locals old)
converted-if_err {F} step seq locals old q u e i local r below at before one is =
    let Fails : Result (Unit {0}) BuildError → Type 0 = λ s. IfErr s (FailsToConvert step seq locals old) in
    subst Fails (sym is) (record {
      count = i;
      before = q;
      converted = before;
      local = local;
      next = slice_get-get_or locals i local below ∙ ap Some (sym at);
      after = u;
      failed = one;
    })

-- instructions that are added to a known sequence

pub more-more :
    (f : Body) (id : ℕ) (xs ys : List (Instr × ℕ)) → Knows f id →
    with_more (with_more f id xs) id ys ≡ with_more f id (xs ++ ys)
more-more f id xs ys known =
    let base = instrs_of f id in
    let one : Sequence = record (sequence f id) { instrs = base ++ xs } in
    let there : sequence (with_more f id xs) id ≡ one =
    get_or-set_same f.seqs id one (empty_sequence id (Simple None)) known in
    ap (λ (s : Sequence). with_sequence (with_more f id xs) id (record s { instrs = s.instrs ++ ys })) there
    ∙ ap (λ (seqs : List Sequence). record f { seqs = seqs })
    (set-set f.seqs id one (record one { instrs = (base ++ xs) ++ ys }))
    ∙ ap (with_instrs f id) (append_assoc base xs ys)

pub more-known : (f : Body) (id : ℕ) (xs : List (Instr × ℕ)) → Knows f id → Knows (with_more f id xs) id
more-known f id xs known =
    let size = length-set f.seqs id (record (sequence f id) { instrs = instrs_of f id ++ xs }) in
    omega (arith, known, size)

more-none : (f : Body) (id : ℕ) → with_more f id [] ≡ f
more-none f id = same_instrs f id (instrs_of f id ++ []) (append-nil (instrs_of f id))

-- the call, and the storing of the results that come next

abbrev pub stored : ℕ → List (Bor ℕ) → List (Instr × ℕ)
stored func locals =
    (Call (record { func = func }), no_location) ∷ map set_of (map (λ local. local.now) locals)

pub stored-more :
    (f now new : Body) (seq id func : ℕ) (locals : List (Bor ℕ)) (local : Bor ℕ) →
    Knows f seq → now ≡ with_more f seq (stored func locals) → id ≡ seq →
    new ≡ with_more now id (set_of local.now ∷ []) →
    new ≡ with_more f seq (stored func (locals ++ local ∷ []))
stored-more f now new seq id func locals local known before place adds =
    let more : stored func (locals ++ local ∷ []) ≡ stored func locals ++ set_of local.now ∷ [] =
    ap (λ (xs : List (Instr × ℕ)). (Call (record { func = func }), no_location) ∷ xs)
    (ap (map set_of) (map-append (λ (l : Bor ℕ). l.now) locals (local ∷ []))
    ∙ map-append set_of (map (λ (l : Bor ℕ). l.now) locals) (local.now ∷ [])) in
    adds
    ∙ ap (λ (i : ℕ). with_more now i (set_of local.now ∷ [])) place
    ∙ ap (λ (g : Body). with_more g seq (set_of local.now ∷ [])) before
    ∙ more-more f seq (stored func locals) (set_of local.now ∷ []) known
    ∙ ap (with_more f seq) (sym more)

-- conversions that add these instructions each, and nothing else

call-known :
    (f given : Body) (seq id : ℕ) → given ≡ f → id ≡ seq → Knows f seq → Knows given id
call-known f given seq id before place known = rw before (rw place known)

call-adds :
    (f given left mid : Body) (seq id : ℕ) (xs : List (Instr × ℕ)) → given ≡ f → id ≡ seq → left ≡ mid →
    left ≡ with_more given id xs → mid ≡ with_more f seq xs
call-adds f given left mid seq id xs before place leaves adds =
    sym leaves ∙ adds ∙ ap (λ (g : Body). with_more g id xs) before
    ∙ ap (λ (s : ℕ). with_more f s xs) place

pub adds-all :
    {F : Type 0} (step : Step F) (instrs : ℕ → ℕ → List (Instr × ℕ)) (count seq : ℕ) (start : F) →
    AddsEach step count start instrs →
    (n : ℕ) (locals : List ℕ) (old new : F × Body) →
    Reaches step count start old.0 → Knows old.1 seq → n + length locals ≤ count →
    FoldsTo (Converts step seq (Ok tt)) old (enumerate_from n locals) new →
    new.1 ≡ with_more old.1 seq (flat_map (λ x. instrs x.0 x.1) (enumerate_from n locals))
adds-all step instrs count seq start adds n [] old new reached known room folds =
    sym (ap (λ p. p.1) folds) ∙ sym (more-none old.1 seq)
adds-all step instrs count seq start adds n (local ∷ locals) old new reached known room folds =
    let mid = folds.0 in
    let one = folds.1 in
    let f : Body = old.1 in
    let given = call-known f (function_of one.given.now) seq (seq_id one.given.now) one.before one.id known in
    let below : n < count = omega (arith, room) in
    let added = call-adds f (function_of one.given.now) (function_of one.left.now) mid.1 seq
    (seq_id one.given.now) (instrs n local) one.before one.id one.after
    (adds old.0 mid.0 one.given one.left n local reached given below one.met) in
    let rest = flat_map (λ x. instrs x.0 x.1) (enumerate_from (n + 1) locals) in
    let known_mid : Knows mid.1 seq = rw added (more-known f seq (instrs n local) known) in
    adds-all step instrs count seq start adds (n + 1) locals mid new
    (after old.0 mid.0 one.given one.left n local reached given below one.met) known_mid
    (omega (arith, room)) folds.2
    ∙ ap (λ (g : Body). with_more g seq rest) added
    ∙ more-more f seq (instrs n local) rest known

-- the steps of a converting adapter, put together

results-there :
    (Holds : ℕ → Body → Type 0) (seq second third : ℕ) (mid called : Body) (instrs : List (Instr × ℕ)) →
    second ≡ seq → third ≡ second → called ≡ with_more mid second instrs → Holds third called →
    Holds seq (with_more mid seq instrs)
results-there Holds seq second third mid called instrs one two calls holds =
    let At : ℕ → Type 0 = λ n. Holds n called in
    subst (Holds seq) (calls ∙ ap (λ (n : ℕ). with_more mid n instrs) one) (subst At (two ∙ one) holds)

pub call-converted :
    {P R : Type 0} (by : BothConversions P R) (seq second third : ℕ) (call : StoredCall)
    (old mid called new : Body) →
    (last : P) × ConvertsEach by.param_step seq call.params (by.param, old) (last, mid) →
    second ≡ seq → third ≡ second → called ≡ with_more mid second (call_and_store call.func call.results) →
    (last : R) × ConvertsEach by.result_step third call.results (by.res, called) (last, new) →
    ConvertsCall by seq call old new
call-converted by seq second third call old mid called new before one two calls behind = record {
  before_call = (before.0, mid);
  last = behind.0;
  converted_params = before.1;
  converted_results = results-there
      (λ n b. ConvertsEach by.result_step n call.results (by.res, b) (behind.0, new))
      seq second third mid called (call_and_store call.func call.results) one two calls behind.1;
}

pub call-failed :
    {P R : Type 0} (by : BothConversions P R) (seq second third : ℕ) (call : StoredCall)
    (old mid called : Body) (e : BuildError) →
    (last : P) × ConvertsEach by.param_step seq call.params (by.param, old) (last, mid) →
    second ≡ seq → third ≡ second → called ≡ with_more mid second (call_and_store call.func call.results) →
    FailsToConvert by.result_step third call.results (by.res, called) e →
    FailsToConvertCall by seq call old e
call-failed by seq second third call old mid called e before one two calls fails =
    inr (inr (
      (before.0, mid),
      before.1,
      results-there
          (λ n b. FailsToConvert by.result_step n call.results (by.res, b) e)
          seq second third mid called (call_and_store call.func call.results) one two calls fails,
    ))

pub if-err : {T E : Type 0} (Q : E → Type 0) (r : Result T E) (e : E) → r ≡ Err e → Q e → IfErr r Q
if-err {T} {E} Q r e is holds =
    let Fails : Result T E → Type 0 = λ s. IfErr s Q in
    subst Fails (sym is) holds

-- the function that the entry is of, and the entry

pub entry-first :
    (f : Body) (ty entry_ty id : ℕ) → f ≡ begun ty entry_ty → f.entry ≡ Some id → id ≡ 0
entry-first f ty entry_ty id is at =
    ap (λ (o : Option ℕ). option_map_or (λ n. n) o 0) (sym at ∙ ap (λ (b : Body). b.entry) is)

-- what holds of the sequence, the call and the body holds of the entry of the function that was begun
pub at-entry :
    (Holds : ℕ → StoredCall → Body → Type 0) (ty entry_ty seq : ℕ) (here call : StoredCall) (f g : Body) →
    f ≡ begun ty entry_ty → g ≡ f → f.entry ≡ Some seq → here ≡ call → Holds seq here g →
    Holds 0 call (begun ty entry_ty)
at-entry Holds ty entry_ty seq here call f g begins same at is holds =
    let Seq : ℕ → Type 0 = λ n. Holds n here g in
    let Of : StoredCall → Type 0 = λ k. Holds 0 k g in
    subst (Holds 0 call) (same ∙ begins) (subst Of is (subst Seq (entry-first f ty entry_ty seq begins at) holds))

-- all that a converting adapter does, where its conversions add these instructions

pub call-exact :
    {P R : Type 0} (by : BothConversions P R) (seq : ℕ) (call : StoredCall) (old new : Body)
    (for_param for_result : ℕ → ℕ → List (Instr × ℕ)) → ConvertsCall by seq call old new →
    AddsEach by.param_step (length call.params) by.param for_param →
    AddsEach by.result_step (length call.results) by.res for_result → Knows old seq →
    new ≡ with_more old seq (converted_call for_param for_result call)
call-exact by seq call old new for_param for_result does adds_params adds_results known =
    let before = does.before_call.1 in
    let xs = for_each for_param call.params in
    let ys = call_and_store call.func call.results in
    let zs = for_each for_result call.results in
    let first : before ≡ with_more old seq xs =
    adds-all by.param_step for_param (length call.params) seq by.param adds_params 0 call.params
    (by.param, old) does.before_call at_start known (omega arith) does.converted_params in
    let called : with_more before seq ys ≡ with_more old seq (xs ++ ys) =
    ap (λ (g : Body). with_more g seq ys) first ∙ more-more old seq xs ys known in
    let KnownIn : Body → Type 0 = λ g. Knows g seq in
    let known_before : Knows before seq = subst KnownIn (sym first) (more-known old seq xs known) in
    adds-all by.result_step for_result (length call.results) seq by.res adds_results 0 call.results
    (by.res, with_more before seq ys) (does.last, new) at_start
    (more-known before seq ys known_before) (omega arith)
    does.converted_results
    ∙ ap (λ (g : Body). with_more g seq zs) called
    ∙ more-more old seq (xs ++ ys) zs known

pub adapter-instrs :
    {P R : Type 0} (by : BothConversions P R) (call : StoredCall) (old new : Table) (ty : ℕ)
    (adapter : FunctionWithArgs) (param_count result_count : ℕ) →
    ConvertsAndCalls by call old new ty adapter →
    length call.params ≡ param_count → length call.results ≡ result_count →
    (for_param for_result : ℕ → ℕ → List (Instr × ℕ)) →
    AddsEach by.param_step param_count by.param for_param →
    AddsEach by.result_step result_count by.res for_result →
    HasInstrs old new ty (results_of old ty) (converted_call for_param for_result call) adapter
adapter-instrs by call old new ty adapter param_count result_count made params_are results_are
    for_param for_result adds_params adds_results =
    let AddsParams : ℕ → Type 0 = λ n. AddsEach by.param_step n by.param for_param in
    let AddsResults : ℕ → Type 0 = λ n. AddsEach by.result_step n by.res for_result in
    record {
      entry_ty = made.entry_ty;
      entry = made.entry;
      body = call-exact by 0 call (begun ty made.entry_ty) adapter.body for_param for_result made.body
          (subst AddsParams (sym params_are) adds_params) (subst AddsResults (sym results_are) adds_results)
          (omega arith);
    }

-- conversions that read their locals

reads-all :
    (n : ℕ) (locals : List ℕ) →
    flat_map (λ x. read_of x.0 x.1) (enumerate_from n locals) ≡ map get_of locals
reads-all n [] = refl
reads-all n (local ∷ locals) = ap (λ (xs : List (Instr × ℕ)). get_of local ∷ xs) (reads-all (n + 1) locals)

pub plain-call :
    (func : ℕ) (params results : List ℕ) →
    converted_call read_of read_of (record { func = func; params = params; results = results }) ≡
    call_with params func ++ (map set_of (reverse results) ++ map get_of results)
plain-call func params results =
    let sets = map set_of (reverse results) in
    let gets = map get_of results in
    ap (λ (xs : List (Instr × ℕ)). xs ++ call_and_store func results ++ for_each read_of results)
    (reads-all 0 params)
    ∙ ap (λ (xs : List (Instr × ℕ)). map get_of params ++ call_and_store func results ++ xs)
    (reads-all 0 results)
    ∙ append_assoc (map get_of params) (call_and_store func results) gets
    ∙ sym (append_assoc (map get_of params) (call_and_store func []) (sets ++ gets))

pub plain-call-no_results :
    (func : ℕ) (params : List ℕ) →
    converted_call read_of read_of (record { func = func; params = params; results = [] }) ≡ call_with params func
plain-call-no_results func params = plain-call func params [] ∙ append-nil (call_with params func)
