-- Lemmas on nested forms.
use Rattle.std.proofs.Common.{◌≡◌, ℕ, ◌⊎◌, Result, Ok, Err, IfErr, inr, subst}
use Rattle.ir_instr.specs.declared.instr_seq_type.InstrSeqType.{InstrSeqType}
use Rattle.walrus_functions.specs.declared.error.BuildError.{BuildError}
use Rattle.walrus_functions.specs.Body.{Body}
use Rattle.walrus_functions.specs.NestedForms.{Post, Fills, FailsToFill}

-- both closures ran, and then the instruction was not added, which changed nothing
pub both_not :
    (first second : Post) (ty : InstrSeqType) (old mid f last : Body)
    (Not : ℕ → Body → BuildError → Type 0) (at parent : ℕ) (r : Result (Unit {0}) BuildError) →
    at ≡ parent → Fills first ty old (Ok tt) mid → Fills second ty mid (Ok tt) f →
    IfErr r (λ e. (last ≡ f) × Not at f e) →
    IfErr r (λ e. FailsToFill first ty old e last ⊎
    ((mid : Body) × Fills first ty old (Ok tt) mid ×
    (FailsToFill second ty mid e last ⊎
    ((f : Body) × Fills second ty mid (Ok tt) f × ((last ≡ f) × Not parent f e)))))
both_not first second ty old mid f last Not at parent (Ok x) same one two not = tt
both_not first second ty old mid f last Not at parent (Err e) same one two not =
    inr (mid, one, inr (f, two, (not.0, subst (λ (p : ℕ). Not p f e) same not.1)))
