-- Lemmas on a function under construction.
use Rattle.std.proofs.Common.{◌≡◌, ℕ, List, ap}
use Rattle.std.proofs.lemmas.List.{set-get_or}
use Rattle.ir_instr.specs.Sequence.{Sequence}
use Rattle.ir_instr.specs.declared.instr.Instr.{Instr}
use Rattle.walrus_functions.specs.Body.{Body, instrs_of, with_instrs}

-- the instructions that a sequence has, written again, change nothing
pub same_instrs : (f : Body) (id : ℕ) (instrs : List (Instr × ℕ)) →
    instrs ≡ instrs_of f id → with_instrs f id instrs ≡ f
same_instrs f id instrs e = rw e (ap (λ (s : List Sequence). record f { seqs = s }) (set-get_or f.seqs id _))
