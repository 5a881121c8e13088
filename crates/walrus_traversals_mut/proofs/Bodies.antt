-- What a write of one sequence does to a body. Only these proofs look at how a body keeps its
-- sequences.
use Rattle.std.proofs.Math.ListN.{set, length-set}
use Rattle.std.proofs.lemmas.List.{set-get_or}
use Rattle.std.proofs.Common.{◌≡◌, ℕ, zero, suc, ◌<◌, List, [], ◌∷◌, None, length, get_or, refl, sym, ap, subst}
use Rattle.ir_instr.specs.Sequence.{Sequence, empty_sequence}
use Rattle.ir_instr.specs.declared.instr_seq_type.InstrSeqType.TheVariants.{Simple}
use Rattle.walrus_functions.specs.Body.{Body, Knows, sequence, with_sequence}
use Rattle.walrus_traversals_mut.specs.Walks.{last_first, last_first_of}

pub count_after : (f : Body) (id : ℕ) (s : Sequence) → length (with_sequence f id s).seqs ≡ length f.seqs
count_after f id s = length-set f.seqs id s

children_after :
    (xs : List Sequence) (i q : ℕ) (new d e : Sequence) →
    last_first new ≡ last_first (get_or xs i d) →
    last_first (get_or (set xs i new) q e) ≡ last_first (get_or xs q e)
children_after [] i q new d e h = refl
children_after (x ∷ xs) zero zero new d e h = h
children_after (x ∷ xs) zero (suc q) new d e h = refl
children_after (x ∷ xs) (suc i) zero new d e h = refl
children_after (x ∷ xs) (suc i) (suc q) new d e h = children_after xs i q new d e h

-- a write that keeps the children of its sequence keeps those of all
pub last_first_after : (f : Body) (id q : ℕ) (new : Sequence) →
    last_first new ≡ last_first (sequence f id) → last_first_of (with_sequence f id new) q ≡ last_first_of f q
last_first_after f id q new h =
    children_after f.seqs id q new (empty_sequence id (Simple None)) (empty_sequence q (Simple None)) h

-- a write of what stands there
pub same_write : (f : Body) (id : ℕ) → with_sequence f id (sequence f id) ≡ f
same_write f id =
    ap (λ (s : List Sequence). record f { seqs = s }) (set-get_or f.seqs id (empty_sequence id (Simple None)))

-- the same number of sequences has the same ids
pub still_known : (f g : Body) (id : ℕ) → length g.seqs ≡ length f.seqs → Knows f id → Knows g id
still_known f g id e h = subst (λ (n : ℕ). id < n) (sym e) h
