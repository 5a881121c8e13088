-- Lists whose items are changed one by one, and functions whose sequences are.
use Rattle.std.proofs.Common.{◌≡◌, ℕ, ◌+◌, ◌<◌, ◌≤◌, List, [], ◌∷◌, length, take, drop, get_or, set, length-set, sym, ap, subst, ◌∙◌, arith, Some}
use Rattle.std.specs.List.{AllZip, slice_get}
use Rattle.std.proofs.lemmas.List.{take_more_set, drop-set-lt, drop_more, take_all}
use Rattle.std.proofs.lemmas.List.Elements.{all_zip_more}
use Rattle.std.proofs.lemmas.Option.{get_or_from_slice_get}
use Rattle.ir_instr.specs.declared.instr.Instr.{Instr}
use Rattle.ir_instr.specs.Sequence.{Sequence}
use Rattle.walrus_functions.specs.Body.{with_sequence}
use Rattle.walrus_functions.specs.FunctionWithArgs.{FunctionWithArgs}
use Rattle.walrus_passes.specs.MappedInstrs.{IsMapped, IsMappedSequence, IsMappedItem}

-- of a list, the items before the place i have become ones that are so related to them
pub record Mapped {A : Type 0} (maps : A → A → Type 0) (old now : List A) (i : ℕ) : Type 0 where
  pub done : AllZip maps (take i old) (take i now)
  pub left : drop i now ≡ drop i old
  pub size : length now ≡ length old

module _ {A : Type 0} (maps : A → A → Type 0) where
  -- one item more is changed
  pub mapped-more : (old now : List A) (i : ℕ) (x y : A) →
      Mapped maps old now i → i < length now → x ≡ get_or now i x → maps x y →
      Mapped maps old (set now i y) (i + 1)
  mapped-more old now i x y m below is change =
      let size = m.size in
      let low : i < length old = omega (arith, size) in
      let both : get_or now i x ∷ drop (i + 1) now ≡ get_or old i x ∷ drop (i + 1) old =
      sym (drop_more now i x below) ∙ m.left ∙ drop_more old i x low in
      record {
        done = subst (AllZip maps (take (i + 1) old)) (sym (take_more_set now i y below))
            (all_zip_more maps old (take i now) i x y low (is ∙ ap (λ l. get_or l 0 x) both) m.done change);
        left = drop-set-lt (i + 1) now i y (omega arith) ∙ ap (drop 1) both;
        size = length-set now i y ∙ size;
      }

  -- all items are changed
  pub mapped-all : (old now : List A) (i : ℕ) →
      Mapped maps old now i → length now ≤ i → AllZip maps old now
  mapped-all old now i m all =
      let size = m.size in
      let old_all : take i old ≡ old = take_all i old (omega (arith, size, all)) in
      let now_all : take i now ≡ now = take_all i now all in
      subst (AllZip maps old) now_all (subst (λ xs. AllZip maps xs (take i now)) old_all m.done)

-- nothing but the sequences of the function has changed
abbrev pub IsWithSequences : FunctionWithArgs → FunctionWithArgs → Type 0
IsWithSequences old now = now ≡ record old { body = record (old.body) { seqs = now.body.seqs } }

-- one sequence more is changed
pub sequence-more :
    (maps : Instr → Instr → Type 0) (old now : FunctionWithArgs) (i id : ℕ) (x y : Sequence) →
    Mapped (IsMappedSequence maps) old.body.seqs now.body.seqs i → IsWithSequences old now →
    i < length now.body.seqs → id ≡ i → slice_get now.body.seqs id ≡ Some x → IsMappedSequence maps x y →
    Mapped (IsMappedSequence maps) old.body.seqs (set now.body.seqs id y) (i + 1)
    × IsWithSequences old (record now { body = with_sequence now.body id y })
sequence-more maps old now i id x y m same below here there change =
    let at : x ≡ get_or now.body.seqs i x = sym (get_or_from_slice_get now.body.seqs id x x there)
    ∙ ap (λ n. get_or now.body.seqs n x) here in
    let next = mapped-more (IsMappedSequence maps) old.body.seqs now.body.seqs i x y m below at change in
    let seqs = set now.body.seqs id y in (
      subst (λ n. Mapped (IsMappedSequence maps) old.body.seqs (set now.body.seqs n y) (i + 1))
          (sym here) next,
      ap (λ (f : FunctionWithArgs). record f { body = record (f.body) { seqs = seqs } }) same,
    )

-- what is so related is also related by what follows from it
module _ {A : Type 0} (some all : A → A → Type 0) (weaker : (x y : A) → some x y → all x y) where
  pub AllZip-weaker : (xs ys : List A) → AllZip some xs ys → AllZip all xs ys
  AllZip-weaker [] [] z = z
  AllZip-weaker [] (y ∷ ys) z = z
  AllZip-weaker (x ∷ xs) [] z = z
  AllZip-weaker (x ∷ xs) (y ∷ ys) z = (weaker x y z.0, AllZip-weaker xs ys z.1)

pub IsMapped-weaker :
    (some all : Instr → Instr → Type 0) (old new : FunctionWithArgs) → IsMapped some old new →
    ((x y : Instr) → some x y → all x y) → IsMapped all old new
IsMapped-weaker some all old new m weaker = record {
  seqs = AllZip-weaker (IsMappedSequence some) (IsMappedSequence all) (λ s t e. record {
    instrs = AllZip-weaker (IsMappedItem some) (IsMappedItem all) (λ x y i. (weaker x.0 y.0 i.0, i.1))
        s.instrs t.instrs e.instrs;
    same = e.same;
  }) old.body.seqs new.body.seqs m.seqs;
  same = m.same;
}
