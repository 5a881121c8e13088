-- What is left of calls that were snipped or redirected.
use Rattle.std.proofs.Common.{◌≡◌, ℕ, Bool, true, false, nat_eq, List, [], ◌∷◌, get_or, inl, inr, refl, sym, ap, subst, ◌∙◌, Some, Contains, if◌then◌else◌}
use Rattle.std.specs.List.{AllZip, list_any}
use Rattle.std.proofs.lemmas.Bool.{eq-eqb}
use Rattle.std.proofs.lemmas.List.Folds.{list_any_at}
use Rattle.ir_instr.specs.declared.instr.Instr.{Instr}
use Rattle.ir_instr.specs.declared.instr.Instr.TheVariants as instr
use Rattle.ir_instr.specs.Sequence.{Sequence}
use Rattle.walrus_functions.specs.FunctionWithArgs.{FunctionWithArgs}
use Rattle.walrus_passes.specs.MappedInstrs.{IsMapped, IsMappedSequence, IsMappedItem}
use Rattle.walrus_passes.specs.ChangedCalls.{named_function, is_one_of, snipped, redirected, redirected_id}
use Rattle.walrus_unused.proofs.UnusedTypes.Elements.{contains_none, contains_cases}

-- items that are changed once more, where the second change leaves what the first one left
module _ {A : Type 0} (maps : A → A → Type 0)
    (stays : (x y z : A) → maps x y → maps y z → z ≡ y) where
  pub AllZip-twice : (xs ys zs : List A) → AllZip maps xs ys → AllZip maps ys zs → zs ≡ ys
  AllZip-twice [] [] [] a b = refl
  AllZip-twice [] [] (z ∷ zs) a b = absurd b
  AllZip-twice [] (y ∷ ys) zs a b = absurd a
  AllZip-twice (x ∷ xs) [] zs a b = absurd a
  AllZip-twice (x ∷ xs) (y ∷ ys) [] a b = absurd b
  AllZip-twice (x ∷ xs) (y ∷ ys) (z ∷ zs) a b =
      ap (λ w. w ∷ zs) (stays x y z a.0 b.0) ∙ ap (λ ws. y ∷ ws) (AllZip-twice xs ys zs a.1 b.1)

-- the item that an item was
AllZip-source :
    {A : Type 0} (maps : A → A → Type 0) (xs ys : List A) (y : A) → AllZip maps xs ys →
    Contains ys y → (x : A) × maps x y
AllZip-source maps xs [] y z c = absurd (contains_none y c)
AllZip-source maps [] (w ∷ ys) y z c = absurd z
AllZip-source {A} maps (x ∷ xs) (w ∷ ys) y z c = elim (contains_cases w ys y c) [
  | inl e ↦ (x, subst (λ (v : A). maps x v) (sym e) z.0)
  | inr k ↦ AllZip-source maps xs ys y z.1 k
]

module _ (change : Instr → Instr) (settles : (i : Instr) → change (change i) ≡ change i) where
  abbrev changes : Instr → Instr → Type 0
  changes i j = j ≡ change i

  item-stays : (x y z : Instr × ℕ) → IsMappedItem changes x y → IsMappedItem changes y z → z ≡ y
  item-stays x y z a b =
      let first : z.0 ≡ y.0 = b.0 ∙ ap change a.0 ∙ settles x.0 ∙ sym a.0 in
      ap (λ i. (i, z.1)) first ∙ ap (λ l. (y.0, l)) b.1

  seq-stays : (s t u : Sequence) → IsMappedSequence changes s t → IsMappedSequence changes t u → u ≡ t
  seq-stays s t u a b =
      b.same ∙ ap (λ (items : List (Instr × ℕ)). record t { instrs = items })
      (AllZip-twice (IsMappedItem changes) item-stays s.instrs t.instrs u.instrs a.instrs b.instrs)

  -- a change that settles at once leaves the function as it left it
  pub settled : (f g h : FunctionWithArgs) → IsMapped changes f g → IsMapped changes g h → h ≡ g
  settled f g h a b =
      b.same ∙ ap (λ (seqs : List Sequence). record g { body = record (g.body) { seqs = seqs } })
      (AllZip-twice (IsMappedSequence changes) seq-stays f.body.seqs g.body.seqs h.body.seqs a.seqs b.seqs)

-- each instruction is the image of one
pub is-image :
    (change : Instr → Instr) (f g : FunctionWithArgs) (seq : Sequence) (item : Instr × ℕ) →
    IsMapped (λ i j. j ≡ change i) f g → Contains g.body.seqs seq → Contains seq.instrs item →
    (i : Instr) × (item.0 ≡ change i)
is-image change f g seq item m there here =
    let changes : Instr → Instr → Type 0 = λ i j. j ≡ change i in
    let of_seq = AllZip-source (IsMappedSequence changes) f.body.seqs g.body.seqs seq m.seqs there in
    let of_item = AllZip-source (IsMappedItem changes) of_seq.0.instrs seq.instrs item of_seq.1.instrs here in
    (of_item.0.0, of_item.1.0)

-- a function in the list is found there
found : (funcs : List ℕ) (func : ℕ) → Contains funcs func → list_any (nat_eq func) funcs ≡ true
found funcs func c = list_any_at (nat_eq func) funcs c.0 func c.1
    (eq-eqb func (get_or funcs c.0 func) (sym c.2))

-- what is snipped names none of the functions
pub snipped-names_none :
    (funcs : List ℕ) (i : Instr) (func : ℕ) → named_function (snipped funcs i) ≡ Some func →
    Contains funcs func → ⊥
snipped-names_none funcs i func named there =
    by-case (is_one_of funcs (named_function i)) refl named
  where
    by-case : (b : Bool) → is_one_of funcs (named_function i) ≡ b →
        named_function (if b then instr.Unreachable (record {}) else i) ≡ Some func → ⊥
    by-case true e h = let k : ⊥ = cc in absurd k
    by-case false e h =
        let t = found funcs func there in
        let is : is_one_of funcs (named_function i) ≡ list_any (nat_eq func) funcs = ap (is_one_of funcs) h in
        let k : ⊥ = cc in absurd k

pub snipped-settles : (funcs : List ℕ) (i : Instr) → snipped funcs (snipped funcs i) ≡ snipped funcs i
snipped-settles funcs i = by-case (is_one_of funcs (named_function i)) refl
  where
    by-case : (b : Bool) → is_one_of funcs (named_function i) ≡ b →
        snipped funcs (if b then instr.Unreachable (record {}) else i) ≡
        (if b then instr.Unreachable (record {}) else i)
    by-case true e = refl
    by-case false e = ap (λ (b : Bool). if b then instr.Unreachable (record {}) else i) e

redirected_id-settles :
    (from to func : ℕ) →
    redirected_id from to (redirected_id from to func) ≡ redirected_id from to func
redirected_id-settles from to func = by-case (nat_eq func from) refl
  where
    to-stays : (b : Bool) → (if b then to else to) ≡ to
    to-stays true = refl
    to-stays false = refl

    by-case : (b : Bool) → nat_eq func from ≡ b →
        redirected_id from to (if b then to else func) ≡ (if b then to else func)
    by-case true e = to-stays (nat_eq to from)
    by-case false e = ap (λ (b : Bool). if b then to else func) e

pub redirected-settles :
    (from to : ℕ) (i : Instr) → redirected from to (redirected from to i) ≡ redirected from to i
redirected-settles from to (instr.Call x) =
    ap (λ (n : ℕ). instr.Call (record { func = n })) (redirected_id-settles from to x.func)
redirected-settles from to (instr.ReturnCall x) =
    ap (λ (n : ℕ). instr.ReturnCall (record { func = n })) (redirected_id-settles from to x.func)
redirected-settles from to (instr.RefFunc x) =
    ap (λ (n : ℕ). instr.RefFunc (record { func = n })) (redirected_id-settles from to x.func)
redirected-settles from to _ = refl
