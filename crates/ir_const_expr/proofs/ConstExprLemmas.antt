-- That the operations of a constant expression are those that it was made of.
use Rattle.std.proofs.Common.{◌≡◌, ℕ, ◌+◌, ◌<◌, List, [], ◌∷◌, length, map, drop, get_or, refl, ap, sym, ◌∙◌, Option, Some, None, Bool}
use Rattle.std.specs.List.{flat_map, find}
use Rattle.std.specs.Option.{option_map, option_or, is_none}
use Rattle.std.proofs.lemmas.List.{drop_more}
use Rattle.std.proofs.lemmas.List.Folds.{find-append}
use Rattle.walrus_ty.specs.declared.error.NoIndex.{NoIndex}
use Rattle.walrus_ty.specs.declared.ty.value.Heap.{Heap}
use Rattle.walrus_ty.specs.declared.ty.value.Heap.TheVariants as heap
use Rattle.walrus_ty.specs.Value.{rename_heap}
use Rattle.ir_const_expr.specs.declared.const_expr.ConstOp.{ConstOp}
use Rattle.ir_const_expr.specs.declared.const_expr.ConstOp.TheVariants as op
use Rattle.ir_const_expr.specs.declared.const_expr.ConstOpAt.{ConstOpAt}
use Rattle.ir_const_expr.specs.declared.const_expr.ConstOpAt.TheVariants as at
use Rattle.ir_const_expr.specs.ConstExpr.{LookUp, Name, Renaming, after, expr_of, first_missing, look_up, no_index, op_names, ops_of, op_read, op_written, rename_op}

one_back : (only : ConstOp) → ops_of (expr_of (only ∷ [])) ≡ only ∷ []
one_back (op.I32Const n) = refl
one_back other = refl

pub ops_back : (ops : List ConstOp) → ops_of (expr_of ops) ≡ ops
ops_back [] = refl
ops_back (only ∷ []) = one_back only
ops_back (first ∷ second ∷ rest) = refl

heap_both :
    (g f : ℕ → ℕ) (h : Heap ℕ) → rename_heap g (rename_heap f h) ≡ rename_heap (λ k. g (f k)) h
heap_both g f (heap.Abstract a) = refl
heap_both g f (heap.Concrete k) = refl
heap_both g f (heap.Exact k) = refl

module _ (f g : Renaming) where
  op_both : (o : ConstOpAt) → op_written g (op_read f o) ≡ rename_op (after g f) o
  op_both (at.RefNull h) = ap at.RefNull (heap_both g.types f.types h)
  op_both other = refl

  ops_both : (ops : List ConstOpAt) → map (op_written g) (map (op_read f) ops) ≡ map (rename_op (after g f))
      ops
  ops_both [] = refl
  ops_both (o ∷ ops) = λ i. op_both o i ∷ ops_both ops i

  pub both_ways : (ops : List ConstOpAt) → map (op_written g) (ops_of (expr_of (map (op_read f) ops))) ≡ map
      (rename_op (after g f)) ops
  both_ways ops = ap (map (op_written g)) (ops_back (map (op_read f) ops)) ∙ ops_both ops

-- what one operation lacks is the first that all of them lack, where those before it lack nothing
pub missing_here :
    (known : LookUp) (ops : List ConstOp) (i : ℕ) (o : ConstOp) (n : NoIndex) → i < length ops →
    o ≡ get_or ops i o → first_missing known (flat_map op_names (drop i ops)) ≡
    first_missing known (flat_map op_names ops) →
    option_map no_index (first_missing known (op_names o)) ≡ Some n →
    option_map no_index (first_missing known (flat_map op_names ops)) ≡ Some n
missing_here known ops i o n below is left here =
    let lacks : Name → Bool = λ name. is_none (look_up known name) in
    let rest : List Name = flat_map op_names (drop (i + 1) ops) in
    let from : drop i ops ≡ o ∷ drop (i + 1) ops = drop_more ops i o below
    ∙ ap (λ (p : ConstOp). p ∷ drop (i + 1) ops) (sym is) in
    let split : first_missing known (flat_map op_names (drop i ops)) ≡ option_or
    (first_missing known (op_names o)) (find lacks rest) =
    ap (λ ps. first_missing known (flat_map op_names ps)) from ∙ find-append lacks (op_names o) rest in
    ap (option_map no_index) (sym left ∙ split)
    ∙ first (first_missing known (op_names o)) (find lacks rest) here
  where
    first : (p q : Option Name) → option_map no_index p ≡ Some n →
        option_map no_index (option_or p q) ≡ Some n
    first None q h = cc
    first (Some m) q h = h
