-- Renaming by f and then by g is renaming by both.
use Rattle.std.proofs.Common.{◌≡◌, ℕ, List, [], ◌∷◌, map, option_map, Option, Some, None, refl, ap, ◌∙◌}
use Rattle.walrus_ty.specs.declared.ty.value.{Heap.Heap, Reference.Reference, Val.Val, Storage.Storage, Field.Field}
use Rattle.walrus_ty.specs.declared.ty.value.Heap.TheVariants as heap
use Rattle.walrus_ty.specs.declared.ty.value.Val.TheVariants as val
use Rattle.walrus_ty.specs.declared.ty.value.Storage.TheVariants as storage
use Rattle.walrus_ty.specs.Definition.{Composite, Function, Struct, Array, Definition, rename_composite, rename}
use Rattle.walrus_ty.specs.Value.{rename_heap, rename_reference, rename_val, rename_storage, rename_field}

module _ (f g : ℕ → ℕ) where
  pub heap_twice : (h : Heap ℕ) → rename_heap g (rename_heap f h) ≡ rename_heap (λ k. g (f k)) h
  heap_twice (heap.Abstract a) = refl
  heap_twice (heap.Concrete k) = refl
  heap_twice (heap.Exact k) = refl

  pub reference_twice : (r : Reference ℕ) → rename_reference g (rename_reference f r) ≡ rename_reference (λ k.
      g (f k)) r
  reference_twice r = ap (λ (h : Heap ℕ). let q : Reference ℕ =
      record { nullable = r.nullable; heap_type = h } in q) (heap_twice r.heap_type)

  pub val_twice : (v : Val ℕ) → rename_val g (rename_val f v) ≡ rename_val (λ k. g (f k)) v
  val_twice val.I32 = refl
  val_twice val.I64 = refl
  val_twice val.F32 = refl
  val_twice val.F64 = refl
  val_twice val.V128 = refl
  val_twice (val.Ref r) = ap (λ (q : Reference ℕ). val.Ref q) (reference_twice r)

  pub storage_twice : (s : Storage ℕ) → rename_storage g (rename_storage f s) ≡ rename_storage (λ k. g (f k))
      s
  storage_twice (storage.Val v) = ap (λ (w : Val ℕ). storage.Val w) (val_twice v)
  storage_twice storage.I8 = refl
  storage_twice storage.I16 = refl

  pub field_twice : (x : Field ℕ) → rename_field g (rename_field f x) ≡ rename_field (λ k. g (f k)) x
  field_twice x = ap (λ (s : Storage ℕ). let y : Field ℕ = record { element_type = s; mutable = x.mutable } in
      y) (storage_twice x.element_type)

  vals_twice : (vs : List (Val ℕ)) → map (rename_val g) (map (rename_val f) vs) ≡ map
      (rename_val (λ k. g (f k))) vs
  vals_twice [] = refl
  vals_twice (v ∷ vs) = ap (λ (w : Val ℕ). w ∷ map (rename_val g) (map (rename_val f) vs)) (val_twice v)
      ∙ ap (λ (ws : List (Val ℕ)). rename_val (λ k. g (f k)) v ∷ ws) (vals_twice vs)

  fields_twice : (xs : List (Field ℕ)) → map (rename_field g) (map (rename_field f) xs) ≡ map
      (rename_field (λ k. g (f k))) xs
  fields_twice [] = refl
  fields_twice (x ∷ xs) = ap (λ (y : Field ℕ). y ∷ map (rename_field g) (map (rename_field f) xs))
      (field_twice x) ∙ ap (λ (ys : List (Field ℕ)). rename_field (λ k. g (f k)) x ∷ ys) (fields_twice xs)

  pub composite_twice : (c : Composite) → rename_composite g (rename_composite f c) ≡ rename_composite (λ k.
      g (f k)) c
  composite_twice (Function ps rs) = ap (λ (vs : List (Val ℕ)).
      Function vs (map (rename_val g) (map (rename_val f) rs))) (vals_twice ps)
      ∙ ap (λ (vs : List (Val ℕ)). Function (map (rename_val (λ k. g (f k))) ps) vs) (vals_twice rs)
  composite_twice (Struct xs) = ap (λ (ys : List (Field ℕ)). Struct ys) (fields_twice xs)
  composite_twice (Array x) = ap (λ (y : Field ℕ). Array y) (field_twice x)

  supertype_twice : (o : Option ℕ) → option_map g (option_map f o) ≡ option_map (λ k. g (f k)) o
  supertype_twice None = refl
  supertype_twice (Some k) = refl

  pub definition_twice : (d : Definition) → rename g (rename f d) ≡ rename (λ k. g (f k)) d
  definition_twice d =
      let made : Composite → Option ℕ → Definition = λ c s.
      record { composite = c; is_final = d.is_final; supertype = s } in
      ap (λ (c : Composite). made c (option_map g (option_map f d.supertype))) (composite_twice d.composite)
      ∙ ap (λ (s : Option ℕ). made (rename_composite (λ k. g (f k)) d.composite) s)
      (supertype_twice d.supertype)
