-- Lemmas on the names in value types.
use Rattle.std.proofs.Common.{◌≡◌, ℕ, refl}
use Rattle.walrus_ty.specs.declared.ty.value.{Heap.Heap, Reference.Reference, Val.Val, Storage.Storage, Field.Field}
use Rattle.walrus_ty.specs.declared.ty.value.Heap.TheVariants as heap
use Rattle.walrus_ty.specs.declared.ty.value.Val.TheVariants as val
use Rattle.walrus_ty.specs.declared.ty.value.Storage.TheVariants as storage
use Rattle.walrus_ty.specs.Definition.{supertype_names}
use Rattle.walrus_ty.specs.Value.{heap_name, reference_name, val_name, storage_name, field_name, heap_names, reference_names, val_names, storage_names, field_names}

-- the one name is all that is named

pub heap_named : (h : Heap ℕ) → supertype_names (heap_name h) ≡ heap_names h
heap_named (heap.Abstract a) = refl
heap_named (heap.Concrete k) = refl
heap_named (heap.Exact k) = refl

pub reference_named : (r : Reference ℕ) → supertype_names (reference_name r) ≡ reference_names r
reference_named r = heap_named r.heap_type

pub val_named : (v : Val ℕ) → supertype_names (val_name v) ≡ val_names v
val_named (val.Ref r) = heap_named r.heap_type
val_named v = refl

pub storage_named : (s : Storage ℕ) → supertype_names (storage_name s) ≡ storage_names s
storage_named (storage.Val v) = val_named v
storage_named storage.I8 = refl
storage_named storage.I16 = refl

pub field_named : (f : Field ℕ) → supertype_names (field_name f) ≡ field_names f
field_named f = storage_named f.element_type
