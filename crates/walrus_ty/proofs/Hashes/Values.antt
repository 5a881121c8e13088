-- Value types are read back from what `Hash` is fed of them, whatever names types in them.
use Rattle.std.proofs.Common.{◌≡◌, ℕ, ◌<◌, ◌==◌, cond, Bool, [], ◌∷◌, ◌++◌, refl, ap, ◌∙◌, arith, append_assoc}
use Rattle.std.specs.{Hash.HashWrites, Hash.le_bytes, Option.IfSome}
use Rattle.std.specs.Hash as fed
use Rattle.std.specs.declared.cmp.Eq as total
use Rattle.std.specs.declared.cmp.PartialEq as equality
use Rattle.std.specs.declared.hash.Hash as hash
use denote.RattleType.{RattleType}
use mir.Syntax.{Dict}
use Rattle.walrus_ty.specs.contracts.ty.value.AbstractHeapTypeHash.TheImpl as abstract_hash
use Rattle.walrus_ty.specs.contracts.ty.value.HeapHash.TheImpl as heap_hash
use Rattle.walrus_ty.specs.contracts.ty.value.ReferenceHash.TheImpl as reference_hash
use Rattle.walrus_ty.specs.contracts.ty.value.ValHash.TheImpl as val_hash
use Rattle.walrus_ty.specs.contracts.ty.value.StorageHash.TheImpl as storage_hash
use Rattle.walrus_ty.specs.contracts.ty.value.FieldHash.TheImpl as field_hash
use Rattle.walrus_ty.specs.declared.ty.value.{AbstractHeapType.AbstractHeapType, Heap.Heap, Reference.Reference, Val.Val, Storage.Storage, Field.Field}
use Rattle.walrus_ty.specs.declared.ty.value.AbstractHeapType.TheVariants as abstract
use Rattle.walrus_ty.specs.declared.ty.value.Heap.TheVariants as heap
use Rattle.walrus_ty.specs.declared.ty.value.Val.TheVariants as val
use Rattle.walrus_ty.specs.declared.ty.value.Storage.TheVariants as storage
use Rattle.walrus_ty.specs.Value.{abstract_index, heap_name, reference_name, val_name, storage_name, field_name}
use Rattle.walrus_ty.specs.HashInput.{HashesBy}
use Rattle.walrus_ty.proofs.Hashes.Parts.{Read, Got, bind, next, rest, tag_tells, ReadsBack, hashes, bool_read, bool_back}
use Rattle.walrus_ty.proofs.Spelling.Injective.{abstract_at, abstract_back}

abbrev abstract_input : AbstractHeapType → HashWrites
abstract_input = (abstract_hash.ghosts).hash_input

abstract_is : (a : AbstractHeapType) → abstract_input a ≡ le_bytes 8 (abstract_index a) ∷ []
abstract_is abstract.Func = refl
abstract_is a = refl

below_twelve : (a : AbstractHeapType) → abstract_index a < 12
below_twelve abstract.Func = omega arith
below_twelve a = omega arith

abbrev abstract_read : HashWrites → Read AbstractHeapType
abstract_read ws = Got (abstract_at (next ws)) (rest ws)

abstract_reads :
    (a : AbstractHeapType) (ts : HashWrites) → abstract_read (abstract_input a ++ ts) ≡ Got a ts
abstract_reads a ts =
    ap (λ ws. abstract_read (ws ++ ts)) (abstract_is a)
    ∙ ap (λ b. Got b ts) (ap abstract_at (tag_tells (abstract_index a) (below_twelve a)) ∙ abstract_back a)

-- how names are fed, and read back
pub record NameHash (n : RattleType) : Type 1 where
  pub feeds : hash.Ghosts n.Denot
  pub feeds_dict : Dict
  pub eq : total.Ghosts n.Denot
  pub eq_dict : Dict
  pub partial_eq : equality.Ghosts n.Denot
  pub partial_eq_dict : Dict
  pub CanHold : n.Denot → Type 0
  pub read : HashWrites → Read n.Denot
  pub back : ReadsBack CanHold feeds.hash_input read

module _ (n : RattleType) (names : NameHash n) where
  abbrev pub heap_input : Heap n.Denot → HashWrites
  heap_input = (heap_hash.ghosts n names.feeds names.feeds_dict names.eq names.eq_dict names.partial_eq
      names.partial_eq_dict).hash_input

  abbrev pub reference_input : Reference n.Denot → HashWrites
  reference_input = (reference_hash.ghosts n names.feeds names.feeds_dict names.eq names.eq_dict names.partial_eq
      names.partial_eq_dict).hash_input

  abbrev pub val_input : Val n.Denot → HashWrites
  val_input = (val_hash.ghosts n names.feeds names.feeds_dict names.eq names.eq_dict names.partial_eq
      names.partial_eq_dict).hash_input

  abbrev pub storage_input : Storage n.Denot → HashWrites
  storage_input = (storage_hash.ghosts n names.feeds names.feeds_dict names.eq names.eq_dict names.partial_eq
      names.partial_eq_dict).hash_input

  abbrev pub field_input : Field n.Denot → HashWrites
  field_input = (field_hash.ghosts n names.feeds names.feeds_dict names.eq names.eq_dict names.partial_eq
      names.partial_eq_dict).hash_input

  abbrev heap_case : ℕ → HashWrites → Read (Heap n.Denot)
  heap_case m ws =
      cond (m == 0) (bind (abstract_read ws) (λ a us. Got (heap.Abstract a) us))
      (cond (m == 1) (bind (names.read ws) (λ k us. Got (heap.Concrete k) us))
      (bind (names.read ws) (λ k us. Got (heap.Exact k) us)))

  abbrev pub heap_read : HashWrites → Read (Heap n.Denot)
  heap_read ws = heap_case (next ws) (rest ws)

  pub heap_back : ReadsBack (λ x. IfSome (heap_name x) names.CanHold) heap_input heap_read
  heap_back (heap.Abstract a) f ts =
      ap (λ m. heap_case m (abstract_input a ++ ts)) (tag_tells 0 (omega arith))
      ∙ ap (λ r. bind r (λ b us. Got (heap.Abstract b) us)) (abstract_reads a ts)
  heap_back (heap.Concrete k) f ts =
      ap (λ m. heap_case m (names.feeds.hash_input k ++ ts)) (tag_tells 1 (omega arith))
      ∙ ap (λ r. bind r (λ l us. Got (heap.Concrete l) us)) (names.back k f ts)
  heap_back (heap.Exact k) f ts =
      ap (λ m. heap_case m (names.feeds.hash_input k ++ ts)) (tag_tells 2 (omega arith))
      ∙ ap (λ r. bind r (λ l us. Got (heap.Exact l) us)) (names.back k f ts)

  abbrev after_nullable : Bool → HashWrites → Read (Reference n.Denot)
  after_nullable b us = bind (heap_read us) (λ x vs. Got (record { nullable = b; heap_type = x }) vs)

  abbrev pub reference_read : HashWrites → Read (Reference n.Denot)
  reference_read ws = bind (bool_read ws) after_nullable

  pub reference_back : ReadsBack (λ r. IfSome (reference_name r) names.CanHold) reference_input reference_read
  reference_back r f ts =
      ap (λ q. bind q after_nullable) (bool_back r.nullable (heap_input r.heap_type ++ ts))
      ∙ ap (λ q. bind q (λ x vs. Got (record { nullable = r.nullable; heap_type = x }) vs))
      (heap_back r.heap_type f ts)

  abbrev val_case : ℕ → HashWrites → Read (Val n.Denot)
  val_case m ws =
      cond (m == 0) (Got val.I32 ws) (cond (m == 1) (Got val.I64 ws)
      (cond (m == 2) (Got val.F32 ws) (cond (m == 3) (Got val.F64 ws)
      (cond (m == 4) (Got val.V128 ws) (bind (reference_read ws) (λ r us. Got (val.Ref r) us))))))

  abbrev pub val_read : HashWrites → Read (Val n.Denot)
  val_read ws = val_case (next ws) (rest ws)

  pub val_back : ReadsBack (λ v. IfSome (val_name v) names.CanHold) val_input val_read
  val_back val.I32 f ts = ap (λ m. val_case m ts) (tag_tells 0 (omega arith))
  val_back val.I64 f ts = ap (λ m. val_case m ts) (tag_tells 1 (omega arith))
  val_back val.F32 f ts = ap (λ m. val_case m ts) (tag_tells 2 (omega arith))
  val_back val.F64 f ts = ap (λ m. val_case m ts) (tag_tells 3 (omega arith))
  val_back val.V128 f ts = ap (λ m. val_case m ts) (tag_tells 4 (omega arith))
  val_back (val.Ref r) f ts =
      ap (λ m. val_case m (reference_input r ++ ts)) (tag_tells 5 (omega arith))
      ∙ ap (λ q. bind q (λ x us. Got (val.Ref x) us)) (reference_back r f ts)

  abbrev storage_case : ℕ → HashWrites → Read (Storage n.Denot)
  storage_case m ws =
      cond (m == 0) (bind (val_read ws) (λ v us. Got (storage.Val v) us))
      (cond (m == 1) (Got storage.I8 ws) (Got storage.I16 ws))

  abbrev pub storage_read : HashWrites → Read (Storage n.Denot)
  storage_read ws = storage_case (next ws) (rest ws)

  pub storage_back : ReadsBack (λ s. IfSome (storage_name s) names.CanHold) storage_input storage_read
  storage_back (storage.Val v) f ts =
      ap (λ m. storage_case m (val_input v ++ ts)) (tag_tells 0 (omega arith))
      ∙ ap (λ q. bind q (λ x us. Got (storage.Val x) us)) (val_back v f ts)
  storage_back storage.I8 f ts = ap (λ m. storage_case m ts) (tag_tells 1 (omega arith))
  storage_back storage.I16 f ts = ap (λ m. storage_case m ts) (tag_tells 2 (omega arith))

  abbrev after_element : Storage n.Denot → HashWrites → Read (Field n.Denot)
  after_element s us = bind (bool_read us) (λ b vs. Got (record { element_type = s; mutable = b }) vs)

  abbrev pub field_read : HashWrites → Read (Field n.Denot)
  field_read ws = bind (storage_read ws) after_element

  pub field_back : ReadsBack (λ x. IfSome (field_name x) names.CanHold) field_input field_read
  field_back x f ts =
      ap field_read (append_assoc (storage_input x.element_type) (fed.bool x.mutable) ts)
      ∙ (ap (λ q. bind q after_element) (storage_back x.element_type f (fed.bool x.mutable ++ ts))
      ∙ ap (λ q. bind q (λ b vs. Got (record { element_type = x.element_type; mutable = b }) vs))
      (bool_back x.mutable ts))

  pub heaps_hash : HashesBy (λ (x : Heap n.Denot). x) (λ x. IfSome (heap_name x) names.CanHold) heap_input
  heaps_hash = hashes _ heap_input heap_read heap_back

  pub references_hash : HashesBy (λ (x : Reference n.Denot). x) (λ x. IfSome (reference_name x) names.CanHold) reference_input
  references_hash = hashes _ reference_input reference_read reference_back

  pub vals_hash : HashesBy (λ (x : Val n.Denot). x) (λ x. IfSome (val_name x) names.CanHold) val_input
  vals_hash = hashes _ val_input val_read val_back

  pub storages_hash : HashesBy (λ (x : Storage n.Denot). x) (λ x. IfSome (storage_name x) names.CanHold) storage_input
  storages_hash = hashes _ storage_input storage_read storage_back

  pub fields_hash : HashesBy (λ (x : Field n.Denot). x) (λ x. IfSome (field_name x) names.CanHold) field_input
  fields_hash = hashes _ field_input field_read field_back
