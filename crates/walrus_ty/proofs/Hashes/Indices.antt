-- Records of a section are read back from what `Hash` is fed of them.
use Rattle.std.proofs.Common.{ℕ, ◌<◌, ◌^◌, ◌==◌, cond, Bool, ◌++◌, Option, ap, ◌∙◌, arith, append_assoc}
use Rattle.std.specs.Hash.{HashWrites}
use Rattle.std.specs.Hash as fed
use Rattle.walrus_ty.specs.declared.{ty.value.Val.Val, ty.value.Field.Field, records.CompAt.CompAt, records.EntryAt.EntryAt}
use Rattle.walrus_ty.specs.{Value.val_name, Value.field_name, Records.comp_composite, Records.entry_definition}
use Rattle.walrus_ty.proofs.Hashes.Values as generic
use Rattle.walrus_ty.proofs.Hashes.Values.{NameHash}
use denote.Builtin.{u32}
use Rattle.std.specs.contracts.prelude.U32Hash.TheImpl as number_hash
use Rattle.std.specs.contracts.prelude.U32Eq.TheImpl as number_eq
use Rattle.std.specs.contracts.prelude.U32PartialEq.TheImpl as number_partial_eq
use Rattle.walrus_ty.specs.contracts.records.CompAtHash.TheImpl as comp_hash
use Rattle.walrus_ty.specs.contracts.records.EntryAtHash.TheImpl as entry_hash
use Rattle.walrus_ty.specs.declared.records.CompAt.TheVariants as comp
use Rattle.walrus_ty.specs.HashInput.{HashesBy, Fits, CompositeFits, DefinitionFits}
use Rattle.walrus_ty.proofs.Hashes.Parts.{Read, Got, bind, next, rest, tag_tells, ReadsBack, hashes, bool_read, bool_back, list_read, list_back, lists_read, lists_back, option_read, option_back, index_read, index_back}

abbrev InRange : ℕ → Type 0
InRange k = k < 2 ^ 32

abbrev pub indices : NameHash u32
indices = record {
  feeds = number_hash.ghosts;
  feeds_dict = number_hash.dict;
  eq = number_eq.ghosts;
  eq_dict = number_eq.dict;
  partial_eq = number_partial_eq.ghosts;
  partial_eq_dict = number_partial_eq.dict;
  CanHold = InRange;
  read = index_read;
  back = index_back;
}

abbrev Named : {A : Type 0} → (A → Option ℕ) → A → Type 0
Named name x = Fits 32 (name x)

abbrev pub val_input : Val ℕ → HashWrites
val_input = generic.val_input u32 indices

abbrev pub val_read : HashWrites → Read (Val ℕ)
val_read = generic.val_read u32 indices

pub val_back : ReadsBack (Named val_name) val_input val_read
val_back = generic.val_back u32 indices

abbrev pub field_input : Field ℕ → HashWrites
field_input = generic.field_input u32 indices

abbrev pub field_read : HashWrites → Read (Field ℕ)
field_read = generic.field_read u32 indices

pub field_back : ReadsBack (Named field_name) field_input field_read
field_back = generic.field_back u32 indices

-- composite types and entries

abbrev comp_input : CompAt → HashWrites
comp_input = (comp_hash.ghosts).hash_input

abbrev comp_case : ℕ → HashWrites → Read CompAt
comp_case m ws =
    cond (m == 0) (lists_read comp.Function val_read ws)
    (cond (m == 1) (bind (list_read field_read ws) (λ fs us. Got (comp.Struct fs) us))
    (bind (field_read ws) (λ f us. Got (comp.Array f) us)))

abbrev comp_read : HashWrites → Read CompAt
comp_read ws = comp_case (next ws) (rest ws)

comp_back : ReadsBack (λ (c : CompAt). CompositeFits 32 (comp_composite c)) comp_input comp_read
comp_back (comp.Function ps rs) h ts =
    ap (λ m. comp_case m ((fed.slice val_input ps ++ fed.slice val_input rs) ++ ts))
    (tag_tells 0 (omega arith))
    ∙ lists_back comp.Function (Named val_name) val_input val_read val_back ps rs h.0 h.1 ts
comp_back (comp.Struct fs) h ts =
    ap (λ m. comp_case m (fed.slice field_input fs ++ ts)) (tag_tells 1 (omega arith))
    ∙ ap (λ q. bind q (λ gs us. Got (comp.Struct gs) us))
    (list_back (Named field_name) field_input field_read field_back fs h.0 h.1 ts)
comp_back (comp.Array f) h ts =
    ap (λ m. comp_case m (field_input f ++ ts)) (tag_tells 2 (omega arith))
    ∙ ap (λ q. bind q (λ g us. Got (comp.Array g) us)) (field_back f h ts)

pub comps_hash :
    HashesBy (λ (c : CompAt). c) (λ c. CompositeFits 32 (comp_composite c)) comp_input
comps_hash = hashes _ comp_input comp_read comp_back

abbrev entry_input : EntryAt → HashWrites
entry_input = (entry_hash.ghosts).hash_input

abbrev entry_of : CompAt → Bool → Option ℕ → EntryAt
entry_of c final s = record { comp = c; is_final = final; supertype = s }

abbrev after_final : CompAt → Bool → HashWrites → Read EntryAt
after_final c final ws = bind (option_read index_read ws) (λ s us. Got (entry_of c final s) us)

abbrev after_comp : CompAt → HashWrites → Read EntryAt
after_comp c ws = bind (bool_read ws) (after_final c)

abbrev entry_read : HashWrites → Read EntryAt
entry_read ws = bind (comp_read ws) after_comp

entry_back : ReadsBack (λ (e : EntryAt). DefinitionFits 32 (entry_definition e)) entry_input entry_read
entry_back e h ts =
    let above : HashWrites = fed.option fed.u32 e.supertype in
    ap entry_read (append_assoc (comp_input e.comp) (fed.bool e.is_final ++ above) ts)
    ∙ (ap (λ q. bind q after_comp) (comp_back e.comp h.0 (fed.bool e.is_final ++ (above ++ ts)))
    ∙ (ap (λ q. bind q (after_final e.comp)) (bool_back e.is_final (above ++ ts))
    ∙ ap (λ q. bind q (λ s us. Got (entry_of e.comp e.is_final s) us))
    (option_back InRange fed.u32 index_read index_back e.supertype h.1 ts)))

pub entries_hash :
    HashesBy (λ (e : EntryAt). e) (λ e. DefinitionFits 32 (entry_definition e)) entry_input
entries_hash = hashes _ entry_input entry_read entry_back
