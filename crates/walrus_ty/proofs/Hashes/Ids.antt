-- Types of a module are read back from what `Hash` is fed of them.
use Rattle.std.proofs.Common.{ℕ, ◌<◌, ◌^◌, ◌==◌, cond, Bool, ◌++◌, Option, ap, ◌∙◌, arith, append_assoc}
use Rattle.std.specs.Hash.{HashWrites}
use Rattle.std.specs.Hash as fed
use Rattle.walrus_ty.specs.declared.ty.{value.Val.Val, value.Field.Field, composite.ArrayType.ArrayType, composite.StructType.StructType, composite.CompositeType.CompositeType}
use Rattle.walrus_ty.specs.{Value.val_name, Value.field_name, Comparison.TypeParts, Comparison.type_parts, Signature.Signature, Types.ModuleType, Types.kind_composite, Types.type_definition}
use Rattle.walrus_ty.proofs.Hashes.Values as generic
use Rattle.walrus_ty.proofs.Hashes.Values.{NameHash}
use denote.Builtin
use Rattle.walrus_id.specs.contracts.id.Key
use Rattle.walrus_id.specs.contracts.id.KeyHash.TheImpl as id_hash
use Rattle.walrus_id.specs.contracts.id.KeyEq.TheImpl as id_eq
use Rattle.walrus_id.specs.contracts.id.KeyPartialEq.TheImpl as id_partial_eq
use Rattle.walrus_ty.specs.contracts.ty.composite.FunctionTypeHash.TheImpl as function_hash
use Rattle.walrus_ty.specs.contracts.ty.composite.StructTypeHash.TheImpl as struct_hash
use Rattle.walrus_ty.specs.contracts.ty.composite.ArrayTypeHash.TheImpl as array_hash
use Rattle.walrus_ty.specs.contracts.ty.composite.CompositeTypeHash.TheImpl as kind_hash
use Rattle.walrus_ty.specs.contracts.ty.TypeHash.TheImpl as type_hash
use Rattle.walrus_ty.specs.declared.ty.composite.CompositeType.TheVariants.{Function, Struct, Array}
use Rattle.walrus_ty.specs.HashInput.{HashesBy, Fits, ListFits, CompositeFits, DefinitionFits}
use Rattle.walrus_ty.proofs.Hashes.Parts.{Read, Got, bind, next, rest, tag_tells, ReadsBack, apart, hashes, bool_read, bool_back, list_read, list_back, lists_read, lists_back, option_read, option_back, id_read, id_back}

abbrev InRange : ℕ → Type 0
InRange k = k < 2 ^ 64

abbrev pub ids : NameHash (Key.the_row Builtin.RawPtr)
ids = record {
  feeds = id_hash.ghosts Builtin.RawPtr;
  feeds_dict = id_hash.dict Builtin.RawPtr;
  eq = id_eq.ghosts Builtin.RawPtr;
  eq_dict = id_eq.dict Builtin.RawPtr;
  partial_eq = id_partial_eq.ghosts Builtin.RawPtr;
  partial_eq_dict = id_partial_eq.dict Builtin.RawPtr;
  CanHold = InRange;
  read = id_read;
  back = id_back;
}

abbrev Named : {A : Type 0} → (A → Option ℕ) → A → Type 0
Named name x = Fits 64 (name x)

abbrev pub val_input : Val ℕ → HashWrites
val_input = generic.val_input (Key.the_row Builtin.RawPtr) ids

abbrev pub val_read : HashWrites → Read (Val ℕ)
val_read = generic.val_read (Key.the_row Builtin.RawPtr) ids

pub val_back : ReadsBack (Named val_name) val_input val_read
val_back = generic.val_back (Key.the_row Builtin.RawPtr) ids

abbrev pub field_input : Field ℕ → HashWrites
field_input = generic.field_input (Key.the_row Builtin.RawPtr) ids

abbrev pub field_read : HashWrites → Read (Field ℕ)
field_read = generic.field_read (Key.the_row Builtin.RawPtr) ids

pub field_back : ReadsBack (Named field_name) field_input field_read
field_back = generic.field_back (Key.the_row Builtin.RawPtr) ids

-- composite types

abbrev function_input : Signature → HashWrites
function_input = (function_hash.ghosts).hash_input

abbrev function_read : HashWrites → Read Signature
function_read = lists_read (λ ps rs. record { params = ps; results = rs }) val_read

function_back :
    ReadsBack (λ (f : Signature). ListFits val_name 64 f.params × ListFits val_name 64 f.results)
    function_input function_read
function_back f h ts = lists_back (λ ps rs. record { params = ps; results = rs }) (Named val_name) val_input
    val_read val_back f.params f.results h.0 h.1 ts

pub functions_hash :
    HashesBy (λ (f : Signature). f)
    (λ f. ListFits val_name 64 f.params × ListFits val_name 64 f.results) function_input
functions_hash = hashes _ function_input function_read function_back

abbrev struct_input : StructType → HashWrites
struct_input = (struct_hash.ghosts).hash_input

abbrev struct_read : HashWrites → Read StructType
struct_read ws = bind (list_read field_read ws) (λ fs us. Got (record { fields = fs }) us)

struct_back : ReadsBack (λ (s : StructType). ListFits field_name 64 s.fields) struct_input struct_read
struct_back s h ts = ap (λ q. bind q (λ fs us. Got (record { fields = fs }) us))
    (list_back (Named field_name) field_input field_read field_back s.fields h.0 h.1 ts)

pub structs_hash :
    HashesBy (λ (s : StructType). s) (λ s. ListFits field_name 64 s.fields) struct_input
structs_hash = hashes _ struct_input struct_read struct_back

abbrev array_input : ArrayType → HashWrites
array_input = (array_hash.ghosts).hash_input

abbrev array_read : HashWrites → Read ArrayType
array_read ws = bind (field_read ws) (λ f us. Got (record { field = f }) us)

array_back : ReadsBack (λ (a : ArrayType). Fits 64 (field_name a.field)) array_input array_read
array_back a h ts = ap (λ q. bind q (λ f us. Got (record { field = f }) us)) (field_back a.field h ts)

pub arrays_hash : HashesBy (λ (a : ArrayType). a) (λ a. Fits 64 (field_name a.field)) array_input
arrays_hash = hashes _ array_input array_read array_back

abbrev kind_input : CompositeType → HashWrites
kind_input = (kind_hash.ghosts).hash_input

abbrev kind_case : ℕ → HashWrites → Read CompositeType
kind_case m ws =
    cond (m == 0) (bind (function_read ws) (λ f us. Got (Function f) us))
    (cond (m == 1) (bind (struct_read ws) (λ s us. Got (Struct s) us))
    (bind (array_read ws) (λ a us. Got (Array a) us)))

abbrev kind_read : HashWrites → Read CompositeType
kind_read ws = kind_case (next ws) (rest ws)

kind_back : ReadsBack (λ (k : CompositeType). CompositeFits 64 (kind_composite k)) kind_input kind_read
kind_back (Function f) h ts =
    ap (λ m. kind_case m (function_input f ++ ts)) (tag_tells 0 (omega arith))
    ∙ ap (λ q. bind q (λ g us. Got (Function g) us)) (function_back f h ts)
kind_back (Struct s) h ts =
    ap (λ m. kind_case m (struct_input s ++ ts)) (tag_tells 1 (omega arith))
    ∙ ap (λ q. bind q (λ t us. Got (Struct t) us)) (struct_back s h ts)
kind_back (Array a) h ts =
    ap (λ m. kind_case m (array_input a ++ ts)) (tag_tells 2 (omega arith))
    ∙ ap (λ q. bind q (λ b us. Got (Array b) us)) (array_back a h ts)

pub kinds_hash :
    HashesBy (λ (k : CompositeType). k) (λ k. CompositeFits 64 (kind_composite k)) kind_input
kinds_hash = hashes _ kind_input kind_read kind_back

-- types, by the parts that count

abbrev parts_input : TypeParts → HashWrites
parts_input p = kind_input p.kind ++ (fed.bool p.is_final ++
    (fed.option fed.usize p.supertype ++ fed.bool p.is_for_function_entry))

abbrev parts_of : CompositeType → Bool → Option ℕ → Bool → TypeParts
parts_of k final s mark = record { kind = k; is_final = final; supertype = s; is_for_function_entry = mark }

abbrev after_supertype : CompositeType → Bool → Option ℕ → HashWrites → Read TypeParts
after_supertype k final s ws = bind (bool_read ws) (λ mark us. Got (parts_of k final s mark) us)

abbrev after_final : CompositeType → Bool → HashWrites → Read TypeParts
after_final k final ws = bind (option_read id_read ws) (after_supertype k final)

abbrev after_kind : CompositeType → HashWrites → Read TypeParts
after_kind k ws = bind (bool_read ws) (after_final k)

abbrev parts_read : HashWrites → Read TypeParts
parts_read ws = bind (kind_read ws) after_kind

abbrev PartsFit : TypeParts → Type 0
PartsFit p = CompositeFits 64 (kind_composite p.kind) × Fits 64 p.supertype

parts_back : ReadsBack PartsFit parts_input parts_read
parts_back p h ts =
    let mark : HashWrites = fed.bool p.is_for_function_entry in
    let above : HashWrites = fed.option fed.usize p.supertype in
    ap parts_read (append_assoc (kind_input p.kind) (fed.bool p.is_final ++ (above ++ mark)) ts
    ∙ ap (λ ws. kind_input p.kind ++ (fed.bool p.is_final ++ ws)) (append_assoc above mark ts))
    ∙ (ap (λ q. bind q after_kind) (kind_back p.kind h.0 (fed.bool p.is_final ++ (above ++ (mark ++ ts))))
    ∙ (ap (λ q. bind q (after_final p.kind)) (bool_back p.is_final (above ++ (mark ++ ts)))
    ∙ (ap (λ q. bind q (after_supertype p.kind p.is_final))
    (option_back InRange fed.usize id_read id_back p.supertype h.1 (mark ++ ts))
    ∙ ap (λ q. bind q (λ m us. Got (parts_of p.kind p.is_final p.supertype m) us))
    (bool_back p.is_for_function_entry ts))))

abbrev type_input : ModuleType → HashWrites
type_input = (type_hash.ghosts).hash_input

pub types_hash :
    HashesBy type_parts (λ (t : ModuleType). DefinitionFits 64 (type_definition t)) type_input
types_hash = record {
  alike = λ t u e. ap parts_input e;
  apart = λ t u f g e. apart PartsFit parts_input parts_read parts_back (type_parts t) (type_parts u) f g e;
}
