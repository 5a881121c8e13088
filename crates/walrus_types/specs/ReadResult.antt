-- What a table of types, and the ids that indices stand for, are once a section is read into them.
-- WebAssembly core specification, "Validation", "Modules", types: a definition may name the indices
-- of its own group and of earlier ones.
use Rattle.std.specs.Prelude.{◌≡◌, ℕ, ◌<◌, List, length, Option, Some, None, false, ◌↔◌}
use Rattle.walrus_ty.specs.declared.ty.composite.CompositeType.{CompositeType}
use Rattle.walrus_ty.specs.declared.ty.composite.CompositeType.TheVariants as kind
use Rattle.walrus_ty.specs.Definition.{Composite, Function, Struct, Array, Definition}
use Rattle.walrus_ty.specs.Groups.{Section}
use Rattle.walrus_sections.specs.Section.{index_space, IsSingle, IsWellNamed}
use Rattle.walrus_sections.specs.NormalForm.{image}
use Rattle.walrus_sections.specs.SlotMap.{IsSlotMap, TypeGroup, read_definition, read_groups}
use Rattle.walrus_ty.specs.Types.{ModuleType, type_definition}
use Rattle.walrus_types.specs.TypesById.{TypeSlots, live_type}

abbrev pub composite_kind : Composite → CompositeType
composite_kind (Function params results) =
    kind.Function (record { params = params; results = results })
composite_kind (Struct fields) = kind.Struct (record { fields = fields })
composite_kind (Array field) = kind.Array (record { field = field })

-- the type with this definition and id, without a name, and not for the entry of a function
abbrev pub type_of_definition : Definition → ℕ → ModuleType
type_of_definition d id = record {
  kind = composite_kind d.composite;
  is_final = d.is_final;
  supertype = d.supertype;
  is_for_function_entry = false;
  id = id;
  name = None;
}

-- j is a candidate for q: a `Single` with a live slot, and q is defined as it is
pub record IsCandidateFor (s : Section) (ids : List ℕ) (q : ModuleType) (j : ℕ) : Type 0 where
  pub below : j < (index_space s).count
  pub single : IsSingle (index_space s) j
  pub live : image ids j ≡ j
  pub same : type_definition q ≡ read_definition (index_space s) (image ids) j
  pub plain : q.is_for_function_entry ≡ false

-- the section is read: which id each index stands for, the slots of the types, the ids that are
-- known for types, and the groups
pub record IsReadResult (s : Section) (ids : List ℕ) (slots : TypeSlots)
    (known : ModuleType → Option ℕ) (groups : List TypeGroup) : Type 0 where
  pub well_named : IsWellNamed s
  -- an id for each index, by the rule of reading
  pub one_each : length ids ≡ (index_space s).count
  pub rule : IsSlotMap (index_space s) (image ids)
  -- a slot for each index, which is live where the index stands for itself, with what it reads as
  pub slot_each : length slots ≡ (index_space s).count
  pub live :
      (i : ℕ) → i < (index_space s).count → image ids i ≡ i →
      live_type slots i ≡ Some
      (type_of_definition (read_definition (index_space s) (image ids) i) i)
  pub dead : (i : ℕ) → i < (index_space s).count → ¬ (image ids i ≡ i) → live_type slots i ≡ None
  -- known for a type are the candidates for it, and nothing else
  pub candidates : (q : ModuleType) (j : ℕ) → (known q ≡ Some j) ↔ IsCandidateFor s ids q j
  pub grouping : groups ≡ read_groups 0 (image ids) s
