-- `IsEmission`, how the groups of a table are written as a section, and `IsWrittenBefore`, the rule
-- by which two groups keep or change their order. A table is seen as a `TableView`.
-- WebAssembly core specification, "Validation", "Modules", types: a definition may name the indices
-- of its own group and of earlier ones.
use Rattle.std.specs.Prelude.{◌≡◌, ℕ, ◌<◌, ◌≤◌, Bool, true, false, ◌⊎◌, List, [], length, slice_index_or, Some, None}
use Rattle.std.specs.declared.cmp.Ordering.TheVariants.{Less}
use Rattle.walrus_ty.specs.Definition.{Definition, Names, rename, definition_cmp}
use Rattle.walrus_ty.specs.Groups.{Section}
use Rattle.walrus_sections.specs.Section.{index_space, IsFilled}
use Rattle.walrus_sections.specs.SlotMap.{TypeGroup, read_groups, read_definition}

-- What emission sees of a table: its groups of ids, what each id defines, and which ids mark the
-- entries of functions alone. The live ids are the members of the groups.
pub record TableView : Type 0 where
  pub groups : List TypeGroup
  pub definition : ℕ → Definition
  pub is_entry : ℕ → Bool

-- the table that a section was read into, each index sent to its slot; a read table has no types
-- for function entries
abbrev pub read_table : Section → (ℕ → ℕ) → TableView
read_table section slot =
    record {
      groups = read_groups 0 slot section;
      definition = read_definition (index_space section) slot;
      is_entry = λ id. false;
    }

-- stands for a group that is not there
abbrev pub no_group : TypeGroup
no_group = record { ids = []; is_explicit = false }

abbrev pub group_at : List TypeGroup → ℕ → TypeGroup
group_at groups at = slice_index_or groups at no_group

-- the id is the u-th of the group g
pub record IsMember (groups : List TypeGroup) (g u id : ℕ) : Type 0 where
  pub group : g < length groups
  pub place : u < length (group_at groups g).ids
  pub is : slice_index_or (group_at groups g).ids u 0 ≡ id

-- the id is live
abbrev pub IsGrouped : List TypeGroup → ℕ → Type 0
IsGrouped groups id = (g : ℕ) × (u : ℕ) × IsMember groups g u id

-- some member of the group stands for more than the entry of a function
abbrev pub IsWritten : TableView → ℕ → Type 0
IsWritten table group =
    (place : ℕ) × (id : ℕ) × IsMember table.groups group place id × (table.is_entry id ≡ false)

-- an id with its group, which is written, and its place there
pub record WrittenMember (table : TableView) : Type 0 where
  pub group : ℕ
  pub place : ℕ
  pub id : ℕ
  pub is_member : IsMember table.groups group place id
  pub is_written : IsWritten table group

-- the group is not explicit, and its type names no live type but itself; any other group with
-- members is an anchor
pub record IsFreeGroup (table : TableView) (group : ℕ) : Type 0 where
  pub implicit : (group_at table.groups group).is_explicit ≡ false
  pub own :
      (place id : ℕ) → IsMember table.groups group place id →
      (named : ℕ) → Names (table.definition id) named → IsGrouped table.groups named → named ≡ id

-- the later group stands before the earlier: no group with members from the one to the other is an
-- anchor, and the later is less
pub record IsInversion (table : TableView) (earlier later : ℕ) : Type 0 where
  pub free :
      (group : ℕ) → earlier ≤ group → group ≤ later →
      (place id : ℕ) → IsMember table.groups group place id → IsFreeGroup table group
  pub less :
      (place id later_place later_id : ℕ) → IsMember table.groups earlier place id →
      IsMember table.groups later later_place later_id →
      definition_cmp (table.definition later_id) (table.definition id) ≡ Less

-- of two groups, the first is written before the second
abbrev pub IsWrittenBefore : TableView → ℕ → ℕ → Type 0
IsWrittenBefore table first second =
    ((first < second) × (¬ (IsInversion table first second))) ⊎
    ((second < first) × IsInversion table second first)

-- Example: a table of four groups, which is written as a section of four entries.
--
--   group  explicit  id  its definition        m id  rec_position at m id
--   0      no        0   a function's entry
--   1      yes       1   a struct of `ref 2`   0     Some (0, 0)
--                    2   a struct of `ref 1`   1     Some (0, 1)
--   2      no        3   a struct of an i32    3     None
--   3      no        4   a function            2     None
--
-- Group 0 is not written, so the ids 1 to 4 have the indices 0 to 3 (`below`, `onto`). Index 0
-- defines a struct of `ref 1`, as m 2 is 1 (`same`). Group 1 is one `Rec`, whole and in its order
-- (`rec`, `whole`, `within`), the groups 2 and 3 are `Single`s (`single`). Group 1 is an anchor, so
-- it stands before 2 and 3 (`stands`). These are free, with nothing between them, and a function is
-- less than a struct, so 3 stands before 2 (`inversions`). A second explicit group would be the
-- `Rec` of number 1 (`recs`).

-- the groups are written as the section n, and an id gets the index m id
pub record IsEmission (table : TableView) (n : Section) (m : ℕ → ℕ) : Type 0 where
  -- m sends the members of the written groups onto the indices of n
  pub below : (x : WrittenMember table) → m x.id < (index_space n).count
  pub onto : (p : ℕ) → p < (index_space n).count → (x : WrittenMember table) × (m x.id ≡ p)
  -- and each is written as it is defined, its names sent through m
  pub same :
      (x : WrittenMember table) →
      (index_space n).definition (m x.id) ≡ rename m (table.definition x.id)
  -- an explicit group is written as a `Rec`, whole and in its order, any other as a `Single`, and
  -- nothing for an empty one
  pub filled : IsFilled n
  pub single :
      (x : WrittenMember table) → (group_at table.groups x.group).is_explicit ≡ false →
      (index_space n).rec_position (m x.id) ≡ None
  pub rec :
      (x : WrittenMember table) → (group_at table.groups x.group).is_explicit ≡ true →
      (k : ℕ) × ((index_space n).rec_position (m x.id) ≡ Some (k, x.place))
  pub whole :
      (x y : WrittenMember table) (k : ℕ) → x.group ≡ y.group →
      (group_at table.groups x.group).is_explicit ≡ true →
      (index_space n).rec_position (m x.id) ≡ Some (k, x.place) →
      (index_space n).rec_position (m y.id) ≡ Some (k, y.place)
  pub within :
      (x y : WrittenMember table) → x.group ≡ y.group → x.place < y.place → m x.id < m y.id
  -- explicit groups keep their order, and of any two groups the earlier stands first where they are
  -- no inversion
  pub recs :
      (x y : WrittenMember table) (k l : ℕ) → x.group < y.group →
      (index_space n).rec_position (m x.id) ≡ Some (k, x.place) →
      (index_space n).rec_position (m y.id) ≡ Some (l, y.place) → k < l
  pub stands :
      (x y : WrittenMember table) → x.group < y.group →
      ¬ (IsInversion table x.group y.group) → m x.id < m y.id
  pub inversions :
      (x y : WrittenMember table) → x.group < y.group →
      IsInversion table x.group y.group → m y.id < m x.id
