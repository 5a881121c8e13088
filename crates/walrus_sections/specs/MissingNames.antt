-- `IsMissingIn`: a name that has no index by the end of its group, where groups are written one
-- after the other.
-- WebAssembly core specification, "Validation", "Modules", types: a group may name types of its own
-- and of the groups before it.
use Rattle.std.specs.Prelude.{◌≡◌, ℕ, ◌+◌, ◌<◌, ◌⊎◌, List, length, take, slice_get, Contains, Some}
use Rattle.walrus_ty.specs.Definition.{Definition, names_of}
use Rattle.walrus_sections.specs.SlotMap.{TypeGroup}
use Rattle.walrus_sections.specs.Emission.{group_at}
use Rattle.walrus_sections.specs.Refusal.{NameUse}
use Rattle.walrus_sections.specs.WritingOrders.{ids_in}

-- of these groups, one at the name's place in the list has the name, and the named id is none of
-- the ids up to the end of that group
pub record IsMissingIn (definition : ℕ → Definition) (ws : List TypeGroup) (name : NameUse) :
    Type 0 where
  pub group : name.group < length ws
  pub member : slice_get (group_at ws name.group).ids name.place ≡ Some name.id
  pub used : slice_get (names_of (definition name.id)) name.position ≡ Some name.named
  pub missing : ¬ (Contains (ids_in (take (name.group + 1) ws)) name.named)

-- of two names, the first comes before the second
abbrev pub IndexPrecedes : NameUse → NameUse → Type 0
IndexPrecedes first second =
    (first.group < second.group) ⊎ ((first.group ≡ second.group) ×
    ((first.place < second.place) ⊎ ((first.place ≡ second.place) ×
    (first.position < second.position))))

-- of all names that are missing in the groups, this is the first
pub record IsFirstMissingIn (definition : ℕ → Definition) (ws : List TypeGroup) (name : NameUse) :
    Type 0 where
  pub is : IsMissingIn definition ws name
  pub first :
      (other : NameUse) → IsMissingIn definition ws other → ¬ (IndexPrecedes other name)

-- of all names that are missing in the groups, that of `to` by `from` is the first
abbrev pub FirstMissingIs : (ℕ → Definition) → List TypeGroup → ℕ → ℕ → Type 0
FirstMissingIs definition ws from to =
    (name : NameUse) × IsFirstMissingIn definition ws name × (name.id ≡ from) × (name.named ≡ to)
