-- `group_error`, why a recursion group of a section can't be read: the section gets too long, or an
-- entry names an index that its group and those before it do not have. `IsFirstError` is that of a
-- section.
-- WebAssembly core specification, "Validation", "Modules", types: a group is valid where it names
-- types of its own and of the groups before it. The errors are of this crate's own.
use Rattle.std.specs.Prelude.{◌≡◌, ℕ, ◌+◌, ◌^◌, nat_le, List, [], ◌∷◌, ◌++◌, length, map, find, Option, Some, option_map, if◌then◌else◌}
use Rattle.walrus_sections.specs.declared.error.ReadError.{ReadError}
use Rattle.walrus_sections.specs.declared.error.ReadError.TheVariants.{BadIndex, TooMany}
use Rattle.walrus_ty.specs.Definition.{Definition, names_of}
use Rattle.walrus_ty.specs.Groups.{Group, Single, Rec, Section}
use Rattle.walrus_sections.specs.Section.{index_space, IsWellNamed}

-- every section has fewer entries than this, as they are counted in 32 bits
abbrev pub entry_limit : ℕ
entry_limit = 2 ^ 32

-- an entry names an index
pub record IndexUse : Type 0 where
  pub entry : ℕ
  pub index : ℕ

-- all that these definitions name, from left to right, where they are numbered from i on
abbrev pub index_uses_from : ℕ → List Definition → List IndexUse
index_uses_from i [] = []
index_uses_from i (d ∷ ds) =
    map (λ k. record { entry = i; index = k }) (names_of d) ++ index_uses_from (i + 1) ds

-- the first of these whose index is at or past the end
abbrev pub first_out_of_range : ℕ → List IndexUse → Option IndexUse
first_out_of_range end namings = find (λ n. nat_le end n.index) namings

abbrev pub definitions_of : Group → List Definition
definitions_of (Single d) = d ∷ []
definitions_of (Rec ds) = ds

-- what is wrong with a group of these definitions, where so many definitions stand before it: it
-- brings their number to the limit, or else names an index at or past its end
abbrev pub group_error : ℕ → List Definition → Option ReadError
group_error start ds =
    let end = start + length ds in
    if nat_le entry_limit end
    then Some TooMany
    else option_map (λ n. BadIndex n.entry n.index end)
    (first_out_of_range end (index_uses_from start ds))

-- the error of the first group of the section that has one; the groups before it can be read
pub record IsFirstError (s : Section) (error : ReadError) : Type 0 where
  pub before : Section
  pub group : Group
  pub after : Section
  pub split : s ≡ before ++ group ∷ after
  pub well_named : IsWellNamed before
  pub is : group_error (index_space before).count (definitions_of group) ≡ Some error
