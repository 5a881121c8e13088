-- A table that a section was read into: what its groups hold, that it can be written, and what is
-- written.
use Rattle.std.proofs.Common.{◌≡◌, ℕ, ◌<◌, ◌∙◌, refl, sym, ap, subst, arith, inl, inr, Some, false, List, map, All, IsSome}
use Rattle.std.proofs.lemmas.{List.get_or_default, Option.slice_get_within, Option.get_or_from_slice_get}
use Rattle.walrus_arena.specs.Arena.{get}
use Rattle.walrus_ty.specs.{Definition.Definition, Definition.Names, Definition.names_of, Groups.Section, Indices.IndexMap, Lookups.value_or_zero, Records.section_of}
use Rattle.walrus_sections.specs.{Section.index_space, NormalForm.image, NormalForm.IsNormalForm, SlotMap.TypeGroup, SlotMap.read_definition, SlotMap.read_groups, Emission.TableView, Emission.IsMember, Emission.IsEmission, Refusal.NameUse, Refusal.HasIndexBy, Refusal.IsMissing}
use Rattle.walrus_types.specs.TableEmission.{definition_at, slot_definition, is_entry_at, table_view, IsEmitted, IsWrittenId}
use Rattle.walrus_types.specs.{ReadResult.type_of_definition, ReaderState.IsReadInto, Table.Table}
use Rattle.walrus_ty.specs.declared.records.GroupAt.{GroupAt}
use Rattle.walrus_sections.proofs.Emission.{ReadMembers.member_is, ReadMembers.member_of, ReadMembers.sent_by_slots, Emits.read_then_emitted, Emits.names_stand, Made.down, Made.twice, SameMembers.same_emission, SameMembers.same_stands, WrittenMembers.written_member}
use Rattle.walrus_types.proofs.Reading.Section.{stored_definition}

module _ (s : Section) (t : Table) (ids : List ℕ) (has : IsReadInto s t ids) where
  abbrev r : ℕ → ℕ
  r = image ids

  abbrev S : List TypeGroup
  S = read_groups 0 r s

  slot_of : (g u i : ℕ) → IsMember S g u i → get t.types.slots i ≡ Some
      (type_of_definition (read_definition (index_space s) r i) i)
  slot_of g u i m = let w = member_is s r has.rule g u i m in has.live i w.0 w.1

  defines : (g u i : ℕ) → IsMember S g u i → definition_at t.types.slots i ≡ read_definition (index_space s) r
      i
  defines g u i m = ap slot_definition (slot_of g u i m)
      ∙ stored_definition (read_definition (index_space s) r i) i

  no_entry : (g u i : ℕ) → IsMember S g u i → is_entry_at t.types.slots i ≡ false
  no_entry g u i m = rw (slot_of g u i m) refl

  -- the table, if these were its groups
  abbrev seen : List TypeGroup → TableView
  seen gs = record {
    groups = gs;
    definition = definition_at t.types.slots;
    is_entry = is_entry_at t.types.slots;
  }

  -- what is written is the normal form, and each index goes where its slot goes
  pub normal_again : (out : List GroupAt) (x : IndexMap) → IsEmitted t out x →
      IsNormalForm s (section_of out) (map (value_or_zero x.index) ids)
  normal_again out x em =
      let on : IsEmission (seen S) (section_of out) (value_or_zero x.index) =
      subst (λ (gs : List TypeGroup). IsEmission (seen gs) (section_of out) (value_or_zero x.index))
      has.grouping em.section in
      subst (IsNormalForm s (section_of out)) (sym (sent_by_slots s ids has.one_each (value_or_zero x.index)))
      (read_then_emitted s (section_of out) r (value_or_zero x.index) has.well_named has.rule
      (same_emission S (definition_at t.types.slots) (read_definition (index_space s) r)
      (is_entry_at t.types.slots) (λ i. false) defines (section_of out) (value_or_zero x.index) no_entry on))

  -- the slot of each index has an index in what is written
  pub each_indexed : (out : List GroupAt) (x : IndexMap) → IsEmitted t out x → All (λ id. IsSome (x.index id)) ids
  each_indexed out x em i d below =
      let within : i < (index_space s).count = omega (arith, below, has.one_each) in
      let lower = down (index_space s) r has.rule i within in
      let home = member_of s r has.rule (r i) (omega (arith, within, lower))
      (twice (index_space s) r has.rule i within) in
      let written : IsWrittenId (seen S) (r i) =
      (written_member (home.1, r i, home.2, no_entry home.0 home.1 (r i) home.2) home.2, refl) in
      let there : IsWrittenId (table_view t) (r i) =
      subst (λ (gs : List TypeGroup). IsWrittenId (seen gs) (r i)) (sym has.grouping) written in
      subst (λ (k : ℕ). IsSome (x.index k)) (get_or_default ids i 0 d below) ((em.has_index (r i)).1 there)

  -- what a member names has an index by the time its group is written
  named_has_index : (g u i k : ℕ) → IsMember S g u i → Names (read_definition (index_space s) r i) k →
      HasIndexBy (seen S) g k
  named_has_index g u i k m names =
      let home = names_stand s r has.well_named.below_ends has.rule g u i k m names in
      record {
        home = home.0;
        place = home.1;
        written = (home.1, k, home.2, no_entry home.0 home.1 k home.2);
        member = home.2;
        by = elim home.3 [
          | inl e ↦ inl e
          | inr stands ↦ inr (same_stands S (read_definition (index_space s) r) (definition_at t.types.slots)
              (λ i. false) (is_entry_at t.types.slots) (λ a v x n. sym (defines a v x n)) home.0 g stands)
        ];
      }

  -- so no name lacks its index
  none_missing : (name : NameUse) → ¬ (IsMissing (seen S) name)
  none_missing name x =
      let names : Names (definition_at t.types.slots name.id) name.named = (
        name.position,
        slice_get_within (names_of (definition_at t.types.slots name.id)) name.position name.named x.used,
        get_or_from_slice_get (names_of (definition_at t.types.slots name.id)) name.position name.named
            name.named x.used,
      ) in
      x.missing (named_has_index name.group name.place name.id name.named x.member
      (subst (λ (d : Definition). Names d name.named) (defines name.group name.place name.id x.member) names))

  pub never_missing : (name : NameUse) → ¬ (IsMissing (table_view t) name)
  never_missing = subst (λ (gs : List TypeGroup). (name : NameUse) → ¬ (IsMissing (seen gs) name))
      (sym has.grouping) none_missing
