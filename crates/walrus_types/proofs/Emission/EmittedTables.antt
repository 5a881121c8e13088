-- What is written for a table obeys the rule on pairs of its groups.
use Rattle.std.proofs.Common.{◌≡◌, ℕ, ◌+◌, ◌<◌, ◌≤◌, List, map, take, length, refl, sym, ap, subst, ◌∙◌, arith, Some, None, Option, IsSome, true, false, Bool, [], ◌∷◌, nat_eq, length-append, All, get_or, unwrap_or}
use Rattle.std.specs.List.{slice_get, slice_index, list_any}
use Rattle.std.proofs.lemmas.{Map.Steps.length-le_from_distinct_below, List.get_or_default, List.get_or-map, List.length-map, Option.slice_get-get_or}
use Rattle.walrus_types.proofs.{Tables.Places.any_has, Tables.Places.live_below, Tables.DeadGroup.distinct_from_once, Emission.WrittenFew.written-cons}
use Rattle.walrus_sections.specs.{Refusal.IsMissing, Refusal.NameUse, Refusal.written_count, SlotMap.TypeGroup, MissingNames.IsMissingIn}
use Rattle.walrus_arena.specs.Arena.{IsLive}
use Rattle.walrus_ty.specs.declared.records.GroupAt.{GroupAt}
use Rattle.walrus_types.specs.{declared.table.rec_group.RecGroup.RecGroup, declared.emit.order.PendingGroup.PendingGroup, Table.Table, Table.IsTable, Steps.PendingGroups.groups_of, Steps.PendingGroups.places_of, Steps.WrittenGroups.AreWritten}
use Rattle.walrus_ty.specs.{Definition.Definition, Definition.rename, Groups.Section, Indices.IndexMap, Lookups.value_or_zero}
use Rattle.walrus_sections.specs.Emission.{no_group, group_at, IsMember, WrittenMember, IsEmission}
use Rattle.walrus_types.specs.Table as table
use Rattle.walrus_types.specs.TableEmission.{type_groups, definition_at, is_entry_at, table_view, written_types, IsWrittenId, IsEmitted}
use Rattle.walrus_sections.specs.WritingOrders.{IsApart, IsWritingOrder, ids_in, in_order, id_count, written_group}
use Rattle.walrus_sections.proofs.Emission.{WrittenMembers.written_member, IndexOfId.Home, IndexOfId.home, IndexOfId.member_at, PairsOfGroups.at_member, PairsOfGroups.to_member, PairsOfGroups.placed_member}
use Rattle.walrus_types.proofs.Emission.OrderFromSort.{live_member, single, same_member}

module _ (t : Table) (known : IsTable t) (order : List ℕ)
    (ord : IsWritingOrder (table_view t) order) where
  abbrev gs : List TypeGroup
  gs = type_groups t.groups

  abbrev def : ℕ → Definition
  def = definition_at t.types.slots

  at_zero : (k d : ℕ) → k < length order → get_or order k d ≡ slice_index order k
  at_zero k d lt = get_or_default order k d 0 lt

  some_member : (k : ℕ) → k < length order → (u : ℕ) × (i : ℕ) × IsMember gs (slice_index order k) u i
  some_member k lt = let w : _ = ord.written k lt in (w.0, w.1, w.2)

  pub within : All (λ g. g < length t.groups) order
  within k d lt =
      let m : _ = (some_member k lt).2 in
      let many : length gs ≡ length t.groups = length-map t.groups _ in
      subst (λ (n : ℕ). n < length t.groups) (sym (at_zero k d lt)) (omega (arith, m.group, many))

  pub filled : All (λ g. 0 < length (group_at gs g).ids) order
  filled k d lt =
      let m : _ = (some_member k lt).2 in
      subst (λ (n : ℕ). 0 < length (group_at gs n).ids) (sym (at_zero k d lt)) (omega (arith, m.place))

  pub singles : All (λ (g : RecGroup). g.is_explicit ≡ false → length g.types ≤ 1) t.groups
  singles k d lt = subst (λ (g : RecGroup). g.is_explicit ≡ false → length g.types ≤ 1)
      (get_or_default t.groups k table.no_rec_group d lt) (known.single k)

  pub apart : IsApart (ids_in (in_order gs order))
  apart p q i at_p at_q =
      let h : Home (in_order gs order) p i = home (in_order gs order) p i at_p in
      let k : Home (in_order gs order) q i = home (in_order gs order) q i at_q in
      let m : _ = placed_member (table_view t) order ord h.group h.place i h.is in
      let n : _ = placed_member (table_view t) order ord k.group k.place i k.is in
      let same : _ = same_member t known (slice_index order h.group) h.place (slice_index order k.group)
      k.place i m.1 n.1 in
      let groups_same : h.group ≡ k.group = m.2 k.group n.0 same.0 in
      h.at ∙ (ap (λ (a : ℕ). length (ids_in (take a (in_order gs order))) + h.place) groups_same
      ∙ (ap (λ (u : ℕ). length (ids_in (take k.group (in_order gs order))) + u) same.1 ∙ sym k.at))

  -- by the laws of writing in order
  pub emitted : ((m : ℕ → ℕ) → ((g : ℕ) → (group_at gs g).is_explicit ≡ false → length (group_at gs g).ids ≤ 1) →
      ((i p : ℕ) → slice_get (ids_in (in_order gs order)) p ≡ Some i → m i ≡ p) →
      IsEmission (table_view t) (map (written_group (λ i. rename m (def i))) (in_order gs order)) m) →
      (((name : NameUse) → ¬ (IsMissingIn def (in_order gs order) name)) → (name : NameUse) →
      ¬ (IsMissing (table_view t) name)) → id_count gs order ≡ written_types t → (out : List GroupAt)
      (x : IndexMap) → AreWritten def (in_order gs order) out x → IsEmitted t out x
  emitted emission complete many out x w = record {
    count = w.indexes.count ∙ many;
    section = subst (λ (n : Section). IsEmission (table_view t) n (value_or_zero x.index)) (sym w.section)
        (emission (value_or_zero x.index) (single t known) (λ i p h.
        ap (λ (o : Option ℕ). unwrap_or o 0) ((w.indexes.index i p).1 h)));
    has_index = λ id. (from id, to id);
    complete = complete w.complete;
  }
    where
      from : (id : ℕ) → IsSome (x.index id) → IsWrittenId (table_view t) id
      from id s =
          let r : (p : ℕ) × (x.index id ≡ Some p) = found (x.index id) s in
          let h : Home (in_order gs order) r.0 id =
          home (in_order gs order) r.0 id ((w.indexes.index id r.0).0 r.1) in
          let m : _ = placed_member (table_view t) order ord h.group h.place id h.is in
          (written_member (ord.written h.group m.0) m.1, refl)
        where
          found : (o : Option ℕ) → IsSome o → (p : ℕ) × (o ≡ Some p)
          found None h = let z : ⊥ = cc in absurd z
          found (Some p) h = (p, refl)

      to : (id : ℕ) → IsWrittenId (table_view t) id → IsSome (x.index id)
      to id g =
          let y : WrittenMember (table_view t) = g.0 in
          let o : _ = ord.onto y.group y.is_written in
          let at : slice_get (group_at (in_order gs order) o.0).ids y.place ≡ Some y.id =
          ap (λ (z : TypeGroup). slice_get z.ids y.place)
          (get_or-map (group_at gs) order o.0 0 no_group o.1 ∙ ap (group_at gs) o.2)
          ∙ at_member gs y.group y.place y.id y.is_member in
          let e : x.index y.id ≡ Some (length (ids_in (take o.0 (in_order gs order))) + y.place) =
          (w.indexes.index y.id _).1 (member_at (in_order gs order) o.0 y.place y.id at) in
          subst (λ (k : ℕ). IsSome (x.index k)) g.1 (rw e refl)

-- each type of a group is live
pub live_groups :
    (t : Table) → IsTable t → All (λ (g : RecGroup). All (IsLive t.types.slots) g.types) t.groups
live_groups t known k d lt u e in_u =
    let same : table.rec_group_at t.groups k ≡ get_or t.groups k d =
    get_or_default t.groups k table.no_rec_group d lt in
    let P : RecGroup → Type 0 = λ g. slice_get g.types u ≡ Some (get_or (get_or t.groups k d).types u e) in
    known.live k u (get_or (get_or t.groups k d).types u e)
    (subst P (sym same) (slice_get-get_or (get_or t.groups k d).types u e in_u))

-- the groups that are written, one by one
module _ (t : Table) (known : IsTable t) (order : List ℕ)
    (ord : IsWritingOrder (table_view t) order) (k : ℕ) (d : TypeGroup)
    (lt : k < length (in_order (type_groups t.groups) order)) where
  below : k < length order
  below = omega (arith, lt, length-map order (group_at (type_groups t.groups)))

  pub filled_in_order : 0 < length (get_or (in_order (type_groups t.groups) order) k d).ids
  filled_in_order = subst (λ (g : TypeGroup). 0 < length g.ids)
      (sym (get_or-map (group_at (type_groups t.groups)) order k 0 d below))
      (filled t known order ord k 0 below)

pub places_within :
    (ps : List PendingGroup) (n : ℕ) → All (λ g. g < n) (places_of ps) →
    All (λ (p : PendingGroup). p.place < n) ps
places_within ps n each k d lt = subst (λ (g : ℕ). g < n)
    (get_or-map (λ (p : PendingGroup). p.place) ps k d 0 lt)
    (each k 0 (omega (arith, lt, length-map ps (λ (p : PendingGroup). p.place))))

pub as_ordered :
    (from to : List RecGroup) (ps qs : List PendingGroup) → from ≡ to → ps ≡ qs →
    groups_of from ps ≡ in_order (type_groups to) (places_of qs)
as_ordered from to ps qs e f = ap (λ (gs : List RecGroup). groups_of gs ps) e ∙ ap (groups_of to) f

pub carried :
    {A B : Type 0} (P : A → B → Type 0) (a a' : A) (b b' : B) → a ≡ a' → b ≡ b' → P a b → P a' b'
carried P a a' b b' e f h = subst (λ x. P x b') e (subst (P a) f h)

-- no more types are written than the table has slots

count_ids : (e : ℕ → Bool) (gs : List TypeGroup) → written_count e gs ≤ length (ids_in gs)
count_ids e [] = omega arith
count_ids e (g ∷ gs) = omega (arith, written-cons e g gs, count_ids e gs, length-append g.ids (ids_in gs))

module _ (t : Table) (known : IsTable t) where
  abbrev all_ids : List ℕ
  all_ids = ids_in (type_groups t.groups)

  all_apart : (p q i : ℕ) → slice_get all_ids p ≡ Some i → slice_get all_ids q ≡ Some i → p ≡ q
  all_apart p q i at_p at_q =
      let gs : List TypeGroup = type_groups t.groups in
      let h : Home gs p i = home gs p i at_p in
      let k : Home gs q i = home gs q i at_q in
      let same : _ = same_member t known h.group h.place k.group k.place i
      (to_member gs h.group h.place i h.is) (to_member gs k.group k.place i k.is) in
      h.at ∙ (ap (λ (a : ℕ). length (ids_in (take a gs)) + h.place) same.0
      ∙ (ap (λ (u : ℕ). length (ids_in (take k.group gs)) + u) same.1 ∙ sym k.at))

  all_below : (i : ℕ) → list_any (nat_eq i) all_ids ≡ true → i < length t.types.slots
  all_below i h =
      let gs : List TypeGroup = type_groups t.groups in
      let at : _ = any_has all_ids i h in
      let m : Home gs at.0 i = home gs at.0 i at.1 in
      live_below t.types.slots i (live_member t known m.group m.place i (to_member gs m.group m.place i m.is))

  pub few_written : written_types t ≤ length t.types.slots
  few_written =
      let ids_few : length all_ids ≤ length t.types.slots =
      length-le_from_distinct_below all_ids (length t.types.slots) (distinct_from_once all_ids all_apart)
      all_below in
      let fewer : written_types t ≤ length all_ids =
      count_ids (is_entry_at t.types.slots) (type_groups t.groups) in
      omega (arith, ids_few, fewer)
