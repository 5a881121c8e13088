-- A table that is emitted is written as a section that can be read: what a type names stands below
-- the end of its group, and no more definitions are written than the written groups have types.
use Rattle.std.proofs.Common.{◌≡◌, ℕ, zero, suc, ◌+◌, ◌<◌, ◌≤◌, ◌^◌, ◌∙◌, refl, sym, ap, subst, arith, inl, inr, Bool, true, false, cond, not, List, [], ◌∷◌, ◌++◌, length, length-append, Contains, Some}
use Rattle.std.specs.List.{list_any, slice_index_or}
use Rattle.std.proofs.lemmas.{Bool.cases_Bool, Bool.cases_lt, List.get_or_default, List.get_or-map, List.length-map, List.Elements.Contains-append_left, List.Elements.Contains-append_right, List.Folds.list_any_at, List.Sums.sum_by-cons, Option.slice_get-get_or}
use Rattle.walrus_ty.specs.declared.records.GroupAt.{GroupAt}
use Rattle.walrus_ty.specs.{Definition.Definition, Definition.Names, Definition.names_of, Groups.Section, Indices.IndexMap, Lookups.value_or_zero, Records.section_of}
use Rattle.walrus_ty.proofs.Names.Definitions.{named_before, names_same}
use Rattle.walrus_sections.specs.{Section.IndexSpace, Section.index_space, Section.NamesBelowEnds, Section.IsWellNamed, SlotMap.TypeGroup, Refusal.NameUse, Refusal.HasIndexBy, Refusal.IsMissing, Refusal.written_count}
use Rattle.walrus_sections.specs.Emission.{TableView, no_group, group_at, IsMember, WrittenMember, IsWrittenBefore, IsEmission}
use Rattle.walrus_sections.proofs.{Sections.Lying.IsLaidOut, Sections.Rows.laid_out, NormalForms.Fewer.fewer, Emission.WrittenMembers.written_member}
use Rattle.walrus_types.specs.Table.{Table, no_rec_group, rec_group_at}
use Rattle.walrus_types.specs.TableEmission.{contents, type_groups, definition_at, is_entry_at, table_view, written_types, IsEmitted}

-- each member of a `Rec` stands below the end of each
below_rec_end :
    (t : IndexSpace) → IsLaidOut t → (p q k u v : ℕ) → p < t.count → q < t.count →
    t.rec_position p ≡ Some (k, u) → t.rec_position q ≡ Some (k, v) → q < t.end p
below_rec_end t l p q k u v in_p in_q at_p at_q = elim (cases_lt p q) [
  | inl h ↦ (elim (l.pair p q h in_q) [
    | inl apart ↦ absurd (let z : k < k = apart.rises (k, u) (k, v) at_p at_q in omega (arith, z))
    | inr both ↦ omega (arith, l.own q in_q, both.ends)
  ])
  | inr h ↦ omega (arith, h, l.own p in_p)
]

-- what is named

module _ (table : TableView) where
  abbrev gs : List TypeGroup
  gs = table.groups

  abbrev definition : ℕ → Definition
  definition = table.definition

  abbrev Written : Type 0
  Written = WrittenMember table

  -- of a group that isn't explicit there is only a first member
  abbrev HasLoneTypes : Type 0
  HasLoneTypes = (g u i : ℕ) → IsMember gs g u i → (group_at gs g).is_explicit ≡ false → u ≡ 0

  module _ (n : Section) (m : ℕ → ℕ) (em : IsEmission table n m) where
    abbrev end_of : ℕ → ℕ
    end_of i = (index_space n).end (m i)

    own_end : (x : Written) → m x.id < end_of x.id
    own_end x = (laid_out n).own (m x.id) (em.below x)

    only_member :
        HasLoneTypes → (x y : Written) → x.group ≡ y.group →
        (group_at gs x.group).is_explicit ≡ false → y.id ≡ x.id
    only_member lone x y same implicit =
        let here = subst (λ (g : ℕ). IsMember gs g y.place y.id) (sym same) y.is_member in
        let x_first = lone x.group x.place x.id x.is_member implicit in
        let y_first = lone x.group y.place y.id here implicit in
        let places : y.place ≡ x.place = omega (arith, x_first, y_first) in
        sym here.is ∙
        (ap (λ (a : ℕ). slice_index_or (group_at gs x.group).ids a 0) places ∙ x.is_member.is)

    -- a type of the same group
    mate_below : HasLoneTypes → (x y : Written) → x.group ≡ y.group → m y.id < end_of x.id
    mate_below lone x y same = elim (cases_Bool (group_at gs x.group).is_explicit) [
      | inl e ↦ (let at = em.rec x e in
          let beside = em.whole x y at.0 same e at.1 in
          let in_x = em.below x in
          let in_y = em.below y in
          below_rec_end (index_space n) (laid_out n) (m x.id) (m y.id) at.0 x.place y.place in_x
          in_y at.1 beside)
      | inr e ↦ (let one = only_member lone x y same e in
          subst (λ (a : ℕ). m a < end_of x.id) (sym one) (own_end x))
    ]

    -- a type of a group that is written before
    earlier_below :
        (x y : Written) → IsWrittenBefore table y.group x.group → m y.id < end_of x.id
    earlier_below x y (inl before) =
        let less = em.stands y x before.0 before.1 in
        omega (arith, own_end x, less)
    earlier_below x y (inr before) =
        let less = em.inversions x y before.0 before.1 in
        omega (arith, own_end x, less)

    indexed_below :
        HasLoneTypes → (x : Written) (j : ℕ) → HasIndexBy table x.group j →
        m j < end_of x.id
    indexed_below lone x j has =
        let y = written_member has.written has.member in
        elim has.by [ inl same ↦ mate_below lone x y (sym same) | inr before ↦ earlier_below x y before ]

    abbrev IsComplete : Type 0
    IsComplete = (name : NameUse) → ¬ (IsMissing table name)

    module _ (lone : HasLoneTypes) (complete : IsComplete) where
      name_below : (x : Written) (j : ℕ) → Names (definition x.id) j → m j < end_of x.id
      name_below x j name = elim (cases_lt (m j) (end_of x.id)) [
        | inl h ↦ h
        | inr h ↦ (let at = slice_get-get_or (names_of (definition x.id)) name.0 j name.1 in
            absurd (complete (record {
              group = x.group;
              place = x.place;
              position = name.0;
              id = x.id;
              named = j;
            }) (record {
              written = x.is_written;
              member = x.is_member;
              used = at ∙ ap (λ (a : ℕ). Some a) name.2;
              missing = λ has. (let z = indexed_below lone x j has in omega (arith, h, z));
            })))
      ]

      names_below_ends : NamesBelowEnds (index_space n)
      names_below_ends p in_p k name =
          let o = em.onto p in_p in
          let at = ap (index_space n).definition (sym o.1) ∙ em.same o.0 in
          let before = named_before m (definition o.0.id) k (names_same k at name) in
          let below = name_below o.0 before.0 before.1 in
          omega (arith, below, before.2, ap (index_space n).end o.1)

-- how many definitions are written

past :
    (x : TypeGroup) (gs : List TypeGroup) (g u i : ℕ) → IsMember (x ∷ gs) (suc g) u i →
    IsMember gs g u i
past x gs g u i is = record { group = omega (arith, is.group); place = is.place; is = is.is }

module _ (is_entry : ℕ → Bool) where
  abbrev has_written : TypeGroup → Bool
  has_written g = list_any (λ i. not (is_entry i)) g.ids

  -- the types of a group if it is written
  abbrev ids_if_written : TypeGroup → List ℕ
  ids_if_written g = cond (has_written g) g.ids []

  abbrev written_ids : List TypeGroup → List ℕ
  written_ids [] = []
  written_ids (g ∷ gs) = ids_if_written g ++ written_ids gs

  length_if : (b : Bool) (xs : List ℕ) → length (cond b xs []) ≡ cond b (length xs) 0
  length_if true xs = refl
  length_if false xs = refl

  as_many : (gs : List TypeGroup) → length (written_ids gs) ≡ written_count is_entry gs
  as_many [] = refl
  as_many (g ∷ gs) =
      let size : TypeGroup → ℕ = λ x. cond (has_written x) (length x.ids) 0 in
      let more : written_count is_entry (g ∷ gs) ≡ size g + written_count is_entry gs =
      sum_by-cons size g gs in
      let both = length-append (ids_if_written g) (written_ids gs) in
      omega (arith, both, length_if (has_written g) g.ids, as_many gs, more)

  -- what `IsWritten` is of a table of these groups
  abbrev HasWritten : List TypeGroup → ℕ → Type 0
  HasWritten gs g = (u : ℕ) × (i : ℕ) × IsMember gs g u i × (is_entry i ≡ false)

  has_id :
      (gs : List TypeGroup) (g u i : ℕ) → HasWritten gs g → IsMember gs g u i →
      Contains (written_ids gs) i
  has_id [] g u i w is = absurd (omega (arith, is.group))
  has_id (x ∷ gs) zero u i (v, j, other, own) is =
      let no_entry = ap not (ap is_entry other.is ∙ own) in
      let test = list_any_at (λ a. not (is_entry a)) x.ids v 0 other.place no_entry in
      let here : Contains x.ids i = (u, is.place, get_or_default x.ids u i 0 is.place ∙ is.is) in
      let kept = subst (λ (b : Bool). Contains (cond b x.ids []) i) (sym test) here in
      Contains-append_left (ids_if_written x) (written_ids gs) i kept
  has_id (x ∷ gs) (suc g) u i (v, j, other, own) is =
      let later = has_id gs g u i (v, j, past x gs g v j other, own) (past x gs g u i is) in
      Contains-append_right (ids_if_written x) (written_ids gs) i later

  count_at_most :
      (gs : List TypeGroup) (definition : ℕ → Definition) (n : Section) (m : ℕ → ℕ) →
      IsEmission (record { groups = gs; definition = definition; is_entry = is_entry }) n m →
      (index_space n).count ≤ written_count is_entry gs
  count_at_most gs definition n m em =
      let all : List ℕ = written_ids gs in
      let few = fewer (length all) (index_space n).count (λ a. m (slice_index_or all a 0)) (λ p in_p.
      (let o = em.onto p in_p in
      let x = o.0 in
      let at = has_id gs x.group x.place x.id x.is_written x.is_member in
      (at.0, at.1, ap m (get_or_default all at.0 0 x.id at.1 ∙ at.2) ∙ o.1))) in
      omega (arith, few, as_many gs)

-- the table

abbrev HasSingles : Table → Type 0
HasSingles t =
    (k : ℕ) → (rec_group_at t.groups k).is_explicit ≡ false →
    length (rec_group_at t.groups k).types ≤ 1

module _ (t : Table) (single : HasSingles t) where
  abbrev table_groups : List TypeGroup
  table_groups = type_groups t.groups

  first_only :
      (g u i : ℕ) → IsMember table_groups g u i → (group_at table_groups g).is_explicit ≡ false →
      u ≡ 0
  first_only g u i is implicit =
      let below : g < length t.groups = omega (arith, is.group, length-map t.groups contents) in
      let same : group_at table_groups g ≡ contents (rec_group_at t.groups g) =
      get_or-map contents t.groups g no_rec_group no_group below in
      let few = single g (ap (λ (x : TypeGroup). x.is_explicit) (sym same) ∙ implicit) in
      omega (arith, is.place, ap (λ (x : TypeGroup). length x.ids) same, few)

  pub can_be_read :
      (out : List GroupAt) (x : IndexMap) → IsEmitted t out x → written_types t < 2 ^ 32 →
      IsWellNamed (section_of out)
  can_be_read out x em bound =
      let definition : ℕ → Definition = definition_at t.types.slots in
      let is_entry : ℕ → Bool = is_entry_at t.types.slots in
      let n : Section = section_of out in
      let m : ℕ → ℕ = value_or_zero x.index in
      let count = count_at_most is_entry table_groups definition n m em.section in
      record {
        few = omega (arith, count, bound);
        below_ends = names_below_ends (table_view t) n m em.section first_only em.complete;
      }
