-- One more group of a section is read.
use Rattle.std.proofs.Common.{◌≡◌, ℕ, ◌<◌, ◌≤◌, List, refl, sym, ap, subst, ◌∙◌, arith, Some, None, Option, Bool, true, false, inl, inr}
use Rattle.std.specs.{Option.is_none, Cmp.IsEquivalence}
use Rattle.std.proofs.lemmas.Bool.{cases_eq}
use Rattle.walrus_arena.specs.Arena.{Slots}
use Rattle.walrus_ty.specs.Definition.{Composite, Function, Struct, Array, Definition, Names}
use Rattle.walrus_ty.specs.{Groups.Section, Types.ModuleType, Types.kind_composite, Types.type_definition}
use Rattle.walrus_sections.specs.{Section.IndexSpace, Section.index_space, Section.IsSingle, Section.IsWellNamed, NormalForm.image, SlotMap.IsSlotMap, SlotMap.IsCandidate, SlotMap.TypeGroup, SlotMap.read_definition, SlotMap.read_groups}
use Rattle.walrus_types.specs.ReadResult.{IsReadResult, composite_kind, type_of_definition}
use Rattle.walrus_ty.proofs.Names.Definitions.{Names-rename, named_before}
use Rattle.walrus_sections.proofs.Sections.{Lying.in_or_out, Rows.laid_out}
use Rattle.walrus_types.proofs.Reading.NextIndex.{Holds, IsEarlier}

-- two types are equal where they are defined alike and both are, or are not, for the entry of a
-- function
pub record TellsTypes (eq : ModuleType → ModuleType → Bool) : Type 0 where
  pub laws : IsEquivalence eq
  pub definition : (a b : ModuleType) → eq a b ≡ true → type_definition a ≡ type_definition b
  pub mark : (a b : ModuleType) → eq a b ≡ true → a.is_for_function_entry ≡ b.is_for_function_entry
  pub same : (a b : ModuleType) → type_definition a ≡ type_definition b →
      a.is_for_function_entry ≡ b.is_for_function_entry → eq a b ≡ true

-- what i is stored as, where these ids stand for the indices
abbrev pub read_type : IndexSpace → List ℕ → ℕ → ModuleType
read_type n r i = type_of_definition (read_definition n (image r) i) i

abbrev pub is_single : IndexSpace → ℕ → Bool
is_single n i = is_none (n.rec_position i)

pub rec_position_none : {A : Type 0} (o : Option A) → is_none o ≡ true → o ≡ None
rec_position_none None h = refl
rec_position_none (Some x) h = cc

pub rec_position_some : {A : Type 0} (o : Option A) → is_none o ≡ false → (x : A) × (o ≡ Some x)
rec_position_some None h = absurd cc
rec_position_some (Some x) h = (x, refl)

pub none_single : {A : Type 0} (o : Option A) → o ≡ None → is_none o ≡ true
none_single o h = ap is_none h

pub some_single : {A : Type 0} (o : Option A) (x : A) → o ≡ Some x → is_none o ≡ false
some_single o x h = ap is_none h

pub kind_of : (c : Composite) → kind_composite (composite_kind c) ≡ c
kind_of (Function ps rs) = refl
kind_of (Struct fs) = refl
kind_of (Array f) = refl

pub stored_definition : (d : Definition) (i : ℕ) → type_definition (type_of_definition d i) ≡ d
stored_definition d i = ap (λ (c : Composite).
    record { composite = c; is_final = d.is_final; supertype = d.supertype }) (kind_of d.composite)

-- between what a section is read into, and what the table holds of its indices
module _ (eq : ModuleType → ModuleType → Bool) (tells : TellsTypes eq) (n : IndexSpace) (r : List ℕ)
    (slots : Slots ModuleType) (map : ModuleType → Option ℕ) where
  read_same : (i j : ℕ) → eq (read_type n r i) (read_type n r j) ≡ true →
      read_definition n (image r) i ≡ read_definition n (image r) j
  read_same i j h = sym (stored_definition _ i)
      ∙ (tells.definition (read_type n r i) (read_type n r j) h ∙ stored_definition _ j)

  same_read : (i j : ℕ) → read_definition n (image r) i ≡ read_definition n (image r) j →
      eq (read_type n r i) (read_type n r j) ≡ true
  same_read i j h = tells.same (read_type n r i) (read_type n r j) (stored_definition _ i
      ∙ (h ∙ sym (stored_definition _ j))) refl

  candidate : (i j : ℕ) → IsEarlier eq (is_single n) (read_type n r) r i j → IsCandidate n (image r) i j
  candidate i j e = record {
    earlier = e.below;
    single = rec_position_none (n.rec_position j) e.single;
    live = e.live;
    same = read_same j i e.same;
  }

  earlier : (i j : ℕ) → IsCandidate n (image r) i j → IsEarlier eq (is_single n) (read_type n r) r i j
  earlier i j c = record {
    below = c.earlier;
    single = none_single (n.rec_position j) c.single;
    live = c.live;
    same = same_read j i c.same;
  }

  pub record IsHeld : Type 0 where
    pub holds : Holds eq n.count (is_single n) (read_type n r) r slots map
    pub selfs : (i : ℕ) → i < n.count → IsSingle n i → Names (n.definition i) i → image r i ≡ i

  pub rule_of : IsHeld → IsSlotMap n (image r)
  rule_of is = record {
    recs = λ i h x. is.holds.recs i h (some_single (n.rec_position i) x.0 x.1);
    selfs = is.selfs;
    fresh = λ i j h one other own c. is.holds.fresh i j h (none_single (n.rec_position i) one) own
        (earlier i j c);
    to_candidate = λ i h one other. candidate i (image r i) (is.holds.to_candidate i h other);
  }

-- two values are one where each is there exactly where the other is
same_option :
    (o p : Option ℕ) → ((j : ℕ) → o ≡ Some j → p ≡ Some j) → ((j : ℕ) → p ≡ Some j → o ≡ Some j) →
    o ≡ p
same_option (Some j) p f g = sym (f j refl)
same_option None None f g = refl
same_option None (Some j) f g = g j refl

module _ (eq : ModuleType → ModuleType → Bool) (tells : TellsTypes eq) (s : Section) (r : List ℕ)
    (slots : Slots ModuleType) (map : ModuleType → Option ℕ) (groups : List TypeGroup) where
  abbrev n : IndexSpace
  n = index_space s

  module _ (is : IsReadResult s r slots map groups) where
    pub below_count : (i : ℕ) → i < n.count → (k : ℕ) → Names (n.definition i) k → k < n.count
    below_count i h k named = let a = is.well_named.below_ends i h k named in let b = (laid_out s).fits i h in
        omega (arith, a, b)

    -- an index stands for an earlier one or itself
    pub image_le : (k : ℕ) → k < n.count → image r k ≤ k
    image_le k h = elim (cases_eq (image r k) k) [
      | inl e ↦ omega arith
      | inr other ↦ elim (in_or_out (n.rec_position k)) [
        | inl one ↦ (let c = (is.rule.to_candidate k h one other).earlier in omega arith)
        | inr x ↦ absurd (other (is.rule.recs k h x))
      ]
    ]

    -- a `Single` reads as what names nothing later
    pub single_names : (j k : ℕ) → j < n.count → IsSingle n j → Names (read_definition n (image r) j) k →
        k ≤ j
    single_names j k h one named =
        let b = named_before (image r) (n.definition j) k named in
        let below = is.well_named.below_ends j h b.0 b.1 in
        let end = (laid_out s).single_end j h one in
        let le = image_le b.0 (below_count j h b.0 b.1) in
        let e = b.2 in
        omega arith

    no_self : (i j : ℕ) → i < n.count → image r i ≡ i → IsCandidate n (image r) i j →
        ¬ (Names (n.definition i) i)
    no_self i j h own c named =
        let a = Names-rename (image r) (n.definition i) i named in
        let b : Names (read_definition n (image r) j) (image r i) =
        subst (λ (d : Definition). Names d (image r i)) (sym c.same) a in
        let e = c.earlier in
        let le = single_names j (image r i) (omega arith) c.single b in
        omega arith

    pub held : IsHeld eq tells n r slots map
    held = record {
      holds = record {
        many = is.one_each;
        slots_many = is.slot_each;
        live = is.live;
        dead = is.dead;
        recs = λ i h o. is.rule.recs i h (rec_position_some (n.rec_position i) o);
        to_candidate = λ i h other. elim (in_or_out (n.rec_position i)) [
          | inl one ↦ earlier eq tells n r slots map i (image r i) (is.rule.to_candidate i h one other)
          | inr x ↦ absurd (other (is.rule.recs i h x))
        ];
        fresh = λ i j h one own e. (let c = candidate eq tells n r slots map i j e in
            is.rule.fresh i j h (rec_position_none (n.rec_position i) one) (no_self i j h own c) own c);
        mapped = λ q j h. (let f = (is.candidates q j).0 h in (
          f.below,
          none_single (n.rec_position j) f.single,
          f.live,
          tells.same (read_type n r j) q (stored_definition _ j ∙ sym f.same) (sym f.plain),
        ));
        all = λ j h one own. (is.candidates (read_type n r j) j).1
            (record {
              below = h;
              single = rec_position_none (n.rec_position j) one;
              live = own;
              same = stored_definition _ j;
              plain = refl;
            });
      };
      selfs = is.rule.selfs;
    }

    -- equal types are found alike
    pub found_alike : (p q : ModuleType) → eq p q ≡ true → map p ≡ map q
    found_alike p q h = same_option (map p) (map q) (λ j e. there p q h j e) (λ j e.
        there q p (tells.laws.symm q p ∙ h) j e)
      where
        there : (p q : ModuleType) → eq p q ≡ true → (j : ℕ) → map p ≡ Some j → map q ≡ Some j
        there p q h j e = let f = (is.candidates p j).0 e in
            (is.candidates q j).1 (record {
              below = f.below;
              single = f.single;
              live = f.live;
              same = sym (tells.definition p q h) ∙ f.same;
              plain = sym (tells.mark p q h) ∙ f.plain;
            })

  -- what the table holds of the indices, and the groups, are all there is to reading
  pub reads_of : IsWellNamed s → ((p q : ModuleType) → eq p q ≡ true → map p ≡ map q) →
      IsHeld eq tells n r slots map → groups ≡ read_groups 0 (image r) s → IsReadResult s r slots map groups
  reads_of fine respects is grouping = record {
    well_named = fine;
    one_each = is.holds.many;
    rule = rule_of eq tells n r slots map is;
    slot_each = is.holds.slots_many;
    live = is.holds.live;
    dead = is.holds.dead;
    candidates = λ q j. (
      (λ h. (let m = is.holds.mapped q j h in record {
        below = m.0;
        single = rec_position_none (n.rec_position j) m.1;
        live = m.2;
        same = sym (tells.definition (read_type n r j) q m.3) ∙ stored_definition _ j;
        plain = sym (tells.mark (read_type n r j) q m.3);
      })),
      (λ f. respects q (read_type n r j) (tells.same q (read_type n r j) (f.same
          ∙ sym (stored_definition _ j)) f.plain) ∙ is.holds.all j f.below
          (none_single (n.rec_position j) f.single) f.live),
    );
    grouping = grouping;
  }
