-- What a reader has read, after one more group.
use Rattle.std.proofs.Common.{◌≡◌, ℕ, ◌+◌, List, [], ◌∷◌, ◌++◌, length, map, refl, sym, ap, subst, ◌∙◌, Some, None, Option, Bool, true, false, cond, if◌then◌else◌, MatchOption, option_and_then}
use Rattle.std.specs.{List.range_with_len, Cmp.IsEquivalence}
use Rattle.std.proofs.lemmas.List.{map-append, length-map}
use Rattle.walrus_arena.specs.Arena.{Slots, get}
use Rattle.walrus_ty.specs.declared.ty.composite.CompositeType.{CompositeType}
use Rattle.walrus_ty.specs.declared.ty.composite.CompositeType.TheVariants as kind
use Rattle.walrus_ty.specs.{Definition.Definition, Definition.rename, Groups.Section, Groups.Single, Groups.Rec, contracts.ty.TypeEq.TheImpl.Laws.laws-law, Types.ModuleType, Types.kind_composite, Types.unnamed_type, SameTypes.type_eq}
use Rattle.walrus_sections.specs.{Section.index_space, NormalForm.image, SlotMap.TypeGroup, FirstError.group_error}
use Rattle.walrus_types.specs.{TypesById.TypesById, TypesById.passes, TypesById.known_id, TypesById.found_id, Steps.ReadSlots.types_of_definitions, Steps.ReadSlots.live_slots, TableEmission.contents, ReaderState.IsReadInto}
use Rattle.walrus_types.specs.Table.{Table, AddsType, AddsGroup, Member, member_types, IsSameTable, next_id}
use Rattle.walrus_types.specs.Steps.TableReads.{ReadsSingle, UsesUpId, member_definition}
use Rattle.walrus_types.specs.ReadResult.{IsReadResult, type_of_definition, composite_kind}
use Rattle.walrus_ty.proofs.Equality.Types.{same_from_eq, eq_from_same}
use Rattle.walrus_types.proofs.Reading.{Section.TellsTypes, Section.stored_definition, NextGroup.reads_found, NextGroup.reads_new, NextGroup.reads_rec}

pub kind_back : (k : CompositeType) → composite_kind (kind_composite k) ≡ k
kind_back (kind.Function f) = refl
kind_back (kind.Struct s) = refl
kind_back (kind.Array a) = refl

definition : CompositeType → Bool → Option ℕ → Definition
definition k f t = record { composite = kind_composite k; is_final = f; supertype = t }

same_definition :
    (k l : CompositeType) (f g : Bool) (t u : Option ℕ) → k ≡ l → f ≡ g → t ≡ u →
    definition k f t ≡ definition l g u
same_definition k l f g t u a b c = rw (a, b, c) refl

type_laws : IsEquivalence type_eq
unfolding type_eq
type_laws = laws-law

-- equality of types looks at the definition and the mark
pub tells : TellsTypes type_eq
unfolding definition
tells = record {
  laws = type_laws;
  definition = λ a b h. (let s = same_from_eq a b h in
      same_definition a.kind b.kind a.is_final b.is_final a.supertype b.supertype s.kind s.is_final
      s.supertype);
  mark = λ a b h. (same_from_eq a b h).is_for_function_entry;
  same = λ a b d m. eq_from_same a b (record {
    kind = sym (kind_back a.kind) ∙ (ap (λ (d : Definition). composite_kind d.composite) d
        ∙ kind_back b.kind);
    is_final = ap (λ (d : Definition). d.is_final) d;
    supertype = ap (λ (d : Definition). d.supertype) d;
    is_for_function_entry = m;
  });
}

-- the same reading, said of what is the same
reads_at :
    (s : Section) (r r' : List ℕ) (slots slots' : Slots ModuleType) (f g : ModuleType → Option ℕ)
    (groups groups' : List TypeGroup) → r ≡ r' → slots ≡ slots' → ((q : ModuleType) → g q ≡ f q) →
    groups ≡ groups' → IsReadResult s r slots f groups → IsReadResult s r' slots' g groups'
reads_at s r r' slots slots' f g groups groups' a b e c is =
    let with_g : IsReadResult s r slots g groups = record {
      well_named = is.well_named;
      one_each = is.one_each;
      rule = is.rule;
      slot_each = is.slot_each;
      live = is.live;
      dead = is.dead;
      candidates = λ q j. (
        (λ h. (is.candidates q j).0 (sym (e q) ∙ h)),
        (λ h. e q ∙ (is.candidates q j).1 h),
      );
      grouping = is.grouping;
    } in
    subst (λ (x : List ℕ). IsReadResult s x slots' g groups') a
    (subst (λ (x : Slots ModuleType). IsReadResult s r x g groups') b
    (subst (λ (x : List TypeGroup). IsReadResult s r slots g x) c with_g))

-- a refused change leaves what was read
pub read_still :
    (s : Section) (old new : Table) (r : List ℕ) → IsSameTable old new → IsReadInto s old r →
    IsReadInto s new r
read_still s old new r same is =
    reads_at s r r old.types.slots new.types.slots (known_id old.types) (known_id new.types)
    (map contents old.groups) (map contents new.groups) refl (sym same.types.slots) same.types.map
    (ap (map contents) (sym same.groups)) is

module _ (s : Section) (old : Table) (r : List ℕ) (is : IsReadInto s old r) where
  -- what is known is live and equal, so it is found
  found_by : (q : ModuleType) (o : Option ℕ) → known_id old.types q ≡ o → option_and_then
      (λ id. if passes (type_eq q) (get old.types.slots id) then Some id else None) o ≡ o
  found_by q None h = refl
  found_by q (Some j) h =
      let f = (is.candidates q j).0 h in
      let at : get old.types.slots j ≡ Some (type_of_definition _ j) = is.live j f.below f.live in
      let same : type_eq q (type_of_definition _ j) ≡ true =
      tells.same q (type_of_definition _ j) (f.same ∙ sym (stored_definition _ j)) f.plain in
      ap (λ o. if passes (type_eq q) o then Some j else None) at
      ∙ ap (λ (b : Bool). if b then Some j else None) same

  found_is : (q : ModuleType) → found_id old.types q ≡ known_id old.types q
  found_is q = found_by q (known_id old.types q) refl

  module _ (d : Definition) (fine : group_error (index_space s).count (d ∷ []) ≡ None) (new : Table) (id : ℕ)
    where
      abbrev b : ℕ
      b = (index_space s).count

      abbrev ty : ModuleType
      ty = type_of_definition (rename (image (r ++ b ∷ [])) d) b

      single_by : (o : Option ℕ) → found_id old.types ty ≡ o →
          MatchOption o (AddsType old new ty id) (λ found. (id ≡ found) × UsesUpId old new) →
          IsReadInto (s ++ Single d ∷ []) new (r ++ id ∷ [])
      single_by None h adds =
          let here : b ≡ id = sym is.slot_each ∙ sym adds.types.is_next in
          reads_at (s ++ Single d ∷ []) (r ++ b ∷ []) (r ++ id ∷ []) (old.types.slots ++ Some ty ∷ [])
          new.types.slots (known_id new.types) (known_id new.types)
          (map contents old.groups ++ record { ids = b ∷ []; is_explicit = false } ∷ [])
          (map contents new.groups)
          (ap (λ (i : ℕ). r ++ i ∷ []) here) (sym adds.types.slots) (λ q. refl)
          (ap (λ (i : ℕ). map contents old.groups ++ record { ids = i ∷ []; is_explicit = false } ∷ []) here
          ∙ sym (ap (map contents) adds.groups ∙ map-append contents old.groups _))
          (reads_new type_eq tells s r old.types.slots (known_id old.types) (map contents old.groups) is d
          fine
          (sym (found_is ty) ∙ h) (known_id new.types) (λ q. adds.types.map q
          ∙ ap (λ (i : ℕ). cond (type_eq ty q) (Some i) (known_id old.types q)) (sym here)))
      single_by (Some j) h uses =
          reads_at (s ++ Single d ∷ []) (r ++ j ∷ []) (r ++ id ∷ []) (old.types.slots ++ None ∷ [])
          new.types.slots (known_id old.types) (known_id new.types) (map contents old.groups)
          (map contents new.groups)
          (ap (λ (i : ℕ). r ++ i ∷ []) (sym uses.0)) (sym uses.1.slots) uses.1.map
          (ap (map contents) (sym uses.1.groups))
          (reads_found type_eq tells s r old.types.slots (known_id old.types) (map contents old.groups) is d
          fine j (sym (found_is ty) ∙ h))

      pub single_read : ReadsSingle old new ty id → IsReadInto (s ++ Single d ∷ []) new (r ++ id ∷ [])
      single_read reads = single_by (found_id old.types ty) refl reads

tail_same : (x y : Definition) (xs ys : List Definition) → x ∷ xs ≡ y ∷ ys → xs ≡ ys
tail_same x y xs ys h = cc

head_same : (x y : Definition) (xs ys : List Definition) → x ∷ xs ≡ y ∷ ys → x ≡ y
head_same x y xs ys h = cc

pub member_stored :
    (m : Member) (d : Definition) (id : ℕ) → member_definition m ≡ d →
    unnamed_type m.0 m.1 m.2 false id ≡ type_of_definition d id
member_stored m d id h = ap (λ (k : CompositeType). unnamed_type k m.1 m.2 false id) (sym (kind_back m.0))
    ∙ ap (λ (d : Definition). type_of_definition d id) h

placed_is :
    (f : ℕ → ℕ) (id : ℕ) (members : List Member) (ds : List Definition) →
    map member_definition members ≡ map (rename f) ds →
    member_types id members ≡ types_of_definitions f id ds
placed_is f id [] [] h = refl
placed_is f id [] (d ∷ ds) h = absurd cc
placed_is f id (m ∷ members) [] h = absurd cc
placed_is f id (m ∷ members) (d ∷ ds) h =
    let first = member_stored m (rename f d) id
    (head_same (member_definition m) (rename f d) (map member_definition members) (map (rename f) ds) h) in
    let rest = placed_is f (id + 1) members ds (tail_same (member_definition m) (rename f d)
    (map member_definition members) (map (rename f) ds) h) in
    ap (λ (x : ModuleType). x ∷ member_types (id + 1) members) first
    ∙ ap (λ (xs : List ModuleType). type_of_definition (rename f d) id ∷ xs) rest

module _ (s : Section) (old : Table) (r : List ℕ) (is : IsReadInto s old r) (ds : List Definition)
    (fine : group_error (index_space s).count ds ≡ None) (new : Table) (members : List Member) where
  abbrev own : List ℕ
  own = range_with_len (index_space s).count (length ds)

  pub rec_read : map member_definition members ≡ map (rename (image (r ++ own))) ds →
      AddsGroup old new members → IsReadInto (s ++ Rec ds ∷ []) new (r ++ own)
  rec_read same adds =
      let first : next_id old ≡ (index_space s).count = is.slot_each in
      let many : length members ≡ length ds = sym (length-map members member_definition)
      ∙ (ap length same ∙ length-map ds (rename (image (r ++ own)))) in
      let tys : member_types (next_id old) members ≡ types_of_definitions (image (r ++ own))
      (index_space s).count ds = placed_is (image (r ++ own)) (next_id old) members ds same
      ∙ ap (λ (i : ℕ). types_of_definitions (image (r ++ own)) i ds) first in
      let ids : range_with_len (next_id old) (length members) ≡ own =
      ap (λ (i : ℕ). range_with_len i (length members)) first
      ∙ ap (range_with_len (index_space s).count) many in
      reads_at (s ++ Rec ds ∷ []) (r ++ own) (r ++ own)
      (old.types.slots ++ live_slots (types_of_definitions (image (r ++ own)) (index_space s).count ds))
      new.types.slots (known_id old.types) (known_id new.types)
      (map contents old.groups ++ record { ids = own; is_explicit = true } ∷ []) (map contents new.groups)
      refl
      (ap (λ (xs : List ModuleType). old.types.slots ++ live_slots xs) (sym tys)
      ∙ sym (ap (λ (t : TypesById). t.slots) adds.types))
      (λ q. ap (λ (t : TypesById). known_id t q) adds.types)
      (ap (λ (xs : List ℕ). map contents old.groups ++ record { ids = xs; is_explicit = true } ∷ []) (sym ids)
      ∙ sym (ap (map contents) adds.groups ∙ map-append contents old.groups _))
      (reads_rec type_eq tells s r old.types.slots (known_id old.types) (map contents old.groups) is ds fine)
