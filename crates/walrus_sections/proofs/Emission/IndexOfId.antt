-- Where the ids of written groups stand in the section.
use Rattle.std.proofs.Common.{◌≡◌, ℕ, zero, suc, ◌+◌, ◌<◌, List, [], ◌∷◌, map, take, length, cond, refl, sym, ap, subst, ◌∙◌, arith, Some, None, Option, Bool, true, false, zero-add, length-append, inl, inr}
use Rattle.std.specs.List.{slice_get, slice_index, slice_index_or}
use Rattle.walrus_ty.specs.{Definition.Definition, Groups.Section, Groups.Single, Groups.Rec}
use Rattle.walrus_sections.specs.{Section.Place, Section.no_place, Section.rec_places, Section.recs_after, Section.places_from, SlotMap.TypeGroup, Emission.group_at, WritingOrders.ids_in, WritingOrders.written_group}
use Rattle.walrus_ty.proofs.Basics.{slice_get-left, slice_get-right, some_inj, slice_get-parts}

-- a group that can be written: it isn't empty, and has one id unless it is explicit
pub record IsTidy (w : TypeGroup) : Type 0 where
  pub filled : 0 < length w.ids
  pub single : w.is_explicit ≡ false → length w.ids ≡ 1

abbrev pub AllTidy : List TypeGroup → Type 0
AllTidy [] = Unit {0}
AllTidy (w ∷ ws) = IsTidy w × AllTidy ws

-- how many of these groups are explicit
abbrev rec_one : Bool → ℕ
rec_one true = 1
rec_one false = 0

abbrev pub recs : List TypeGroup → ℕ
recs [] = 0
recs (w ∷ ws) = rec_one w.is_explicit + recs ws

abbrev pub rec_position_of : Bool → ℕ → ℕ → Option (ℕ × ℕ)
rec_position_of true k t = Some (k, t)
rec_position_of false k t = None

-- what stands at p
pub record Stands (ps : List Place) (p : ℕ) (d : Definition) (s : Option (ℕ × ℕ)) : Type 0 where
  pub within : p < length ps
  pub definition : (slice_index_or ps p no_place).definition ≡ d
  pub rec_position : (slice_index_or ps p no_place).rec_position ≡ s

-- what stands in the rest stands behind the n places before it
later : (ps rest : List Place) (n p q : ℕ) (d : Definition) (s : Option (ℕ × ℕ)) →
    length ps ≡ n + length rest → slice_index_or ps q no_place ≡ slice_index_or rest p no_place →
    q ≡ n + p → Stands rest p d s → Stands ps q d s
later ps rest n p q d s long same at h = record {
  within = omega (arith, long, at, h.within);
  definition = ap (λ (x : Place). x.definition) same ∙ h.definition;
  rec_position = ap (λ (x : Place). x.rec_position) same ∙ h.rec_position;
}

module _ (d : ℕ → Definition) where
  rec_length : (ids : List ℕ) (end k t : ℕ) (rest : List Place) →
      length (rec_places (map d ids) end k t rest) ≡ length ids + length rest
  rec_length [] end k t rest = sym (zero-add (length rest))
  rec_length (i ∷ ids) end k t rest = omega (arith, rec_length ids end k (suc t) rest)

  rec_rest : (ids : List ℕ) (end k t : ℕ) (rest : List Place) (p q : ℕ) → q ≡ length ids + p →
      slice_index_or (rec_places (map d ids) end k t rest) q no_place ≡ slice_index_or rest p no_place
  rec_rest [] end k t rest p q e = ap (λ (n : ℕ). slice_index_or rest n no_place) (e ∙ zero-add p)
  rec_rest (i ∷ ids) end k t rest p zero e = absurd (omega (arith, e))
  rec_rest (i ∷ ids) end k t rest p (suc q) e = rec_rest ids end k (suc t) rest p q (omega (arith, e))

  rec_stands : (ids : List ℕ) (end k t : ℕ) (rest : List Place) (u i : ℕ) → slice_get ids u ≡ Some i →
      Stands (rec_places (map d ids) end k t rest) u (d i) (Some (k, t + u))
  rec_stands [] end k t rest u i h = cc
  rec_stands (x ∷ ids) end k t rest zero i h =
      let e : t ≡ t + 0 = omega arith in
      record {
        within = omega arith;
        definition = ap d (some_inj h);
        rec_position = ap (λ (n : ℕ). Some (k, n)) e;
      }
  rec_stands (x ∷ ids) end k t rest (suc u) i h =
      let r : Stands (rec_places (map d ids) end k (suc t) rest) u (d i) (Some (k, suc t + u)) =
      rec_stands ids end k (suc t) rest u i h in
      let e : suc t + u ≡ t + suc u = omega arith in
      record {
        within = omega (arith, r.within);
        definition = r.definition;
        rec_position = r.rec_position ∙ ap (λ (n : ℕ). Some (k, n)) e;
      }

  after_map : (ids : List ℕ) (k : ℕ) → 0 < length ids → recs_after (map d ids) k ≡ suc k
  after_map [] k h = absurd (omega (arith, h))
  after_map (i ∷ ids) k h = refl

  -- one group before the rest
  abbrev one : Bool → List ℕ → Section → ℕ → ℕ → List Place
  one e ids rest b k = places_from b k (cond e (Rec (map d ids)) (Single (d (slice_index ids 0))) ∷ rest)

  abbrev past : List ℕ → ℕ → ℕ
  past ids b = length (map d ids) + b

  one_stands : (e : Bool) (ids : List ℕ) (rest : Section) (b k u i : ℕ) → (e ≡ false → length ids ≡ 1) →
      slice_get ids u ≡ Some i → Stands (one e ids rest b k) u (d i) (rec_position_of e k u)
  one_stands true ids rest b k u i single h =
      let r : Stands (one true ids rest b k) u (d i) (Some (k, 0 + u)) =
      rec_stands ids (past ids b) k 0 (places_from (past ids b) (recs_after (map d ids) k) rest) u i h in
      record {
        within = r.within;
        definition = r.definition;
        rec_position = r.rec_position ∙ ap (λ (n : ℕ). Some (k, n)) (zero-add u);
      }
  one_stands false ids rest b k u i single h = alone ids u (single refl) h
    where
      alone : (ids : List ℕ) (u : ℕ) → length ids ≡ 1 → slice_get ids u ≡ Some i →
          Stands (one false ids rest b k) u (d i) None
      alone [] u e h = absurd (omega (arith, e))
      alone (x ∷ []) zero e h = record {
        within = omega arith;
        definition = ap d (some_inj h);
        rec_position = refl;
      }
      alone (x ∷ []) (suc u) e h = cc
      alone (x ∷ y ∷ ids) u e h = absurd (omega (arith, e))

  -- what the rest is, behind one group
  abbrev behind : Bool → List ℕ → Section → ℕ → ℕ → List Place
  behind true ids rest b k = places_from (past ids b) (recs_after (map d ids) k) rest
  behind false ids rest b k = places_from (suc b) k rest

  one_length : (e : Bool) (ids : List ℕ) (rest : Section) (b k : ℕ) → (e ≡ false → length ids ≡ 1) →
      length (one e ids rest b k) ≡ length ids + length (behind e ids rest b k)
  one_length true ids rest b k single = rec_length ids (past ids b) k 0
      (places_from (past ids b) (recs_after (map d ids) k) rest)
  one_length false ids rest b k single = omega (arith, single refl)

  one_rest : (e : Bool) (ids : List ℕ) (rest : Section) (b k p q : ℕ) → (e ≡ false → length ids ≡ 1) →
      q ≡ length ids + p → slice_index_or (one e ids rest b k) q no_place ≡ slice_index_or
      (behind e ids rest b k) p no_place
  one_rest true ids rest b k p q single at = rec_rest ids (past ids b) k 0
      (places_from (past ids b) (recs_after (map d ids) k) rest) p q at
  one_rest false ids rest b k p zero single at = absurd (omega (arith, at, single refl))
  one_rest false ids rest b k p (suc q) single at = let e : q ≡ p = omega (arith, at, single refl) in
      ap (λ (n : ℕ). slice_index_or (places_from (suc b) k rest) n no_place) e

  -- the rest begins at some index, behind so many more `Rec`s
  behind_is : (e : Bool) (ids : List ℕ) (rest : Section) (b k : ℕ) → 0 < length ids → (c : ℕ)
      × (behind e ids rest b k ≡ places_from c (k + rec_one e) rest)
  behind_is true ids rest b k some = let e : suc k ≡ k + 1 = omega arith in
      (past ids b, ap (λ (n : ℕ). places_from (past ids b) n rest) (after_map ids k some ∙ e))
  behind_is false ids rest b k some = let e : k ≡ k + 0 = omega arith in
      (suc b, ap (λ (n : ℕ). places_from (suc b) n rest) e)

  pub count : (ws : List TypeGroup) → AllTidy ws → (b k : ℕ) →
      length (places_from b k (map (written_group d) ws)) ≡ length (ids_in ws)
  count [] tidy b k = refl
  count (w ∷ ws) tidy b k =
      let rest : Section = map (written_group d) ws in
      let where_ : _ = behind_is w.is_explicit w.ids rest b k tidy.0.filled in
      let long : length (behind w.is_explicit w.ids rest b k) ≡ length (ids_in ws) = ap length where_.1
      ∙ count ws tidy.1 where_.0 (k + rec_one w.is_explicit) in
      omega (
        arith,
        one_length w.is_explicit w.ids rest b k tidy.0.single,
        long,
        length-append w.ids (ids_in ws),
      )

  -- the u-th id of the a-th group stands behind the ids of the groups before it
  pub stands : (ws : List TypeGroup) → AllTidy ws → (b k a u i : ℕ) →
      slice_get (group_at ws a).ids u ≡ Some i →
      Stands (places_from b k (map (written_group d) ws)) (length (ids_in (take a ws)) + u) (d i)
      (rec_position_of (group_at ws a).is_explicit (k + recs (take a ws)) u)
  stands [] tidy b k a u i h = cc
  stands (w ∷ ws) tidy b k zero u i h =
      let r : _ = one_stands w.is_explicit w.ids (map (written_group d) ws) b k u i tidy.0.single h in
      let P : ℕ → ℕ → Type 0 = λ p n. Stands (places_from b k (map (written_group d) (w ∷ ws))) p (d i)
      (rec_position_of w.is_explicit n u) in
      let e : u ≡ 0 + u = sym (zero-add u) in
      let f : k ≡ k + 0 = omega arith in
      subst (λ (p : ℕ). P p (k + 0)) e (subst (λ (n : ℕ). P u n) f r)
  stands (w ∷ ws) tidy b k (suc a) u i h =
      let rest : Section = map (written_group d) ws in
      let p : ℕ = length (ids_in (take a ws)) + u in
      let where_ : _ = behind_is w.is_explicit w.ids rest b k tidy.0.filled in
      let s : Option (ℕ × ℕ) = rec_position_of (group_at ws a).is_explicit (k + recs (take (suc a) (w ∷ ws)))
      u in
      let e : k + rec_one w.is_explicit + recs (take a ws) ≡ k + (rec_one w.is_explicit + recs (take a ws)) =
      omega arith in
      let at : length (ids_in (take (suc a) (w ∷ ws))) + u ≡ length w.ids + p =
      omega (arith, length-append w.ids (ids_in (take a ws))) in
      let r : Stands (places_from where_.0 (k + rec_one w.is_explicit) rest) p (d i) s =
      subst (λ (n : ℕ). Stands (places_from where_.0 (k + rec_one w.is_explicit) rest) p (d i)
      (rec_position_of (group_at ws a).is_explicit n u)) e
      (stands ws tidy.1 where_.0 (k + rec_one w.is_explicit) a u i h) in
      let r' : Stands (behind w.is_explicit w.ids rest b k) p (d i) s =
      subst (λ (ps : List Place). Stands ps p (d i) s) (sym where_.1) r in
      later (one w.is_explicit w.ids rest b k) (behind w.is_explicit w.ids rest b k) (length w.ids) p _ (d i)
      s (one_length w.is_explicit w.ids rest b k tidy.0.single)
      (one_rest w.is_explicit w.ids rest b k p _ tidy.0.single at) at r'

-- the group and the place in it of what stands at p among the ids of all
pub record Home (ws : List TypeGroup) (p x : ℕ) : Type 0 where
  pub group : ℕ
  pub place : ℕ
  pub within : group < length ws
  pub at : p ≡ length (ids_in (take group ws)) + place
  pub is : slice_get (group_at ws group).ids place ≡ Some x

pub home : (ws : List TypeGroup) (p x : ℕ) → slice_get (ids_in ws) p ≡ Some x → Home ws p x
home [] p x h = cc
home (w ∷ ws) p x h = elim (slice_get-parts w.ids (ids_in ws) p x h) [
  | inl at ↦ record { group = 0; place = p; within = omega arith; at = omega arith; is = at }
  | inr at ↦
      let r : Home ws at.0 x = home ws at.0 x at.2 in
      record {
        group = suc r.group;
        place = r.place;
        within = omega (arith, r.within);
        at = omega (arith, at.1, r.at, length-append w.ids (ids_in (take r.group ws)));
        is = r.is;
      }
]

-- a member stands among the ids of all, behind those of the groups before its own
pub member_at :
    (ws : List TypeGroup) (a u x : ℕ) → slice_get (group_at ws a).ids u ≡ Some x →
    slice_get (ids_in ws) (length (ids_in (take a ws)) + u) ≡ Some x
member_at [] a u x h = cc
member_at (w ∷ ws) zero u x h = ap (slice_get (ids_in (w ∷ ws))) (zero-add u)
    ∙ slice_get-left w.ids (ids_in ws) u x h
member_at (w ∷ ws) (suc a) u x h =
    let e : length (ids_in (take (suc a) (w ∷ ws))) + u ≡ length w.ids + (length (ids_in (take a ws)) + u) =
    omega (arith, length-append w.ids (ids_in (take a ws))) in
    ap (slice_get (ids_in (w ∷ ws))) e
    ∙ slice_get-right w.ids (ids_in ws) (length (ids_in (take a ws)) + u) x (member_at ws a u x h)
