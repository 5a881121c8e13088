-- A group is written in one way behind other groups, and it can be written where all that it names
-- outside of it is equal to a type there.
use Rattle.std.proofs.Common.{◌≡◌, ℕ, ◌+◌, ◌<◌, List, map, refl, sym, ap, subst, inl, inr}
use Rattle.walrus_ty.specs.Definition.{Definition, rename}
use Rattle.walrus_sections.specs.Section.{IndexSpace, index_space}
use Rattle.walrus_ty.specs.Groups.{Section}
use Rattle.walrus_canonical.specs.EqualTypes.{IsMember, IsInGroup, NamesOutside, NameAtOnce, HaveLikeGroups, AreEqual}
use Rattle.walrus_canonical.specs.Greedy.{IsWrittenAs}
use Rattle.walrus_canonical.proofs.Equality.EqualTypes.{groups_of, named_of, equal_back, equal_over, one_type}
use Rattle.walrus_canonical.proofs.Equality.Members.{place_once, in_group_or_not, mate_from}
use Rattle.walrus_canonical.proofs.Equality.Written.{own_written, of_mate, numbered_anew, one_if_equal}
use Rattle.walrus_canonical.proofs.Forms.NextGroups.{Around, around}
use Rattle.walrus_canonical.proofs.Equality.Decisions.{Decided}

-- ---- one way

module _ (section before : Section)
    (apart : (p q : ℕ) → p < q → q < (index_space before).count →
    ¬ (AreEqual (index_space before) (index_space before) p q)) (i j : ℕ) where
  abbrev S : IndexSpace
  S = index_space section

  abbrev B : IndexSpace
  B = index_space before

  pub written_alike :
      HaveLikeGroups S S i j →
      ((x y p : ℕ) → NameAtOnce S S i j x y → NamesOutside S i x → AreEqual S B x p → AreEqual S B y p) →
      (ds es : List Definition) → IsWrittenAs S B i ds → IsWrittenAs S B j es → ds ≡ es
  written_alike same moves ds es v w =
      one_if_equal S S (λ p. B.count + p) (λ p. B.count + p) (AreEqual S B) (AreEqual S B) i j same ds es v w
      (λ p h. refl) (λ x y a b n o u at_a at_b. one_type before apart a b
      (equal_over B S B a y b (equal_back S B y a (moves x y a n o at_a)) at_b))

  pub written_once :
      AreEqual S S i j → (ds es : List Definition) → IsWrittenAs S B i ds → IsWrittenAs S B j es → ds ≡ es
  written_once e = written_alike (groups_of S S i j e) (λ x y p n o at_p.
      equal_over S S B y x p (equal_back S S x y (named_of S S i j e x y n o.3)) at_p)

-- ---- a way

module _ (section : Section) (before : IndexSpace)
    (found : (x : ℕ) → Decided ((y : ℕ) × AreEqual (index_space section) before x y)) (i : ℕ)
    (h : i < (index_space section).count)
    (listed : (x : ℕ) → NamesOutside (index_space section) i x →
    (y : ℕ) × AreEqual (index_space section) before x y) where
  abbrev s : IndexSpace
  s = index_space section

  abbrev a : Around s i
  a = around section i h

  at_i : IsMember s a.head a.place i
  at_i = subst (λ (u : ℕ). IsMember s a.head a.place u) (sym a.is) (a.begins.member a.place a.low)

  own_i : IsMember s i a.place i
  own_i = mate_from s a.head a.place i a.place i at_i at_i

  abbrev IsFound : ℕ → Type 0
  IsFound x = (y : ℕ) × AreEqual s before x y

  moved_by : (x : ℕ) → Decided (IsInGroup s i x) → Decided (IsFound x) → ℕ
  moved_by x (inl m) f = before.count + m.0
  moved_by x (inr out) (inl y) = y.0
  moved_by x (inr out) (inr none) = 0

  moved_in :
      (x place : ℕ) → IsMember s i place x → (d : Decided (IsInGroup s i x)) →
      (f : Decided (IsFound x)) → moved_by x d f ≡ before.count + place
  unfolding moved_by
  moved_in x place m (inl n) f =
      ap (λ (u : ℕ). before.count + u) (place_once s i n.0 place x n.1 m)
  moved_in x place m (inr out) f = absurd (out (place, m))

  moved_out :
      (x : ℕ) → (IsInGroup s i x → ⊥) → IsFound x → (d : Decided (IsInGroup s i x)) →
      (f : Decided (IsFound x)) → AreEqual s before x (moved_by x d f)
  unfolding moved_by
  moved_out x out y (inl m) f = absurd (out m)
  moved_out x out y (inr o) (inl z) = z.1
  moved_out x out y (inr o) (inr none) = absurd (none y)

  decision : (x : ℕ) → Decided (IsInGroup s i x)
  decision x = in_group_or_not s i a.place x own_i

  moved : ℕ → ℕ
  moved x = moved_by x (decision x) (found x)

  pub as_written : List Definition
  as_written = map (rename moved) a.ds

  pub written_so : IsWrittenAs s before i as_written
  unfolding as_written moved
  written_so = numbered_anew s (λ p. a.head + p) (λ x y. y ≡ x) i a.ds
      (of_mate s (λ p. a.head + p) (λ x y. y ≡ x) a.head a.ds (own_written s a.head a.ds a.begins) a.place i
      at_i) moved (λ p. before.count + p) (AreEqual s before) (λ p low.
      let x = a.head + p in
      moved_in x p (mate_from s a.head a.place i p x at_i (a.begins.member p low)) (decision x) (found x))
      (λ x y o is. subst (λ (u : ℕ). AreEqual s before x (moved u)) (sym is)
      (moved_out x o.3 (listed x o) (decision x) (found x)))
