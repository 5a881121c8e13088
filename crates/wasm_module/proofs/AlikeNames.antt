-- Maps from types that have the same names: by new indices that lead together they become one map, and
-- where they do, they have the same names.
use Rattle.std.proofs.Common.{◌≡◌, ℕ, ◌<◌, ◌≤◌, List, [], ◌∷◌, ◌++◌, length, map, Some, inl, inr, refl, sym, ap, subst, ◌∙◌}
use Rattle.std.specs.List.{Contains}
use Rattle.std.proofs.lemmas.List.Elements.{All-contains, Contains-append_right}
use Rattle.std.proofs.lemmas.List.Kept.{AllPairs-from_increasing}
use Rattle.wasm_module.specs.declared.renaming.Widths.TheVariants as widths
use Rattle.wasm_module.specs.Alike.{Pairing, swapped, Meet, IsFirst, NamesAreIn, HaveSameNames, BelongNowhere, LeadTogether}
use Rattle.wasm_module.specs.NameSections.{TypeEntry, type_entry, IsLeast, AreKept}
use Rattle.wasm_module.specs.SyntaxTrees.{AreWritten, none, next}
use Rattle.wasm_module.specs.Renaming.{NewIndices, new_index}
use Rattle.wasm_module.proofs.Entries.{Kept, least_in, keys, first_or_later, first_in, later_in, none_in, has_entry, least_once, same_members}
use Rattle.wasm_module.proofs.KeptEntries.{some_is}
use Rattle.wasm_module.proofs.NumberTexts.{text_once}
use Rattle.wasm_module.proofs.OwnEntries.{all_from}

-- what leads together leads together the other way round
pub swap : (R : Pairing) (m w : NewIndices) → LeadTogether R m w → LeadTogether (swapped R) w m
swap R m w h = record {
  goes = λ j i r. (let g = h.goes i j r in (g.0, g.2, g.1));
  belong = λ j i n b a. h.belong i j n a b;
  from_second = h.from_first;
  from_first = h.from_second;
}

module _ (R : Pairing) (m w : NewIndices) (h : LeadTogether R m w) where
  -- types meet where they get the same new index
  meeting : (i k n : ℕ) → new_index m i ≡ Some n → new_index m k ≡ Some n → Meet R i k
  meeting i k n a b = let o = h.from_second i n a in (o.0, h.belong i o.0 n a o.1, h.belong k o.0 n b o.1)

  met : (i k : ℕ) → Meet R i k → new_index m i ≡ new_index m k
  met i k meet =
      let a = h.goes i meet.0 meet.1 in
      let b = h.goes k meet.0 meet.2 in
      a.1 ∙ (sym a.2 ∙ (b.2 ∙ sym b.1))

  -- the least entry of a new index is the first one whose type belongs to that
  pub first_of : (es : List TypeEntry) (e : TypeEntry) → IsLeast m es e → IsFirst R es e
  first_of es e l = record {
    before = l.before;
    after = l.after;
    parts = l.parts;
    less = all_from (λ f. Meet R f.index e.index → e.index < f.index) l.before
        (λ f there meet. All-contains
        (λ f. new_index m f.index ≡ new_index m e.index → e.index < f.index) l.before f l.less there
        (met f.index e.index meet));
    least = all_from (λ f. Meet R f.index e.index → e.index ≤ f.index) l.after
        (λ f there meet. All-contains
        (λ f. new_index m f.index ≡ new_index m e.index → e.index ≤ f.index) l.after f l.least there
        (met f.index e.index meet));
  }

  pub least_of_first : (es : List TypeEntry) (e : TypeEntry) (n : ℕ) → new_index m e.index ≡ Some n →
      IsFirst R es e → IsLeast m es e
  least_of_first es e n is l = record {
    before = l.before;
    after = l.after;
    parts = l.parts;
    less = all_from (λ f. new_index m f.index ≡ new_index m e.index → e.index < f.index) l.before
        (λ f there same. All-contains (λ f. Meet R f.index e.index → e.index < f.index) l.before f l.less
        there (meeting f.index e.index n (same ∙ is) is));
    least = all_from (λ f. new_index m f.index ≡ new_index m e.index → e.index ≤ f.index) l.after
        (λ f there same. All-contains (λ f. Meet R f.index e.index → e.index ≤ f.index) l.after f l.least
        there (meeting f.index e.index n (same ∙ is) is));
  }

first_there : (R : Pairing) (es : List TypeEntry) (e : TypeEntry) → IsFirst R es e → Contains es e
first_there R es e l =
    subst (λ (u : List TypeEntry). Contains u e) (sym l.parts)
    (Contains-append_right l.before (e ∷ l.after) e (first_in e l.after))

-- ---- from the same names to the same entries

-- the new indices, and what follows them
abbrev pub shown : Kept → List (ℕ × List ℕ)
shown kept = map (λ (p : ℕ × TypeEntry). (p.0, p.1.follows)) kept

module _ (R : Pairing) (m w : NewIndices) (h : LeadTogether R m w) (es fs : List TypeEntry)
    (a b : Kept) (is : AreKept m es a) (its : AreKept w fs b) (names : NamesAreIn R es fs) where
  -- the entry of the other map for a new index that is kept
  partner : (n : ℕ) (e : TypeEntry) → Contains a (n, e) →
      (f : TypeEntry) × IsFirst (swapped R) fs f × (new_index w f.index ≡ Some n) × (f.follows ≡ e.follows)
  partner n e there =
      let l = is.are_least n e there in
      let o = h.from_second e.index n l.0 in
      let f = names e o.0 (first_of R m w h es e l.1) (h.belong e.index o.0 n l.0 o.1) in
      let g = h.goes e.index f.0.index f.2 in
      let one : g.0 ≡ n = some_is g.0 n (new_index m e.index) g.1 l.0 in
      (f.0, f.1, g.2 ∙ ap (λ k. Some k) one, f.3)

  pub keys_too : (n : ℕ) → Contains (keys a) n → Contains (keys b) n
  keys_too n has =
      let e = has_entry a n has in
      let f = partner n e.0 e.1 in
      All-contains (λ k. (j : ℕ) → new_index w k.index ≡ Some j → Contains (keys b) j) fs f.0
      its.none_missing (first_there (swapped R) fs f.0 f.1) n f.2

  pub follows_too : (n : ℕ) (e f : TypeEntry) → Contains a (n, e) → Contains b (n, f) →
      e.follows ≡ f.follows
  follows_too n e f there other =
      let g = partner n e there in
      let l = its.are_least n f other in
      let one : g.0 ≡ f = least_once w fs g.0 f
      (least_of_first (swapped R) w m (swap R m w h) fs g.0 n g.2 g.1) l.1 (g.2 ∙ sym l.0) in
      sym g.3 ∙ ap (λ (k : TypeEntry). k.follows) one

same_shown : (a b : Kept) → keys a ≡ keys b →
    ((n : ℕ) (e f : TypeEntry) → Contains a (n, e) → Contains b (n, f) → e.follows ≡ f.follows) →
    shown a ≡ shown b
same_shown [] [] e same = refl
same_shown [] (q ∷ b) e same = absurd cc
same_shown (p ∷ a) [] e same = absurd cc
same_shown (p ∷ a) (q ∷ b) e same =
    let first : p.0 ≡ q.0 = cc in
    let rest : keys a ≡ keys b = cc in
    let follow : p.1.follows ≡ q.1.follows = same p.0 p.1 q.1 (first_in p a)
    (subst (λ k. Contains (q ∷ b) (k, q.1)) (sym first) (first_in q b)) in
    let others = same_shown a b rest
    (λ n e f k l. same n e f (later_in p (n, e) a k) (later_in q (n, f) b l)) in
    ap (λ k. (k, p.1.follows) ∷ shown a) first ∙ ap (λ (u : List ℕ). (q.0, u) ∷ shown a) follow
    ∙ ap (λ (u : List (ℕ × List ℕ)). (q.0, q.1.follows) ∷ u) others

pub kept_together : (R : Pairing) (m w : NewIndices) → LeadTogether R m w → (es fs : List TypeEntry)
    (a b : Kept) → AreKept m es a → AreKept w fs b → HaveSameNames R es fs → shown a ≡ shown b
kept_together R m w h es fs a b is its names =
    same_shown a b
    (same_members (keys a) (keys b) (AllPairs-from_increasing (keys a) is.ascending)
    (AllPairs-from_increasing (keys b) its.ascending)
    (keys_too R m w h es fs a b is its names.forth)
    (keys_too (swapped R) w m (swap R m w h) fs es b a its is names.back))
    (follows_too R m w h es fs a b is its names.forth)

-- what is shown decides the texts and the entries that are written
pub written_together : (a b : Kept) (texts others : List ℕ) (es fs : List TypeEntry) → shown a ≡ shown b →
    AreWritten widths.Shortest a texts es → AreWritten widths.Shortest b others fs →
    (texts ≡ others) × (es ≡ fs)
written_together _ _ _ _ _ _ e none none = (refl, refl)
written_together _ _ _ _ _ _ e none (next n f new kept texts fs is h) = absurd cc
written_together _ _ _ _ _ _ e (next n f new kept texts fs is h) none = absurd cc
written_together _ _ _ _ _ _ e (next n g new a texts es is h) (next k f other b others fs its l) =
    let first : (n, g.follows) ≡ (k, f.follows) = cc in
    let rest : shown a ≡ shown b = cc in
    let number : n ≡ k = ap (λ (x : ℕ × List ℕ). x.0) first in
    let follow : g.follows ≡ f.follows = ap (λ (x : ℕ × List ℕ). x.1) first in
    let one : new ≡ other = text_once 0x80 0 new other n k is its number in
    let r = written_together a b texts others es fs rest h l in (
      ap (λ (u : List ℕ). (u ++ g.follows) ++ texts) one
          ∙ ap (λ (u : List ℕ). (other ++ u) ++ texts) follow
          ∙ ap (λ (u : List ℕ). (other ++ f.follows) ++ u) r.0,
      ap (λ j. type_entry j (length new) g.follows ∷ es) number
          ∙ ap (λ (u : List ℕ). type_entry k (length u) g.follows ∷ es) one
          ∙ ap (λ (u : List ℕ). type_entry k (length other) u ∷ es) follow
          ∙ ap (λ (u : List TypeEntry). type_entry k (length other) f.follows ∷ u) r.1,
    )

-- where no type belongs to one of the other module, none is kept
pub none_kept : (R : Pairing) (m w : NewIndices) → LeadTogether R m w → (es : List TypeEntry) (a : Kept) →
    AreKept m es a → BelongNowhere R es → a ≡ []
none_kept R m w h es [] is nowhere = refl
none_kept R m w h es (p ∷ a) is nowhere =
    let l = is.are_least p.0 p.1 (first_in p a) in
    let o = h.from_second p.1.index p.0 l.0 in
    absurd (nowhere p.1 o.0 (least_in m es p.1 l.1) (h.belong p.1.index o.0 p.0 l.0 o.1))

-- ---- from the same entries to the same names

-- what was written shows the same as what is kept
pub written_shown : (a : Kept) (texts : List ℕ) (es : List TypeEntry) →
    AreWritten widths.Shortest a texts es →
    shown a ≡ map (λ (e : TypeEntry). (e.index, e.follows)) es
written_shown _ _ _ none = refl
written_shown _ _ _ (next n e new kept texts es is h) =
    ap (λ (u : List (ℕ × List ℕ)). (n, e.follows) ∷ u) (written_shown kept texts es h)

shown_in : (a b : Kept) → shown a ≡ shown b → (n : ℕ) (e : TypeEntry) → Contains a (n, e) →
    (f : TypeEntry) × Contains b (n, f) × (f.follows ≡ e.follows)
shown_in [] b e n x there = absurd (none_in (n, x) there)
shown_in (p ∷ a) [] e n x there = absurd cc
shown_in (p ∷ a) (q ∷ b) e n x there =
    let both : (p.0, p.1.follows) ≡ (q.0, q.1.follows) = cc in
    let rest : shown a ≡ shown b = cc in
    let first : p.0 ≡ q.0 = ap (λ (x : ℕ × List ℕ). x.0) both in
    let follow : p.1.follows ≡ q.1.follows = ap (λ (x : ℕ × List ℕ). x.1) both in
    elim (first_or_later p (n, x) a there) [
      | inl same ↦
          let number : p.0 ≡ n = ap (λ (k : ℕ × TypeEntry). k.0) same in
          let entry : p.1 ≡ x = ap (λ (k : ℕ × TypeEntry). k.1) same in (
            q.1,
            subst (λ k. Contains (q ∷ b) (k, q.1)) (sym first ∙ number) (first_in q b),
            sym follow ∙ ap (λ (k : TypeEntry). k.follows) entry,
          )
      | inr later ↦ (let r = shown_in a b rest n x later in (r.0, later_in q (n, r.0) b r.1, r.2))
    ]

pub names_in_too : (R : Pairing) (m w : NewIndices) → LeadTogether R m w → (es fs : List TypeEntry)
    (a b : Kept) → AreKept m es a → AreKept w fs b → shown a ≡ shown b → NamesAreIn R es fs
names_in_too R m w h es fs a b is its same e j first belongs =
    let g = h.goes e.index j belongs in
    let n : ℕ = g.0 in
    let has : Contains (keys a) n = All-contains
    (λ k. (j : ℕ) → new_index m k.index ≡ Some j → Contains (keys a) j) es e is.none_missing
    (first_there R es e first) n g.1 in
    let x = has_entry a n has in
    let l = is.are_least n x.0 x.1 in
    let one : x.0 ≡ e = least_once m es x.0 e l.1 (least_of_first R m w h es e n g.1 first) (l.0 ∙ sym g.1) in
    let f = shown_in a b same n x.0 x.1 in
    let k = its.are_least n f.0 f.1 in (
      f.0,
      first_of (swapped R) w m (swap R m w h) fs f.0 k.1,
      h.belong e.index f.0.index n g.1 k.0,
      f.2 ∙ ap (λ (u : TypeEntry). u.follows) one,
    )

pub same_names_of : (R : Pairing) (m w : NewIndices) → LeadTogether R m w → (es fs : List TypeEntry)
    (a b : Kept) → AreKept m es a → AreKept w fs b → shown a ≡ shown b → HaveSameNames R es fs
same_names_of R m w h es fs a b is its same = record {
  forth = names_in_too R m w h es fs a b is its same;
  back = names_in_too (swapped R) w m (swap R m w h) fs es b a its is (sym same);
}

-- where nothing is kept, no type belongs to one of the other module
pub nowhere_of : (R : Pairing) (m w : NewIndices) → LeadTogether R m w → (es : List TypeEntry) (a : Kept) →
    AreKept m es a → a ≡ [] → BelongNowhere R es
nowhere_of R m w h es a is empty e j there belongs =
    let g = h.goes e.index j belongs in
    let has : Contains (keys a) g.0 = All-contains
    (λ k. (j : ℕ) → new_index m k.index ≡ Some j → Contains (keys a) j) es e is.none_missing there g.0 g.1 in
    none_in g.0 (subst (λ (u : Kept). Contains (keys u) g.0) empty has)
