-- The order of groups that are ready is that in which they can be written.
use Rattle.std.proofs.Common.{◌≡◌, ℕ, suc, ◌+◌, ◌<◌, List, [], ◌∷◌, ◌++◌, length, map, Bool, false, slice_get, Some, ◌⊎◌, inl, inr, ◌∙◌, refl, sym, ap, arith}
use Rattle.std.specs.Cmp.Lexicographic.{slice_cmp}
use Rattle.std.specs.declared.cmp.Ordering.{Ordering}
use Rattle.std.specs.declared.cmp.Ordering.TheVariants.{Less, Equal, Greater}
use Rattle.std.specs.Ordering.{nat_cmp, ordering_then}
use Rattle.std.proofs.lemmas.Bool.{cases_lt}
use Rattle.std.proofs.lemmas.Bool.Decides.{nat_tests}
use Rattle.std.proofs.lemmas.List.{length-map}
use Rattle.walrus_ty.specs.declared.records.EntryAt.{EntryAt}
use Rattle.walrus_ty.specs.Definition.{Definition, Names, rename, definition_cmp}
use Rattle.walrus_ty.specs.Groups.{Section}
use Rattle.walrus_ty.specs.Records.{entry_definition}
use Rattle.walrus_ty.proofs.Names.Definitions.{cmp_agree, cmp_same, rename_id}
use Rattle.walrus_sections.specs.Section.{IndexSpace, index_space}
use Rattle.walrus_canonical.specs.declared.classes.Class.{Class}
use Rattle.walrus_canonical.specs.Greedy.{plain_group, CanComeNext}
use Rattle.walrus_canonical.specs.Steps.Shown.{definitions_cmp, entry_cmp, own_base, shown, shown_definitions}
use Rattle.walrus_canonical.specs.Steps.Writing.{Task, IsBegun, IsReadyAs, ready_number, settled}
use Rattle.walrus_canonical.proofs.Equality.EqualTypes.{equal_back, equal_over}
use Rattle.walrus_canonical.proofs.Forms.Extension.{member_equal}
use Rattle.walrus_canonical.proofs.Output.ComparedLists.{cmp_of_maps}
use Rattle.walrus_canonical.proofs.Output.ReadyGroups.{rooted, slots_of_equal, ready_room, can_come, number_settled}

-- ---- numbers that are ordered alike

less_is : (a b : ℕ) → a < b → nat_cmp a b ≡ Less
less_is a b h = grind (arith, nat_tests, h)

equal_is : (a b : ℕ) → a ≡ b → nat_cmp a b ≡ Equal
equal_is a b h = grind (arith, nat_tests, h)

greater_is : (a b : ℕ) → b < a → nat_cmp a b ≡ Greater
greater_is a b h = grind (arith, nat_tests, h)

cmp_alike :
    (a b c d : ℕ) → (a < b → c < d) → (a ≡ b → c ≡ d) → (b < a → d < c) → nat_cmp c d ≡ nat_cmp a b
cmp_alike a b c d l e g = elim (cases_lt a b) [
  | inl less ↦ less_is c d (l less) ∙ sym (less_is a b less)
  | inr over ↦ elim (cases_lt b a) [
    | inl more ↦ greater_is c d (g more) ∙ sym (greater_is a b more)
    | inr under ↦ (let same : a ≡ b = omega (arith, over, under) in
        equal_is c d (e same) ∙ sym (equal_is a b same))
  ]
]

-- a number below c stays, and one that is so far behind 2^32 comes so far behind c
abbrev GoesTo : ℕ → ℕ → ℕ → Type 0
GoesTo c k u = ((k < c) × (u ≡ k)) ⊎ ((p : ℕ) × (k ≡ ready_number p) × (u ≡ c + p))

goes_alike :
    (c k l u v : ℕ) → c < 4294967296 → GoesTo c k u → GoesTo c l v → nat_cmp u v ≡ nat_cmp k l
goes_alike c k l u v few (inl x) (inl y) =
    let x1 = x.1 in let y1 = y.1 in
    cmp_alike k l u v (λ h. omega (arith, h, x1, y1)) (λ h. omega (arith, h, x1, y1))
    (λ h. omega (arith, h, x1, y1))
goes_alike c k l u v few (inl x) (inr y) =
    let x0 = x.0 in let x1 = x.1 in let y1 = y.1 in let y2 = y.2 in
    cmp_alike k l u v (λ h. omega (arith, few, x0, x1, y1, y2)) (λ h. omega (arith, h, few, x0, x1, y1, y2))
    (λ h. omega (arith, h, few, x0, x1, y1, y2))
goes_alike c k l u v few (inr x) (inl y) =
    let x1 = x.1 in let x2 = x.2 in let y0 = y.0 in let y1 = y.1 in
    cmp_alike k l u v (λ h. omega (arith, h, few, x1, x2, y0, y1))
    (λ h. omega (arith, h, few, x1, x2, y0, y1)) (λ h. omega (arith, few, x1, x2, y0, y1))
goes_alike c k l u v few (inr x) (inr y) =
    let x1 = x.1 in let x2 = x.2 in let y1 = y.1 in let y2 = y.2 in
    cmp_alike k l u v (λ h. omega (arith, h, x1, x2, y1, y2)) (λ h. omega (arith, h, x1, x2, y1, y2))
    (λ h. omega (arith, h, x1, x2, y1, y2))

lists_alike :
    (f : ℕ → ℕ) (ds es : List Definition) →
    ((p q : ℕ) (d e : Definition) (k l : ℕ) → slice_get ds p ≡ Some d → slice_get es q ≡ Some e →
    Names d k → Names e l → nat_cmp (f k) (f l) ≡ nat_cmp k l) →
    definitions_cmp (map (rename f) ds) (map (rename f) es) ≡ definitions_cmp ds es
lists_alike f [] [] h = refl
lists_alike f [] (e ∷ es) h = refl
lists_alike f (d ∷ ds) [] h = refl
lists_alike f (d ∷ ds) (e ∷ es) h =
    let first : definition_cmp (rename f d) (rename f e) ≡ definition_cmp d e =
    cmp_agree f (λ k. k) d e (λ k l x y. h 0 0 d e k l refl refl x y)
    ∙ cmp_same (rename_id d) (rename_id e) in
    let rest = lists_alike f ds es (λ p q a b k l x y z w. h (suc p) (suc q) a b k l x y z w) in
    ap (λ (o : Ordering). ordering_then o (definitions_cmp (map (rename f) ds) (map (rename f) es))) first
    ∙ ap (ordering_then (definition_cmp d e)) rest

-- where the own members of two groups begin at one number, they are behind all others anyway
shown_alike : (base k l : ℕ) → base < 4294967296 → nat_cmp (shown base k) (shown base l) ≡ nat_cmp k l
shown_alike base k l small = grind (arith, nat_tests, small)

pub records_compared :
    (ds es : List EntryAt) → length ds ≡ length es → slice_cmp entry_cmp ds es ≡
    definitions_cmp (shown_definitions (map entry_definition ds))
    (shown_definitions (map entry_definition es))
records_compared ds es same =
    let m = length (map entry_definition ds) in
    let n = length (map entry_definition es) in
    let one : n ≡ m = length-map es entry_definition ∙ (sym same ∙ sym (length-map ds entry_definition)) in
    sym (cmp_of_maps definition_cmp entry_definition entry_definition ds es)
    ∙ (sym (lists_alike (shown (own_base m)) (map entry_definition ds) (map entry_definition es)
    (λ p q d e k l a b x y. shown_alike (own_base m) k l (omega arith)))
    ∙ ap (λ (u : ℕ). definitions_cmp (shown_definitions (map entry_definition ds))
    (map (rename (shown (own_base u))) (map entry_definition es))) (sym one))

-- ---- classes are told by their first slots

module _ (task : Task) where
  pub filled :
      (c : ℕ) (class : Class) → slice_get task.classes c ≡ Some class → 0 < length class.entries
  filled c class at =
      let o = task.are.of_class c class at in
      omega (arith, o.records.places o.head 0 o.member, length-map class.entries entry_definition)

  pub one_place :
      (b c : ℕ) (class other : Class) → slice_get task.classes b ≡ Some class →
      slice_get task.classes c ≡ Some other → class.first ≡ other.first → b ≡ c
  one_place b c class other at_b at_c e = elim (cases_lt b c) [
    | inl less ↦ absurd (
        omega (arith, task.are.apart b c class other less at_b at_c, filled b class at_b, e))
    | inr over ↦ elim (cases_lt c b) [
      | inl more ↦ absurd (
          omega (arith, task.are.apart c b other class more at_c at_b, filled c other at_c, e))
      | inr under ↦ omega (arith, over, under)
    ]
  ]

-- ---- two classes that are ready

module _ (task : Task) (done : ℕ → Bool) (before : Section) (new_index : List ℕ) (next : ℕ)
    (b : IsBegun task done before new_index next) (class other : Class) (ds es : List Definition)
    (q : IsReadyAs task done new_index class ds) (p : IsReadyAs task done new_index other es)
    (undone : done class.first ≡ false) (undone_too : done other.first ≡ false) where
  abbrev B : IndexSpace
  B = index_space before

  few : B.count < 4294967296
  few =
      let r = ready_room task done before new_index next b class ds q undone in
      omega (arith, r, task.well.few)

  pub order_kept :
      definitions_cmp (map (rename (settled next)) ds) (map (rename (settled next)) es) ≡
      definitions_cmp ds es
  order_kept = lists_alike (settled next) ds es (λ t u d e k l at_d at_e x y. goes_alike B.count k l
      (settled next k) (settled next l) few
      (number_settled task done before new_index next b class ds q undone t d k at_d x)
      (number_settled task done before new_index next b other es p undone_too u e l at_e y))

  abbrev settled_first : List Definition
  settled_first = map (rename (settled next)) ds

  abbrev Q : IndexSpace
  Q = index_space (before ++ plain_group settled_first ∷ [])

  -- the same definitions are of one class alone
  pub same_class : ds ≡ es → class.first ≡ other.first
  same_class e =
      let T = index_space task.section in
      let can = can_come task done before new_index next b class ds q undone in
      let can_too : CanComeNext T task.roots B p.head settled_first =
      rw e (can_come task done before new_index next b other es p undone_too) in
      let first = member_equal (rooted task) before b.beginning q.head settled_first can q.head 0 q.member in
      let second =
      member_equal (rooted task) before b.beginning p.head settled_first can_too p.head 0 p.member in
      let same = equal_over T Q T q.head (B.count + 0) p.head first
      (equal_back T Q p.head (B.count + 0) second) in
      sym q.slot ∙ (slots_of_equal task q.head p.head q.marked p.marked same ∙ p.slot)
