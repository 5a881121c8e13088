-- Lemmas on whether a type is named in its group.
use Rattle.std.proofs.Common.{◌≡◌, ◌≢◌, ◌↔◌, ℕ, ◌<◌, ◌≤◌, ◌+◌, inl, inr, List, length, get_or, Bool, true, false, not, nat_eq, Option, Some, IsTrue, refl, sym, ap, subst, ◌∙◌, arith}
use Rattle.std.specs.{List.slice_get, Option.IsSomeAnd}
use Rattle.std.proofs.lemmas.{Bool.cases_lt, Option.slice_get_within, Option.slice_get_read, Bool.Decides.nat_tests}
use Rattle.walrus_arena.specs.Arena.{get}
use Rattle.walrus_types.specs.declared.table.rec_group.RecGroup.{RecGroup}
use Rattle.walrus_ty.specs.{Types.ModuleType, Views.names}
use Rattle.walrus_types.specs.Table.{Table, IsOtherNamer, IsNamedInGroup}
use Rattle.walrus_types.proofs.Tables.{Places.IsHome, Places.group_answer, Search.not_both}

ne_of : (b : Bool) (n m : ℕ) → b ≡ not (nat_eq n m) → b ≡ true → n ≢ m
ne_of b n m is h = λ e. grind (arith, nat_tests, is, h, e)

same_of : (b : Bool) (n m : ℕ) → b ≡ not (nat_eq n m) → b ≡ false → n ≡ m
same_of b n m is h = grind (arith, nat_tests, is, h)

holds_of :
    (o : Option ModuleType) (ty : ModuleType) (id : ℕ) → o ≡ Some ty →
    IsSomeAnd o (λ x. names x id ≡ true) ↔ (names ty id ≡ true)
holds_of o ty id e = (
  λ h. subst (λ (q : Option ModuleType). IsSomeAnd q (λ x. names x id ≡ true)) e h,
  λ h. subst (λ (q : Option ModuleType). IsSomeAnd q (λ x. names x id ≡ true)) (sym e) h,
)

pub namer_test :
    (t : Table) (other id : ℕ) (ty : ModuleType) (b c : Bool) → get t.types.slots other ≡ Some ty →
    b ≡ not (nat_eq other id) → b ≡ true → c ≡ names ty id → IsTrue c ↔ IsOtherNamer t other id
namer_test t other id ty b c shown differ agree is = (
  λ h. (ne_of b other id differ agree, (holds_of (get t.types.slots other) ty id shown).1 (sym is ∙ h)),
  λ n. is ∙ (holds_of (get t.types.slots other) ty id shown).0 n.1,
)

pub self_test :
    (t : Table) (other id : ℕ) (b : Bool) → b ≡ not (nat_eq other id) → b ≡ false →
    IsTrue b ↔ IsOtherNamer t other id
self_test t other id b differ same = (
  λ h. absurd (not_both b h same),
  λ n.
      absurd (n.0 (same_of b other id differ same)),
)

-- none of the first so many members names the id
abbrev pub NoneNames : Table → List ℕ → ℕ → ℕ → Type 0
NoneNames t members id many = (u : ℕ) (j : ℕ) → u < many → slice_get members u ≡ Some j →
    IsOtherNamer t j id → ⊥

pub member_read :
    (members : List ℕ) (k other : ℕ) → k < length members → other ≡ get_or members k other →
    slice_get members k ≡ Some other
member_read members k other below is = slice_get_read members (length members) k other refl below is

some_same : (a b : ℕ) → Some a ≡ Some b → a ≡ b
some_same a b h = cc

pub none_more :
    (t : Table) (members : List ℕ) (id many other : ℕ) → NoneNames t members id many →
    slice_get members many ≡ Some other → (IsOtherNamer t other id → ⊥) →
    NoneNames t members id (many + 1)
none_more t members id many other none read no_namer u j low h namer = elim (cases_lt u many) [
  | inl w ↦ none u j w h namer
  | inr w ↦ (let e : u ≡ many = omega (arith, low, w) in let s : j ≡ other =
      some_same j other (sym h ∙ ap (slice_get members) e ∙ read) in
      no_namer (subst (λ (n : ℕ). IsOtherNamer t n id) s namer))
]

module _ (t : Table) (id at : ℕ) (g : RecGroup) (home : IsHome t id at g) (members : List ℕ)
    (are : members ≡ g.types) where
  abbrev IsNamedIn : Option RecGroup → Type 0
  IsNamedIn o = IsSomeAnd o (λ g. (u : ℕ) × (other : ℕ) × (slice_get g.types u ≡ Some other)
      × IsOtherNamer t other id)

  pub named_here : (u other : ℕ) → slice_get members u ≡ Some other → IsOtherNamer t other id →
      IsNamedInGroup t id
  named_here u other read namer = subst IsNamedIn (group_answer t id at g home) (
    u,
    other,
    ap (λ (xs : List ℕ). slice_get xs u) (sym are) ∙ read,
    namer,
  )

  pub named_nowhere : (many : ℕ) → length members ≤ many → NoneNames t members id many → IsNamedInGroup t id →
      ⊥
  named_nowhere many all none named =
      let n : IsNamedIn (Some g) = subst IsNamedIn (sym (group_answer t id at g home)) named in
      let read : slice_get members n.0 ≡ Some n.1 = ap (λ (xs : List ℕ). slice_get xs n.0) are ∙ n.2 in
      none n.0 n.1 (omega (arith, slice_get_within members n.0 n.1 read, all)) read n.3
