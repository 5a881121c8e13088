-- Definitions, groups and sections: what is read has the text that stands there, and what has a
-- text is read.
use Rattle.std.proofs.Common.{◌≡◌, ℕ, ◌≤◌, Bool, true, false, cond, nat_eq, eqb-true, List, [], ◌∷◌, ◌++◌, length, Option, Some, None, Ok, refl, sym, ap, subst, ◌∙◌, append_assoc, append-nil, arith, ne_eqb}
use Rattle.std.proofs.lemmas.List.{nil_from_length}
use Rattle.walrus_ty.specs.Definition.{supertype_names}
use Rattle.walrus_ty.specs.declared.records.CompAt.{CompAt}
use Rattle.walrus_ty.specs.declared.records.EntryAt.{EntryAt}
use Rattle.walrus_ty.specs.declared.records.GroupAt.{GroupAt}
use Rattle.walrus_ty.specs.declared.records.GroupAt.TheVariants as group
use Rattle.wasm_binary.specs.Leb128.{IsU32}
use Rattle.wasm_binary.specs.Grammar.{AreItems, none, next, IsVec, counted, IsCompType, sub_code, IsSubType, declared, plain, IsRecType, rec, single, IsTypes}
use Rattle.wasm_binary.specs.declared.error.Expected.TheVariants as expected
use Rattle.wasm_binary.specs.declared.error.NotHeld.TheVariants as held
use Rattle.wasm_binary.specs.Steps.Reading.{◌>>=◌, expected_error, not_held_error, u32_at, vec_at, comp_at, supertype_at, declared_at, entry_at, group_at, types_at}
use Rattle.wasm_binary.proofs.Basics.{Reading, Takes, IsSound, IsComplete, bind_ok, guard_ok, value_is, rest_is, branch, map_takes, pair_takes, pair_again}
use Rattle.wasm_binary.proofs.Integers.{u32_sound, u32_complete}
use Rattle.wasm_binary.proofs.Lists.{vec_sound, vec_complete}
use Rattle.wasm_binary.proofs.Values.{Begins, begins_with, again_from}
use Rattle.wasm_binary.proofs.Composites.{comp_sound, comp_complete, comp_begins}

-- ---- supertypes

abbrev pub IsSupertype : List ℕ → Option ℕ → Type 0
IsSupertype text s = IsVec IsU32 text (supertype_names s)

-- the reading behind the count
abbrev counted_at : List ℕ → ℕ → List ℕ → Reading (Option ℕ)
counted_at bytes n rest =
    cond (nat_eq n 0) (Ok (None, rest))
    (cond (nat_eq n 1) (u32_at rest >>= (λ k. Ok (Some k.0, k.1))) (not_held_error bytes held.Supertypes))

-- the names behind a count
abbrev IsCounted : ℕ → List ℕ → Option ℕ → Type 0
IsCounted n text s = AreItems IsU32 text (supertype_names s) × (n ≡ length (supertype_names s))

counted_takes : (bytes : List ℕ) (n : ℕ) (behind : List ℕ) (v : Option ℕ) (rest : List ℕ) →
    counted_at bytes n behind ≡ Ok (v, rest) → Takes (IsCounted n) behind v rest
counted_takes bytes n behind v rest e =
    branch (λ k. Takes (IsCounted k) behind v rest) n 0 _ _ (Ok (v, rest)) e
    (λ q. record {
      text = [];
      is_text = subst (λ s. IsCounted 0 [] s) (value_is None v behind rest q) (none, refl);
      parts = rest_is None v behind rest q;
    })
    (λ q. branch (λ k. Takes (IsCounted k) behind v rest) n 1 _ _ (Ok (v, rest)) q
    (map_takes IsU32 (IsCounted 1) u32_at (λ k. Some k) [] u32_sound
    (λ t a h. (
      subst (λ (u : List ℕ). AreItems IsU32 u (a ∷ [])) (append-nil t) (next t [] a [] h none),
      refl,
    )) behind v rest)
    (λ h. absurd cc))

pub supertype_sound : IsSound IsSupertype supertype_at
unfolding supertype_at
supertype_sound bytes v rest e =
    let a = bind_ok (u32_at bytes) (λ n. counted_at bytes n.0 n.1) (v, rest) e in
    let s = u32_sound bytes a.0.0 a.0.1 a.1 in
    let t = counted_takes bytes a.0.0 a.0.1 v rest a.2 in
    record {
      text = s.text ++ t.text;
      is_text = counted s.text t.text (supertype_names v) (subst (λ k. IsU32 s.text k) t.is_text.1 s.is_text)
          t.is_text.0;
      parts = s.parts ∙ ap (λ (u : List ℕ). s.text ++ u) t.parts ∙ sym (append_assoc s.text t.text rest);
    }

no_item : (text : List ℕ) (items : List ℕ) → items ≡ [] → AreItems IsU32 text items → text ≡ []
no_item _ _ is none = refl
no_item _ _ is (next text others item items h hs) = absurd cc

-- what was read of one item is that item
one_item : (text : List ℕ) (items : List ℕ) (k : ℕ) (rest : List ℕ) → items ≡ k ∷ [] →
    AreItems IsU32 text items → u32_at (text ++ rest) ≡ Ok (k, rest)
one_item _ _ k rest is none = absurd cc
one_item _ _ k rest is (next text others item items h hs) =
    let first : item ≡ k = ap (elim [ [] ↦ k | x ∷ xs ↦ x ]) is in
    let last : items ≡ [] = ap (elim [ [] ↦ [] | x ∷ xs ↦ xs ]) is in
    let empty : others ≡ [] = no_item others items last hs in
    rw (empty, append-nil text, ← first) (u32_complete text item rest h)

supertype_again : (count texts items : List ℕ) (v : Option ℕ) (rest : List ℕ) → items ≡ supertype_names v →
    IsU32 count (length items) → AreItems IsU32 texts items →
    supertype_at ((count ++ texts) ++ rest) ≡ Ok (v, rest)
unfolding supertype_at
supertype_again count texts items None rest is h hs =
    let many : length items ≡ 0 = ap (λ (u : List ℕ). length u) is in
    let empty : texts ≡ [] = no_item texts items is hs in
    rw (append_assoc count texts rest, u32_complete count (length items) (texts ++ rest) h, many, empty) refl
supertype_again count texts items (Some k) rest is h hs =
    let many : length items ≡ 1 = ap (λ (u : List ℕ). length u) is in
    rw (
      append_assoc count texts rest,
      u32_complete count (length items) (texts ++ rest) h,
      many,
      one_item texts items k rest is hs,
    ) refl

supertype_counted : (text items : List ℕ) (v : Option ℕ) (rest : List ℕ) → items ≡ supertype_names v →
    IsVec IsU32 text items → supertype_at (text ++ rest) ≡ Ok (v, rest)
supertype_counted _ _ v rest is (counted count texts items h hs) = supertype_again
    count texts items v rest is h hs

pub supertype_complete : IsComplete IsSupertype supertype_at
supertype_complete text v rest h = supertype_counted text (supertype_names v) v rest refl h

-- ---- definitions

abbrev made_entry : Bool → Option ℕ → CompAt → EntryAt
made_entry is_final s c = record { comp = c; is_final = is_final; supertype = s }

declared_takes : (is_final : Bool) (bytes : List ℕ) (v : EntryAt) (rest : List ℕ) →
    declared_at is_final bytes ≡ Ok (v, rest) → Takes IsSubType (sub_code is_final ∷ bytes) v rest
unfolding declared_at
declared_takes is_final bytes v rest e =
    pair_takes IsSupertype IsCompType IsSubType supertype_at comp_at (made_entry is_final)
    (sub_code is_final ∷ []) supertype_sound comp_sound
    (λ s t a b h k. declared s t is_final a b h k) bytes v rest e

declared_again : (is_final : Bool) (s t : List ℕ) (v : Option ℕ) (c : CompAt) (rest : List ℕ) →
    IsSupertype s v → IsCompType t c → declared_at is_final ((s ++ t) ++ rest) ≡ Ok (
      made_entry is_final v c,
      rest,
    )
unfolding declared_at
declared_again is_final s t v c rest h k =
    pair_again IsSupertype IsCompType supertype_at comp_at (made_entry is_final) supertype_complete
    comp_complete s t v c rest h k

pub entry_sound : IsSound IsSubType entry_at
unfolding entry_at
entry_sound [] v rest e = absurd cc
entry_sound (b ∷ bytes) v rest e =
    let P : ℕ → Type 0 = λ k. Takes IsSubType (k ∷ bytes) v rest in
    branch P b 0x50 _ _ (Ok (v, rest)) e (declared_takes false bytes v rest) (λ e1.
    branch P b 0x4F _ _ (Ok (v, rest)) e1 (declared_takes true bytes v rest)
    (map_takes IsCompType IsSubType comp_at (λ c. made_entry true None c) [] comp_sound (λ t a h. plain t a h)
    (b ∷ bytes) v rest))

plain_reads : (c : CompAt) (rest : List ℕ) (b : ℕ) (bytes : List ℕ) → 0x5E ≤ b → b ≤ 0x60 →
    comp_at (b ∷ bytes) ≡ Ok (c, rest) → entry_at (b ∷ bytes) ≡ Ok (made_entry true None c, rest)
unfolding entry_at
plain_reads c rest b bytes from to e =
    rw (ne_eqb b 0x50 (λ q. omega (arith, q, from)), ne_eqb b 0x4F (λ q. omega (arith, q, from)), e) refl

pub entry_complete : IsComplete IsSubType entry_at
unfolding entry_at
entry_complete _ _ rest (declared s t true v c h k) = declared_again true s t v c rest h k
entry_complete _ _ rest (declared s t false v c h k) = declared_again false s t v c rest h k
entry_complete _ _ rest (plain text c h) =
    again_from comp_at entry_at c (made_entry true None c) rest (comp_begins text c h)
    (comp_complete text c rest h) (plain_reads c rest)

entry_begins : (text : List ℕ) (e : EntryAt) → IsSubType text e → Begins text 0x4F 0x60
entry_begins _ _ (declared s t true v c h k) =
    begins_with 0x4F (s ++ t) (omega arith) (omega arith)
entry_begins _ _ (declared s t false v c h k) =
    begins_with 0x50 (s ++ t) (omega arith) (omega arith)
entry_begins _ _ (plain text c h) =
    let b = comp_begins text c h in
    record { first = b.first; others = b.others; is = b.is; from = omega (arith, b.from); to = b.to }

-- ---- groups

abbrev IsSubs : List ℕ → List EntryAt → Type 0
IsSubs = IsVec IsSubType

pub group_sound : IsSound IsRecType group_at
unfolding group_at
group_sound [] v rest e = absurd cc
group_sound (b ∷ bytes) v rest e =
    branch (λ k. Takes IsRecType (k ∷ bytes) v rest) b 0x4E _ _ (Ok (v, rest)) e
    (map_takes IsSubs IsRecType (vec_at entry_at) (λ es. group.Rec es) (0x4E ∷ [])
    (vec_sound IsSubType entry_at entry_sound) (λ t a h. rec t a h) bytes v rest)
    (map_takes IsSubType IsRecType entry_at (λ k. group.Single k) [] entry_sound (λ t a h. single t a h)
    (b ∷ bytes) v rest)

single_reads : (e : EntryAt) (rest : List ℕ) (b : ℕ) (bytes : List ℕ) → 0x4F ≤ b → b ≤ 0x60 →
    entry_at (b ∷ bytes) ≡ Ok (e, rest) → group_at (b ∷ bytes) ≡ Ok (group.Single e, rest)
unfolding group_at
single_reads e rest b bytes from to h = rw (ne_eqb b 0x4E (λ q. omega (arith, q, from)), h) refl

pub group_complete : IsComplete IsRecType group_at
unfolding group_at
group_complete _ _ rest (rec text es h) = rw (vec_complete IsSubType entry_at entry_complete text es rest h)
    refl
group_complete _ _ rest (single text e h) =
    again_from entry_at group_at e (group.Single e) rest (entry_begins text e h)
    (entry_complete text e rest h) (single_reads e rest)

-- ---- sections

pub types_take : (bytes : List ℕ) (groups : List GroupAt) → types_at bytes ≡ Ok groups → IsTypes bytes groups
unfolding types_at
types_take bytes groups e =
    let a = bind_ok (vec_at group_at bytes) (λ gs.
    cond (nat_eq (length gs.1) 0) (Ok gs.0) (expected_error gs.1 expected.End)) groups e in
    let g = guard_ok (nat_eq (length a.0.1) 0) (Ok a.0.0) _ groups a.2 in
    let t = vec_sound IsRecType group_at group_sound bytes a.0.0 a.0.1 a.1 in
    let nothing : a.0.1 ≡ [] = nil_from_length a.0.1 (eqb-true _ _ g.0) in
    let whole : bytes ≡ t.text = t.parts ∙ ap (λ (r : List ℕ). t.text ++ r) nothing ∙ append-nil t.text in
    let same : a.0.0 ≡ groups = let k = g.1 in cc in
    rw whole (subst (λ gs. IsTypes t.text gs) same t.is_text)

pub types_again : (bytes : List ℕ) (groups : List GroupAt) → IsTypes bytes groups → types_at bytes ≡ Ok groups
unfolding types_at
types_again bytes groups h =
    let read : vec_at group_at bytes ≡ Ok (groups, []) = ap (vec_at group_at) (sym (append-nil bytes))
    ∙ vec_complete IsRecType group_at group_complete bytes groups [] h in
    rw read refl
