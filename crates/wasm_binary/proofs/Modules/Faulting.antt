-- Where the reading of a module stops, no module goes on with the byte there, and one does with the bytes
-- before it.
use Rattle.std.proofs.Common.{◌≡◌, ℕ, ◌^◌, ◌+◌, ◌-◌, ◌<◌, ◌≤◌, nat_eq, nat_lt, nat_le, false, eqb-true, eq-eqb, inl, inr, List, [], ◌∷◌, ◌++◌, length, take, Err, refl, sym, ap, subst, ◌∙◌, arith, append_assoc, append-nil, length-append}
use Rattle.std.proofs.Math.ListN.{replicate}
use Rattle.std.proofs.lemmas.Bool.{leb-false}
use Rattle.std.proofs.lemmas.List.{append_cancel_left, map-append, length-replicate}
use Rattle.wasm_binary.specs.declared.error.Expected.{Expected}
use Rattle.wasm_binary.specs.declared.error.Expected.TheVariants as expected
use Rattle.wasm_binary.specs.declared.error.Reason.{Reason}
use Rattle.wasm_binary.specs.declared.error.Reason.TheVariants as reason
use Rattle.wasm_binary.specs.declared.error.Fault.{Fault}
use Rattle.wasm_binary.specs.Faults.{GoesOn}
use Rattle.wasm_binary.specs.Grammar.{AreItems, none}
use Rattle.wasm_binary.specs.Leb128.{IsU32}
use Rattle.wasm_binary.specs.Leb128.IsInteger.{last as byte_last}
use Rattle.wasm_binary.specs.Modules.{Section, IsSection, section, ids, AreInOrder, no_more, magic, version, header, IsModule, framed, IsNoModule, BeginsNoModule}
use Rattle.wasm_binary.specs.Steps.Reading.{u32_at, IsSeenAtOnce}
use Rattle.wasm_binary.specs.Steps.Framing.{HasPassed, literal_at, header_at, place_of, place_after, id_at, content_at, section_at}
use Rattle.wasm_binary.proofs.Basics.{not_both, which}
use Rattle.wasm_binary.proofs.Integers.{u32_sound}
use Rattle.wasm_binary.proofs.Faults.{failed, DoesNotRead, left_is, step_err, Tail, tail_bytes, Fills, IsExpected, Expects, expects_said, expected_here, some_alike, Stops, HaltsBy, place_within, cut_there, stuck_there, within, inside, ends_with, at_end, at_first, pair_halts}
use Rattle.wasm_binary.proofs.ListFaults.{u32_halts}
use Rattle.wasm_binary.proofs.Lists.{one_item, joined}
use Rattle.wasm_binary.proofs.Modules.Orders.{order_on}
use Rattle.wasm_binary.proofs.Modules.Readings.{IsLiteral, literal_sound, literal_complete, IsHeader, both, header_complete, IsNextId, id_sound, id_complete, IsContent, IsNextSection, next_section}
use Rattle.wasm_binary.proofs.Modules.Passed.{AreBehind, begins}

-- ---- the header

literal_halts : (e : Expected) (text : List ℕ) → HaltsBy Expects (IsLiteral text) (literal_at e text)
unfolding literal_at
literal_halts e [] bytes f h = absurd cc
literal_halts e (k ∷ text) [] f h =
    at_end expects_said (IsLiteral (k ∷ text)) (literal_at e (k ∷ text)) (k ∷ text) tt refl e f h
literal_halts e (k ∷ text) (b ∷ bytes) f h =
    which (nat_eq b k) _ _ (failed f) h
    (λ q h1. inside (IsLiteral text) (IsLiteral (k ∷ text)) (k ∷ []) (λ u. u)
    (λ t u i. ap (λ (v : List ℕ). k ∷ v) i) bytes (b ∷ bytes) f (ap (λ c. c ∷ bytes) (eqb-true b k q))
    (λ xs first n. (n.0, rw (eq-eqb k k refl) n.1)) (literal_halts e text bytes f h1))
    (λ q h1. at_first expects_said (IsLiteral (k ∷ text)) (literal_at e (k ∷ text)) (k ∷ text) tt refl e b
    (λ xs. rw q refl) bytes f h)

header_halts : HaltsBy Expects IsHeader header_at
unfolding header_at
header_halts bytes f e =
    pair_halts (IsLiteral magic) (IsLiteral version) IsHeader (literal_at expected.Magic magic)
    (literal_at expected.Version version) both (literal_sound expected.Magic magic)
    (literal_complete expected.Magic magic) (literal_halts expected.Magic magic)
    (literal_halts expected.Version version) version tt refl
    (λ s t a b h k. ap (λ (u : List ℕ). u ++ t) h ∙ ap (λ (u : List ℕ). magic ++ u) k) bytes f e

-- ---- sections

id_halts : (before : ℕ) → HaltsBy Expects (IsNextId before) (id_at before)
unfolding id_at
id_halts before [] f e =
    at_end expects_said (IsNextId before) (id_at before) (0 ∷ []) 0 (refl, inl refl) expected.SectionId f e
id_halts before (b ∷ bytes) f e =
    which (nat_eq b 0) _ _ (failed f) e (λ h q. absurd cc) (λ h q.
    which (nat_eq (place_of b) 0) _ _ (failed f) q
    (λ h1 q1. at_first expects_said (IsNextId before) (id_at before) (0 ∷ []) 0 (refl, inl refl)
    expected.SectionId b (λ xs. rw (h, h1) refl) bytes f e)
    (λ h1 q1. which (nat_lt before (place_of b)) _ _ (failed f) q1 (λ h2 q2. absurd cc)
    (λ h2 q2. at_first expects_said (IsNextId before) (id_at before) (0 ∷ []) 0 (refl, inl refl)
    expected.LaterSection b (λ xs. rw (h, h1, h2) refl) bytes f e)))

-- a content of this size
zeros_content : (size : List ℕ) (n : ℕ) → IsU32 size n → IsContent (size ++ replicate n 0) (replicate n 0)
zeros_content size n h = (size, subst (λ k. IsU32 size k) (sym (length-replicate n 0)) h, refl)

-- a content that is cut off
cut_content : (size rest : List ℕ) (n : ℕ) → IsU32 size n → length rest ≤ n
    → IsContent ((size ++ rest) ++ replicate (n - length rest) 0) (rest ++ replicate (n - length rest) 0)
cut_content size rest n h le =
    let zeros : List ℕ = replicate (n - length rest) 0 in
    let long : length (rest ++ zeros) ≡ n = omega (
      arith,
      length-append rest zeros,
      length-replicate {A = ℕ} (n - length rest) 0,
      le,
    ) in
    (size, subst (λ k. IsU32 size k) (sym long) h, append_assoc size rest zeros)

content_halts : HaltsBy Expects IsContent content_at
unfolding content_at
content_halts bytes f e =
    step_err (u32_at bytes) _ f e
    (λ h. within IsU32 IsContent [] (λ n. replicate n 0) (λ n. replicate n 0) zeros_content bytes bytes f refl
    (λ xs first n. (n.0, rw n.1 refl)) (u32_halts expects_said bytes f h))
    (λ n rest h q. which (nat_le n (length rest)) _ _ (failed f) q (λ h1 q1. absurd cc) (λ h1 q1.
    let t = u32_sound bytes n rest h in
    let zeros : List ℕ = replicate (n - length rest) 0 in
    let le : length rest ≤ n = omega (arith, leb-false n (length rest) h1) in
    ends_with expects_said IsContent (DoesNotRead content_at) bytes f bytes [] zeros (rest ++ zeros)
    (sym (append-nil bytes)) (left_is [] (reason.Expected expected.Content) f q1)
    (expected_here [] expected.Content f q1)
    (subst (λ (v : List ℕ). IsContent (v ++ zeros) (rest ++ zeros)) (sym t.parts)
    (cut_content t.text rest n t.is_text le))
    (λ other alike. absurd ((some_alike f.reason [] other alike).0 refl))))

empty_content : IsContent (0 ∷ []) []
empty_content = (0 ∷ [], byte_last (2 ^ 32) 0 (omega arith) (omega arith) (omega arith), refl)

section_halts : (before : ℕ) → HaltsBy Expects (IsNextSection before) (section_at before)
unfolding section_at
section_halts before bytes f e =
    pair_halts (IsNextId before) IsContent (IsNextSection before) (id_at before) content_at section
    (id_sound before) (id_complete before) (id_halts before) content_halts (0 ∷ []) [] empty_content
    (next_section before) bytes f e

-- ---- what a fault says of the bytes

pub record IsFaulty (bytes : List ℕ) (f : Fault) : Type 0 where
  pub refused : IsNoModule bytes
  pub place : f.left ≤ length bytes
  pub stuck : 0 < f.left → BeginsNoModule (take (length bytes - f.left + 1) bytes)
  pub begun : GoesOn IsModule (take (length bytes - f.left) bytes)

expected_seen : (r : Reason) → IsExpected r → IsSeenAtOnce r
expected_seen (reason.Expected e) h = tt
expected_seen (reason.NotHeld what) h = absurd h

faulty : (bytes : List ℕ) (f : Fault) → IsNoModule bytes → Stops Expects IsModule IsNoModule bytes f →
    IsFaulty bytes f
faulty bytes f refuted s =
    let front : List ℕ = s.prefix ++ tail_bytes s.tail in
    let empty : tail_bytes s.tail ≡ [] = ap tail_bytes s.says.0 in
    let filled : Fills s.tail [] = subst (λ (k : Tail). Fills k []) (sym s.says.0) refl in
    let begun : GoesOn IsModule front = subst (λ (u : List ℕ). GoesOn IsModule (s.prefix ++ u)) (sym empty)
    (s.goes_on [] filled) in
    record {
      refused = refuted;
      place = place_within bytes front s.left f.left s.parts s.place;
      stuck = λ lt. stuck_there IsNoModule bytes front s.left f.left f.reason s.parts s.place
          (expected_seen f.reason s.says.1) s.stuck lt;
      begun = subst (GoesOn IsModule) (sym (cut_there bytes front s.left f.left s.parts s.place).0) begun;
    }

abbrev pub ModuleParts : List ℕ → List Section → Type 0
ModuleParts bytes sections = (texts : List ℕ) × (bytes ≡ header ++ texts) × AreBehind 0 texts sections

pub module_parts : (bytes : List ℕ) (sections : List Section) → IsModule bytes sections →
    ModuleParts bytes sections
module_parts _ _ (framed texts sections h o) = (texts, refl, (h, o))

no_header : (bytes : List ℕ) → DoesNotRead header_at bytes → IsNoModule bytes
no_header bytes n sections h =
    let m = module_parts bytes sections h in
    not_both (header_at bytes) n.0 (tt, m.0) n.1 (ap header_at m.1 ∙ header_complete m.0)

pub header_faulty : (bytes : List ℕ) (f : Fault) → header_at bytes ≡ Err f → IsFaulty bytes f
header_faulty bytes f e =
    faulty bytes f (no_header bytes (f, e))
    (within IsHeader IsModule [] (λ u. []) (λ u. [])
    (λ t u h. subst (λ (v : List ℕ). IsModule (v ++ []) []) (sym h) (framed [] [] none (no_more 0))) bytes
    bytes f refl (λ xs first n. no_header xs n) (header_halts bytes f e))

no_section : (bytes rest : List ℕ) (last : ℕ) (state : HasPassed bytes rest last) (xs : List ℕ)
    → (xs ≡ [] → ⊥) → DoesNotRead (section_at last) xs → IsNoModule (header ++ (state.texts ++ xs))
no_section bytes rest last state xs some n sections h =
    let m = module_parts (header ++ (state.texts ++ xs)) sections h in
    let same : m.0 ≡ state.texts ++ xs = append_cancel_left header m.0 (state.texts ++ xs) (sym m.1) in
    let a = state.splits xs sections (subst (λ (u : List ℕ). AreItems IsSection u sections) same m.2.0)
    m.2.1 in
    elim (begins last xs a.0 a.1 a.2) [
      | inl e ↦ some e.0
      | inr b ↦ not_both (section_at last xs) n.0 (b.first, b.rest) n.1 b.reads
    ]

-- with one section more
with_section : (bytes rest : List ℕ) (last : ℕ) (p : HasPassed bytes rest last) (text : List ℕ)
    (s : Section) → IsNextSection last text s → IsModule ((header ++ p.texts) ++ text) (p.before ++ s ∷ [])
with_section bytes rest last p text s h =
    let ids-are : ids (p.before ++ s ∷ []) ≡ ids p.before ++ s.id ∷ [] =
    map-append (λ (k : Section). k.id) p.before (s ∷ []) in
    let order : AreInOrder 0 (ids (p.before ++ s ∷ [])) =
    subst (AreInOrder 0) (sym ids-are) (p.joins (s.id ∷ [])
    (order_on last s.id [] h.1 (no_more (place_after last s.id)))) in
    subst (λ (u : List ℕ). IsModule u (p.before ++ s ∷ [])) (sym (append_assoc header p.texts text))
    (framed (p.texts ++ text) (p.before ++ s ∷ [])
    (joined IsSection p.texts text p.before (s ∷ []) p.are (one_item IsSection text s h.0)) order)

some_first : (rest : List ℕ) → false ≡ nat_eq (length rest) 0 →
    (b : ℕ) × (others : List ℕ) × (rest ≡ b ∷ others)
some_first [] e = absurd cc
some_first (b ∷ rest) e = (b, rest, refl)

not_empty : (b : ℕ) (rest bytes : List ℕ) → bytes ≡ b ∷ rest → bytes ≡ [] → ⊥
not_empty b rest bytes e h = let k = sym e ∙ h in absurd cc

pub section_faulty : (bytes rest : List ℕ) (last : ℕ) (f : Fault) → HasPassed bytes rest last
    → false ≡ nat_eq (length rest) 0 → section_at last rest ≡ Err f → IsFaulty bytes f
section_faulty bytes rest last f p more e =
    let some = some_first rest more in
    let front : List ℕ = header ++ p.texts in
    let fails : (xs : List ℕ) → (xs ≡ [] → ⊥) → DoesNotRead (section_at last) xs → IsNoModule (front ++ xs) =
    λ xs some n. subst IsNoModule (sym (append_assoc header p.texts xs))
    (no_section bytes rest last p xs some n) in
    let whole : bytes ≡ front ++ rest = p.whole ∙ sym (append_assoc header p.texts rest) in
    faulty bytes f
    (subst IsNoModule (sym whole) (fails rest (not_empty some.0 some.1 rest some.2) (f, e)))
    (inside (IsNextSection last) IsModule front (λ s. p.before ++ s ∷ []) (with_section bytes rest last p)
    rest bytes f whole
    (λ xs first n.
    let k = first some.0 some.1 some.2 in fails xs (not_empty some.0 k.0 xs k.1) n)
    (section_halts last rest f e))
