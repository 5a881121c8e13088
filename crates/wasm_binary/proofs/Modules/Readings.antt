-- Header and sections: what is read has the text that stands there, and what has a text is read.
use Rattle.std.proofs.Common.{◌≡◌, ℕ, ◌≤◌, inl, inr, nat_eq, nat_lt, nat_le, cond, List, [], ◌∷◌, ◌++◌, length, take, drop, Ok, refl, sym, ap, subst, ◌∙◌, arith, append_assoc, length-append, length-take-le, take-append-drop, take_at, drop_at, eqb-true, eq-eqb, ne_eqb, ltb-true, lt-ltb, leb-true, le-leb}
use Rattle.std.proofs.lemmas.Bool.{eqb-false}
use Rattle.wasm_binary.specs.declared.error.Expected.{Expected}
use Rattle.wasm_binary.specs.declared.error.Expected.TheVariants as expected
use Rattle.wasm_binary.specs.declared.error.Reason.TheVariants as reason
use Rattle.wasm_binary.specs.Leb128.{IsU32}
use Rattle.wasm_binary.specs.Modules.{Section, section, IsSection, sized, magic, version, header}
use Rattle.wasm_binary.specs.Steps.Reading.{u32_at}
use Rattle.wasm_binary.specs.Steps.Framing.{literal_at, header_at, place_of, id_at, content_at, section_at}
use Rattle.wasm_binary.proofs.Basics.{Takes, IsSound, IsComplete, bind_ok, guard_ok, done, value_is, rest_is, which, pair_takes, pair_again}
use Rattle.wasm_binary.proofs.Integers.{u32_sound, u32_complete}
use Rattle.wasm_binary.proofs.Faults.{failed, stop}
use Rattle.wasm_binary.proofs.Modules.Orders.{Follows, place_from, place_is, not_custom}

-- ---- the header

abbrev pub IsLiteral : List ℕ → List ℕ → Unit {0} → Type 0
IsLiteral text bytes u = bytes ≡ text

pub literal_sound : (e : Expected) (text : List ℕ) → IsSound (IsLiteral text) (literal_at e text)
unfolding literal_at
literal_sound e [] bytes v rest h = record { text = []; is_text = refl; parts = rest_is tt v bytes rest h }
literal_sound e (k ∷ text) [] v rest h = absurd cc
literal_sound e (k ∷ text) (b ∷ bytes) v rest h =
    let g = guard_ok (nat_eq b k) (literal_at e text bytes) _ (v, rest) h in
    let t = literal_sound e text bytes v rest g.1 in
    record {
      text = b ∷ t.text;
      is_text = ap (λ (u : List ℕ). b ∷ u) t.is_text ∙ ap (λ j. j ∷ text) (eqb-true b k g.0);
      parts = ap (λ (u : List ℕ). b ∷ u) t.parts;
    }

literal_again : (e : Expected) (text rest : List ℕ) → literal_at e text (text ++ rest) ≡ Ok (tt, rest)
unfolding literal_at
literal_again e [] rest = refl
literal_again e (k ∷ text) rest = rw (eq-eqb k k refl) (literal_again e text rest)

pub literal_complete : (e : Expected) (text : List ℕ) → IsComplete (IsLiteral text) (literal_at e text)
literal_complete e text bytes v rest h = ap (λ (u : List ℕ). literal_at e text (u ++ rest)) h ∙ literal_again
    e text rest

abbrev pub IsHeader : List ℕ → Unit {0} → Type 0
IsHeader bytes u = bytes ≡ header

abbrev pub both : Unit {0} → Unit {0} → Unit {0}
both u v = tt

pub header_sound : IsSound IsHeader header_at
unfolding header_at
header_sound bytes v rest e =
    pair_takes (IsLiteral magic) (IsLiteral version) IsHeader (literal_at expected.Magic magic)
    (literal_at expected.Version version) both []
    (literal_sound expected.Magic magic) (literal_sound expected.Version version)
    (λ s t a b h k. ap (λ (u : List ℕ). u ++ t) h ∙ ap (λ (u : List ℕ). magic ++ u) k) bytes v rest e

pub header_complete : (rest : List ℕ) → header_at (header ++ rest) ≡ Ok (tt, rest)
unfolding header_at
header_complete rest =
    pair_again (IsLiteral magic) (IsLiteral version) (literal_at expected.Magic magic)
    (literal_at expected.Version version) both
    (literal_complete expected.Magic magic) (literal_complete expected.Version version) magic version tt tt
    rest refl refl

-- ---- ids

abbrev pub IsNextId : ℕ → List ℕ → ℕ → Type 0
IsNextId last text id = (text ≡ id ∷ []) × Follows last id

id_takes : (last b : ℕ) (bytes : List ℕ) (v : ℕ) (rest : List ℕ) → Follows last b →
    done b bytes ≡ done v rest → Takes (IsNextId last) (b ∷ bytes) v rest
id_takes last b bytes v rest f e =
    record {
      text = b ∷ [];
      is_text = subst (λ k. IsNextId last (b ∷ []) k) (value_is b v bytes rest e) (refl, f);
      parts = ap (λ (u : List ℕ). b ∷ u) (rest_is b v bytes rest e);
    }

pub id_sound : (last : ℕ) → IsSound (IsNextId last) (id_at last)
unfolding id_at
id_sound last [] v rest e = absurd cc
id_sound last (b ∷ bytes) v rest e =
    which (nat_eq b 0) _ _ (Ok (v, rest)) e
    (λ h q. id_takes last b bytes v rest (inl (eqb-true b 0 h)) q)
    (λ h q. which (nat_eq (place_of b) 0) _ _ (Ok (v, rest)) q (λ h1 q1. absurd cc) (λ h1 q1.
    which (nat_lt last (place_of b)) _ _ (Ok (v, rest)) q1
    (λ h2 q2. id_takes last b bytes v rest (inr (
      place_of b,
      place_from b (place_of b) refl (eqb-false (place_of b) 0 h1),
      ltb-true last (place_of b) h2,
    )) q2)
    (λ h2 q2. absurd cc)))

id_again : (last id : ℕ) (rest : List ℕ) → Follows last id → id_at last (id ∷ rest) ≡ Ok (id, rest)
unfolding id_at
id_again last id rest (inl e) = rw (eq-eqb id 0 e) refl
id_again last id rest (inr f) =
    rw (
      not_custom id f.0 f.1,
      place_is id f.0 f.1,
      ne_eqb f.0 0 (λ q. omega (arith, q, f.2)),
      lt-ltb last f.0 f.2,
    ) refl

pub id_complete : (last : ℕ) → IsComplete (IsNextId last) (id_at last)
id_complete last text id rest h = ap (λ (u : List ℕ). id_at last (u ++ rest)) h.0 ∙ id_again last id rest h.1

-- ---- contents

abbrev pub IsContent : List ℕ → List ℕ → Type 0
IsContent text content = (size : List ℕ) × IsU32 size (length content) × (text ≡ size ++ content)

content_sound : IsSound IsContent content_at
unfolding content_at
content_sound bytes v rest e =
    let a = bind_ok (u32_at bytes) (λ n. cond (nat_le n.0 (length n.1)) (done (take n.0 n.1) (drop n.0 n.1))
    (failed (stop [] (reason.Expected expected.Content)))) (v, rest) e in
    let n = a.0.0 in
    let r = a.0.1 in
    let g = guard_ok (nat_le n (length r)) (done (take n r) (drop n r))
    (stop [] (reason.Expected expected.Content)) (v, rest) a.2 in
    let t = u32_sound bytes n r a.1 in
    let v-is : take n r ≡ v = value_is (take n r) v (drop n r) rest g.1 in
    let rest-is : drop n r ≡ rest = rest_is (take n r) v (drop n r) rest g.1 in
    let long : length v ≡ n = ap (λ (u : List ℕ). length u) (sym v-is)
    ∙ length-take-le n r (leb-true n (length r) g.0) in
    let again : r ≡ v ++ rest = sym (take-append-drop n r) ∙ ap (λ (u : List ℕ). u ++ drop n r) v-is
    ∙ ap (λ (u : List ℕ). v ++ u) rest-is in
    record {
      text = t.text ++ v;
      is_text = (t.text, subst (λ k. IsU32 t.text k) (sym long) t.is_text, refl);
      parts = t.parts ∙ ap (λ (u : List ℕ). t.text ++ u) again ∙ sym (append_assoc t.text v rest);
    }

content_again : (size content rest : List ℕ) → IsU32 size (length content) →
    content_at (size ++ (content ++ rest)) ≡ Ok (content, rest)
unfolding content_at
content_again size content rest h =
    let fits : length content ≤ length (content ++ rest) = omega (arith, length-append content rest) in
    rw (
      u32_complete size (length content) (content ++ rest) h,
      le-leb (length content) (length (content ++ rest)) fits,
      take_at content rest (length content) refl,
      drop_at content rest (length content) refl,
    ) refl

content_complete : IsComplete IsContent content_at
content_complete text content rest h =
    ap (λ (u : List ℕ). content_at (u ++ rest)) h.2 ∙ ap content_at (append_assoc h.0 content rest)
    ∙ content_again h.0 content rest h.1

-- ---- sections

abbrev pub IsNextSection : ℕ → List ℕ → Section → Type 0
IsNextSection last text s = IsSection text s × Follows last s.id

pub next_section : (last : ℕ) (s t : List ℕ) (id : ℕ) (content : List ℕ) → IsNextId last s id →
    IsContent t content → IsNextSection last (s ++ t) (section id content)
next_section last s t id content h k =
    let text-is : id ∷ (k.0 ++ content) ≡ s ++ t =
    sym (ap (λ (u : List ℕ). u ++ t) h.0 ∙ ap (λ (u : List ℕ). id ∷ u) k.2) in
    (subst (λ u. IsSection u (section id content)) text-is (sized id k.0 content k.1), h.1)

pub section_sound : (last : ℕ) → IsSound (IsNextSection last) (section_at last)
unfolding section_at
section_sound last bytes v rest e =
    pair_takes (IsNextId last) IsContent (IsNextSection last) (id_at last) content_at section []
    (id_sound last) content_sound (next_section last) bytes v rest e

section_again : (last : ℕ) (text : List ℕ) (s : Section) (rest : List ℕ) → IsSection text s →
    Follows last s.id → section_at last (text ++ rest) ≡ Ok (s, rest)
unfolding section_at
section_again last _ _ rest (sized id size content h) f =
    pair_again (IsNextId last) IsContent (id_at last) content_at section (id_complete last) content_complete
    (id ∷ []) (size ++ content) id content rest (refl, f) (size, h, refl)

pub section_complete : (last : ℕ) → IsComplete (IsNextSection last) (section_at last)
section_complete last text s rest h = section_again last text s rest h.0 h.1
