-- Bytes have one section at most, as a module or as a text.
use Rattle.std.proofs.Common.{◌≡◌, ◌≢◌, ℕ, ◌+◌, ◌-◌, ◌<◌, List, [], ◌∷◌, ◌++◌, length, take, drop, All, refl, sym, ◌∙◌, ap, subst, arith}
use Rattle.std.specs.Prelude.{slice_range}
use Rattle.std.proofs.lemmas.List.{map-append}
use Rattle.std.proofs.lemmas.List.Elements.{All-head, All-same, All-drop}
use Rattle.std.proofs.Math.Seq.{take-append_seam, drop-append_seam}
use Rattle.walrus_ty.specs.declared.records.GroupAt.{GroupAt}
use Rattle.wasm_binary.specs.Grammar.{IsTypes}
use Rattle.wasm_binary.specs.Modules.{Section, section, ids, AreInOrder, no_more, custom, later, header, IsModule, framed, IsTypeSectionAt, IsOther, HasNoTypeSection}
use Rattle.wasm_binary.specs.ModuleSections.{HasTypes, in_section, without_section}
use Rattle.wasm_binary.specs.Steps.Framing.{place_of, place_after}
use Rattle.wasm_binary.proofs.Modules.Orders.{place_is, order_parts}
use Rattle.wasm_binary.proofs.Modules.Faulting.{module_parts}
use Rattle.wasm_binary.proofs.Modules.Uniqueness.{one_module, located_types}
use Rattle.wasm_binary.proofs.Sections as groups
use Rattle.walrus_text.specs.Words.{lines_of}
use Rattle.walrus_text.specs.Text.{section_lines}
use Rattle.walrus_text.proofs.Texts.Uniqueness as texts
use Rattle.sametypes.specs.Runs.{HasSection, in_module, in_text}

-- ---- a module has one type section at most

abbrev first_id : List ℕ → ℕ
first_id [] = 0
first_id (id ∷ others) = id

-- one for a list that is not empty
abbrev count : List ℕ → ℕ
count [] = 0
count (id ∷ others) = 1

abbrev later_ids : List ℕ → List ℕ
later_ids [] = []
later_ids (id ∷ others) = others

place_of_types : place_of 1 ≡ 1
unfolding place_of
place_of_types = refl

types_are_first : (last : ℕ) (all before after : List ℕ) → AreInOrder last all → all ≡ before ++ 1 ∷ after →
    last < 1
types_are_first last _ [] after (no_more _) e = let k : 0 ≡ 1 = ap first_id e in absurd (omega (arith, k))
types_are_first last _ (id ∷ before) after (no_more _) e = let k : 0 ≡ 1 = ap count e in
    absurd (omega (arith, k))
types_are_first last _ [] after (custom _ others h) e = let k : 0 ≡ 1 = ap first_id e in
    absurd (omega (arith, k))
types_are_first last _ (id ∷ before) after (custom _ others h) e =
    types_are_first last others before after h (ap later_ids e)
types_are_first last _ [] after (later _ id place others is lt h) e =
    let k : place ≡ 1 = sym (place_is id place is)
    ∙ (ap (λ (j : ℕ). place_of j) (ap first_id e) ∙ place_of_types) in
    omega (arith, k, lt)
types_are_first last _ (x ∷ before) after (later _ id place others is lt h) e =
    let k : place < 1 = types_are_first place others before after h (ap later_ids e) in
    omega (arith, k, lt)

not_after_types :
    (last : ℕ) (others before after : List Section) (content : List ℕ) →
    AreInOrder (place_after last 1) (ids others) → others ≢ before ++ section 1 content ∷ after
not_after_types last others before after content h e =
    let same : ids others ≡ ids before ++ 1 ∷ ids after = ap ids e
    ∙ map-append (λ (s : Section). s.id) before (section 1 content ∷ after) in
    let k : place_of 1 < 1 = types_are_first (place_after last 1) (ids others) (ids before) (ids after) h same
    in
    omega (arith, k, place_of_types)

abbrev first_section : List Section → Section
first_section [] = section 0 []
first_section (s ∷ others) = s

abbrev later_sections : List Section → List Section
later_sections [] = []
later_sections (s ∷ others) = others

one_content :
    (last : ℕ) (before after prefix back : List Section) (c d : List ℕ) →
    AreInOrder last (ids (before ++ section 1 c ∷ after)) →
    before ++ section 1 c ∷ after ≡ prefix ++ section 1 d ∷ back → c ≡ d
one_content last [] after [] back c d h e = ap (λ (l : List Section). (first_section l).content) e
one_content last [] after (s ∷ prefix) back c d h e =
    absurd (not_after_types last after prefix back d (order_parts last (1 ∷ ids after) h).1
    (ap later_sections e))
one_content last (s ∷ before) after [] back c d h e =
    let is : s.id ≡ 1 = ap (λ (l : List Section). (first_section l).id) e in
    let others : AreInOrder (place_after last 1) (ids (before ++ section 1 c ∷ after)) =
    subst (λ (k : ℕ). AreInOrder (place_after last k) (ids (before ++ section 1 c ∷ after))) is
    (order_parts last (s.id ∷ ids (before ++ section 1 c ∷ after)) h).1 in
    absurd (not_after_types last (before ++ section 1 c ∷ after) before after c others refl)
one_content last (s ∷ before) after (t ∷ prefix) back c d h e =
    one_content (place_after last s.id) before after prefix back c d
    (order_parts last (s.id ∷ ids (before ++ section 1 c ∷ after)) h).1 (ap later_sections e)

range_is :
    (bytes prefix content back : List ℕ) (start stop : ℕ) → bytes ≡ prefix ++ (content ++ back) →
    start ≡ length prefix → stop ≡ start + length content → slice_range bytes start stop ≡ content
range_is bytes prefix content back start stop parts starts stops =
    let len : stop - start ≡ length content = omega (arith, stops) in
    ap (λ (l : List ℕ). take (stop - start) (drop start l)) parts
    ∙ (ap (λ (k : ℕ). take (stop - start) (drop k (prefix ++ (content ++ back)))) starts
    ∙ (ap (λ (l : List ℕ). take (stop - start) l) (drop-append_seam prefix (content ++ back))
    ∙ (ap (λ (k : ℕ). take k (content ++ back)) len ∙ take-append_seam content back)))

range_is_content :
    (bytes : List ℕ) (start stop : ℕ) (t : IsTypeSectionAt bytes start stop) →
    slice_range bytes start stop ≡ t.content
range_is_content bytes start stop t =
    range_is bytes (t.prefix ++ 1 ∷ t.size) t.content t.back start stop t.parts t.starts t.stops

same_content :
    (bytes : List ℕ) (start stop from end : ℕ) (t : IsTypeSectionAt bytes start stop)
    (u : IsTypeSectionAt bytes from end) → t.content ≡ u.content
same_content bytes start stop from end t u =
    let m = located_types bytes start stop t in
    let n = located_types bytes from end u in
    let all = m.0 ++ section 1 t.content ∷ m.1 in
    let order = (module_parts bytes all m.2).2.1 in
    one_content 0 m.0 m.1 n.0 n.1 t.content u.content order
    (one_module bytes all (n.0 ++ section 1 u.content ∷ n.1) m.2 n.2)

not_without :
    (bytes : List ℕ) (start stop : ℕ) → IsTypeSectionAt bytes start stop →
    HasNoTypeSection bytes → ⊥
not_without bytes start stop t none =
    let m = located_types bytes start stop t in
    let types = section 1 t.content in
    let same = one_module bytes none.sections (m.0 ++ types ∷ m.1) none.is_module m.2 in
    let others = subst (λ (l : List Section). All IsOther l) same none.others in
    All-head IsOther types m.1 (All-same IsOther (types ∷ m.1) _ (sym (drop-append_seam m.0 (types ∷ m.1)))
    (All-drop IsOther (length m.0) _ others)) refl

one_module_section : (bytes : List ℕ) (a b : List GroupAt) → HasTypes bytes a → HasTypes bytes b → a ≡ b
one_module_section bytes _ _ (in_section start stop a t types) (in_section from end b u others) =
    groups.one_section u.content a b
    (subst (λ (c : List ℕ). IsTypes c a) (range_is_content bytes start stop t
    ∙ same_content bytes start stop from end t u) types)
    (subst (λ (c : List ℕ). IsTypes c b) (range_is_content bytes from end u) others)
one_module_section bytes _ _ (in_section start stop a t types) (without_section none) =
    absurd (not_without bytes start stop t none)
one_module_section bytes _ _ (without_section none) (in_section start stop b t types) =
    absurd (not_without bytes start stop t none)
one_module_section bytes _ _ (without_section none) (without_section other) = refl

-- ---- no bytes are both

pub no_module_is_a_text :
    (bytes : List ℕ) (sections : List Section) (groups : List GroupAt) → IsModule bytes sections →
    lines_of bytes ≢ section_lines groups
no_module_is_a_text _ _ groups (framed bytes sections items order) =
    texts.null_byte_first (drop 1 (header ++ bytes)) groups

no_types_are_a_text :
    (bytes : List ℕ) (a b : List GroupAt) → HasTypes bytes a → lines_of bytes ≢ section_lines b
no_types_are_a_text bytes _ b (in_section start stop a t types) =
    let m = located_types bytes start stop t in
    no_module_is_a_text bytes (m.0 ++ section 1 t.content ∷ m.1) b m.2
no_types_are_a_text bytes _ b (without_section none) =
    no_module_is_a_text bytes none.sections b none.is_module

pub one_section : (bytes : List ℕ) (a b : List GroupAt) → HasSection bytes a → HasSection bytes b → a ≡ b
one_section bytes a b (in_module h) (in_module k) = one_module_section bytes a b h k
one_section bytes a b (in_module h) (in_text k) = absurd (no_types_are_a_text bytes a b h k.lines)
one_section bytes a b (in_text h) (in_module k) = absurd (no_types_are_a_text bytes b a k h.lines)
one_section bytes a b (in_text h) (in_text k) = texts.one_section bytes a b h k
