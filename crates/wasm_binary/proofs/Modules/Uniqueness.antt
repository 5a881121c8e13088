-- Bytes are a module of one list of sections, the type section among them.
use Rattle.std.proofs.Common.{◌≡◌, ℕ, inl, inr, List, [], ◌∷◌, ◌++◌, refl, sym, ap, subst, ◌∙◌, append_assoc}
use Rattle.std.proofs.lemmas.List.{map-append, append_cancel_left}
use Rattle.wasm_binary.specs.Grammar.{AreItems, none, next}
use Rattle.wasm_binary.specs.Modules.{Section, section, ids, IsSection, sized, AreInOrder, header, IsModule, framed, AreAroundTypes, around, IsTypeSectionAt}
use Rattle.wasm_binary.specs.Steps.Framing.{place_after}
use Rattle.wasm_binary.proofs.Basics.{value_is, rest_is}
use Rattle.wasm_binary.proofs.Modules.Orders.{order_parts}
use Rattle.wasm_binary.proofs.Modules.Readings.{section_complete}
use Rattle.wasm_binary.proofs.Lists.{joined}
use Rattle.wasm_binary.proofs.Modules.Passed.{AreBehind, begins, nothing_reads}
use Rattle.wasm_binary.proofs.Modules.Faulting.{module_parts}

same_sections : (last : ℕ) (bytes : List ℕ) (a b : List Section) → AreItems IsSection bytes a →
    AreInOrder last (ids a) → AreItems IsSection bytes b → AreInOrder last (ids b) → a ≡ b
same_sections last _ _ b none o h p =
    elim (begins last [] b h p) [
      | inl e ↦ sym e.1
      | inr k ↦ absurd (nothing_reads last [] k.first k.rest refl k.reads)
    ]
same_sections last _ _ b (next text others s sections g gs) o h p =
    let parts = order_parts last (s.id ∷ ids sections) o in
    let reads = section_complete last text s others (g, parts.0) in
    elim (begins last (text ++ others) b h p) [
      | inl e ↦ absurd (nothing_reads last (text ++ others) s others e.0 reads)
      | inr k ↦
          let same = sym k.reads ∙ reads in
          let first-is : k.first ≡ s = value_is k.first s k.rest others same in
          let rest-is : k.rest ≡ others = rest_is k.first s k.rest others same in
          let behind : AreBehind (place_after last s.id) others k.others =
          subst (λ (u : List ℕ). AreBehind (place_after last s.id) u k.others) rest-is
          (subst (λ (q : Section). AreBehind (place_after last q.id) k.rest k.others) first-is k.behind) in
          let tails = same_sections (place_after last s.id) others sections k.others gs parts.1 behind.0
          behind.1 in
          ap (λ (u : List Section). s ∷ u) tails ∙ ap (λ q. q ∷ k.others) (sym first-is) ∙ sym k.all_are
    ]

pub one_module : (bytes : List ℕ) (a b : List Section) → IsModule bytes a → IsModule bytes b → a ≡ b
one_module bytes a b h k =
    let m = module_parts bytes a h in
    let n = module_parts bytes b k in
    let same : m.0 ≡ n.0 = append_cancel_left header m.0 n.0 (sym m.1 ∙ n.1) in
    same_sections 0 n.0 a b (subst (λ (u : List ℕ). AreItems IsSection u a) same m.2.0) m.2.1 n.2.0 n.2.1

types_among : (prefix size content back : List ℕ) → AreAroundTypes prefix back →
    IsSection (1 ∷ (size ++ content)) (section 1 content)
    → (before after : List Section) × IsModule ((prefix ++ 1 ∷ size) ++ (content ++ back))
    (before ++ section 1 content ∷ after)
types_among _ size content _ (around texts back before after h k o) t =
    let text : List ℕ = 1 ∷ (size ++ content) in
    let all = joined IsSection texts (text ++ back) before (section 1 content ∷ after) h
    (next text back (section 1 content) after t k) in
    let order = subst (λ (u : List ℕ). AreInOrder 0 u)
    (sym (map-append (λ (s : Section). s.id) before (section 1 content ∷ after))) o in
    let parts : header ++ (texts ++ (text ++ back)) ≡ ((header ++ texts) ++ 1 ∷ size) ++ (content ++ back) =
    ap (λ (u : List ℕ). header ++ (texts ++ 1 ∷ u)) (append_assoc size content back)
    ∙ ap (λ (u : List ℕ). header ++ u) (sym (append_assoc texts (1 ∷ size) (content ++ back))) in (
      before,
      after,
      subst (λ (u : List ℕ). IsModule u (before ++ section 1 content ∷ after)) parts
          (framed (texts ++ (text ++ back)) (before ++ section 1 content ∷ after) all order),
    )

pub located_types : (bytes : List ℕ) (start stop : ℕ) (t : IsTypeSectionAt bytes start stop) →
    (before after : List Section) × IsModule bytes (before ++ section 1 t.content ∷ after)
located_types bytes start stop t =
    let m = types_among t.prefix t.size t.content t.back t.around_it (sized 1 t.size t.content t.sized) in
    (m.0, m.1, subst (λ (u : List ℕ). IsModule u (m.0 ++ section 1 t.content ∷ m.1)) (sym t.parts) m.2)
