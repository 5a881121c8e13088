-- Where no further section ends up to a place: the next one leaves too few bytes behind it.
use Rattle.std.proofs.Common.{◌≡◌, ℕ, ◌-◌, ◌≤◌, List, [], ◌∷◌, ◌++◌, length, take, drop, refl, sym, ap, subst, ◌∙◌, arith, append_assoc, length-append, take-append-drop, inl, inr}
use Rattle.std.proofs.lemmas.List.{append_cancel_left, length-drop}
use Rattle.wasm_binary.specs.Grammar.{AreItems}
use Rattle.wasm_binary.specs.Modules.{IsSection, header}
use Rattle.wasm_binary.specs.Sections.{NoneEndsBetween, HasNoHeaderBy}
use Rattle.wasm_binary.specs.Steps.Framing.{HasPassed, HeaderLeavesFewer, LeavesFewer, header_at, section_at}
use Rattle.wasm_binary.proofs.Modules.Faulting.{module_parts}
use Rattle.wasm_binary.proofs.Modules.Passed.{begins}
use Rattle.wasm_binary.proofs.Modules.Readings.{header_complete, section_sound, section_complete}

-- one list, cut at two places
record Overlap (a b c d : List ℕ) : Type 0 where
  between : List ℕ
  longer : a ≡ c ++ between
  shorter : d ≡ between ++ b

overlap : (a b c d : List ℕ) → a ++ b ≡ c ++ d → length c ≤ length a → Overlap a b c d
overlap a b [] d e h = record { between = a; longer = refl; shorter = sym e }
overlap [] b (x ∷ c) d e h = let k : ⊥ = omega (arith, h) in absurd k
overlap (y ∷ a) b (x ∷ c) d e h =
    let tails : a ++ b ≡ c ++ d = cc in
    let shorter : length c ≤ length a = omega (arith, h) in
    let t = overlap a b c d tails shorter in
    record { between = t.between; longer = cc; shorter = t.shorter }

pub no_further : (bytes rest : List ℕ) (last place : ℕ) → HasPassed bytes rest last → 1 ≤ length rest →
    LeavesFewer (length bytes - place) last rest
    → NoneEndsBetween (length bytes - length rest) place bytes
no_further bytes rest last place p some fewer end behind within sections h =
    let back : List ℕ = drop end bytes in
    let m = module_parts (take end bytes) sections h in
    let parts : header ++ (m.0 ++ back) ≡ header ++ (p.texts ++ rest) =
    sym (append_assoc header m.0 back)
    ∙ (ap (λ (u : List ℕ). u ++ back) (sym m.1) ∙ (take-append-drop end bytes ∙ p.whole)) in
    let same = append_cancel_left header (m.0 ++ back) (p.texts ++ rest) parts in
    let long = ap (λ (u : List ℕ). length u) p.whole ∙ length-append header (p.texts ++ rest) in
    let texts-long = length-append p.texts rest in
    let same-long = sym (length-append m.0 back) ∙ (ap (λ (u : List ℕ). length u) same ∙ texts-long) in
    let back-long = length-drop end bytes in
    let k = overlap m.0 back p.texts rest same
    (omega (arith, long, texts-long, same-long, back-long, behind)) in
    let rest-long = ap (λ (u : List ℕ). length u) k.shorter ∙ length-append k.between back in
    let a = p.splits k.between sections
    (subst (λ (u : List ℕ). AreItems IsSection u sections) k.longer m.2.0) m.2.1 in
    elim (begins last k.between a.0 a.1 a.2) [
      | inl e ↦
          let empty = ap (λ (u : List ℕ). length u) e.0 in
          absurd (omega (arith, empty, rest-long, back-long, long, texts-long, behind, some))
      | inr b ↦
          let t = section_sound last k.between b.first b.rest b.reads in
          let reads = ap (section_at last) (k.shorter ∙ (ap (λ (u : List ℕ). u ++ back) t.parts
          ∙ append_assoc t.text b.rest back))
          ∙ section_complete last t.text b.first (b.rest ++ back) t.is_text in
          let less = fewer b.first (b.rest ++ back) reads in
          absurd (omega (arith, less, length-append b.rest back, back-long, within))
    ]

pub no_header_by : (bytes : List ℕ) (place : ℕ) → HeaderLeavesFewer (length bytes - place) bytes →
    HasNoHeaderBy place bytes
no_header_by bytes place fewer end within sections h =
    let back : List ℕ = drop end bytes in
    let m = module_parts (take end bytes) sections h in
    let whole : bytes ≡ header ++ (m.0 ++ back) = sym (take-append-drop end bytes)
    ∙ (ap (λ (u : List ℕ). u ++ back) m.1 ∙ append_assoc header m.0 back) in
    let less = fewer (m.0 ++ back) (ap header_at whole ∙ header_complete (m.0 ++ back)) in
    omega (arith, less, length-append m.0 back, length-drop end bytes, within)
