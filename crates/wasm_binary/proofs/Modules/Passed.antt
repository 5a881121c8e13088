-- What is known of a module after some of its sections.
use Rattle.std.proofs.Common.{◌≡◌, ℕ, ◌<◌, ◌⊎◌, inl, inr, List, [], ◌∷◌, ◌++◌, length, Ok, Err, refl, sym, ap, subst, ◌∙◌, arith, append_assoc, length-append}
use Rattle.std.proofs.lemmas.List.{map-append}
use Rattle.wasm_binary.specs.declared.error.Expected.TheVariants as expected
use Rattle.wasm_binary.specs.declared.error.Reason.TheVariants as reason
use Rattle.wasm_binary.specs.Grammar.{AreItems, none, next}
use Rattle.wasm_binary.specs.Modules.{Section, section, ids, IsSection, sized, AreInOrder, header}
use Rattle.wasm_binary.specs.Steps.Framing.{HasPassed, place_after, header_at, id_at, section_at}
use Rattle.wasm_binary.proofs.Basics.{Takes, not_both, value_is, rest_is}
use Rattle.wasm_binary.proofs.Faults.{stop}
use Rattle.wasm_binary.proofs.Lists.{one_item, joined}
use Rattle.wasm_binary.proofs.Modules.Orders.{order_on, order_parts}
use Rattle.wasm_binary.proofs.Modules.Readings.{IsNextSection, header_sound, section_sound, section_complete}

-- behind the place `last`, the bytes are these sections
abbrev pub AreBehind : ℕ → List ℕ → List Section → Type 0
AreBehind last bytes sections = AreItems IsSection bytes sections × AreInOrder last (ids sections)

-- the first of them, and the others
pub record Begins (last : ℕ) (bytes : List ℕ) (sections : List Section) : Type 0 where
  pub first : Section
  pub rest : List ℕ
  pub others : List Section
  pub reads : section_at last bytes ≡ Ok (first, rest)
  pub all_are : sections ≡ first ∷ others
  pub behind : AreBehind (place_after last first.id) rest others

pub begins : (last : ℕ) (bytes : List ℕ) (sections : List Section) → AreItems IsSection bytes sections →
    AreInOrder last (ids sections) → (bytes ≡ []) × (sections ≡ []) ⊎ Begins last bytes sections
begins last _ _ none o = inl (refl, refl)
begins last _ _ (next text others s sections h hs) o =
    let parts = order_parts last (s.id ∷ ids sections) o in
    inr (record {
      first = s;
      rest = others;
      others = sections;
      reads = section_complete last text s others (h, parts.0);
      all_are = refl;
      behind = (hs, parts.1);
    })

nothing : (last : ℕ) → section_at last [] ≡ Err (stop [] (reason.Expected expected.SectionId))
unfolding section_at id_at
nothing last = refl

pub nothing_reads : (last : ℕ) (bytes : List ℕ) (s : Section) (rest : List ℕ) → bytes ≡ [] →
    section_at last bytes ≡ Ok (s, rest) → ⊥
nothing_reads last bytes s rest e h =
    not_both (section_at last []) (stop [] (reason.Expected expected.SectionId)) (s, rest) (nothing last)
    (ap (section_at last) (sym e) ∙ h)

-- the sections after one that is read
pub others_of :
    (last : ℕ) (text more : List ℕ) (s : Section) (all : List Section) → IsNextSection last text s →
    AreBehind last (text ++ more) all → (after : List Section) × AreBehind (place_after last s.id) more after
others_of last text more s all h k =
    let reads = section_complete last text s more h in
    elim (begins last (text ++ more) all k.0 k.1) [
      | inl e ↦ absurd (nothing_reads last (text ++ more) s more e.0 reads)
      | inr b ↦
          let same = sym b.reads ∙ reads in
          let first-is : b.first ≡ s = value_is b.first s b.rest more same in
          let rest-is : b.rest ≡ more = rest_is b.first s b.rest more same in (
            b.others,
            subst (λ (u : List ℕ). AreBehind (place_after last s.id) u b.others) rest-is
                (subst (λ (k : Section). AreBehind (place_after last k.id) b.rest b.others) first-is
                b.behind),
          )
    ]

abbrev pub none_passed : (bytes rest : List ℕ) → header_at bytes ≡ Ok (tt, rest) → HasPassed bytes rest 0
none_passed bytes rest e =
    let t = header_sound bytes tt rest e in
    record {
      texts = [];
      before = [];
      whole = t.parts ∙ ap (λ (u : List ℕ). u ++ rest) t.is_text;
      are = none;
      joins = λ after h. h;
      splits = λ more all h o. (all, h, o);
    }

abbrev pub one_more : (bytes rest after : List ℕ) (last : ℕ) (s : Section) (p : HasPassed bytes rest last) →
    Takes (IsNextSection last) rest s after → HasPassed bytes after (place_after last s.id)
one_more bytes rest after last s p t =
    let ids-are : ids (p.before ++ s ∷ []) ≡ ids p.before ++ s.id ∷ [] =
    map-append (λ (k : Section). k.id) p.before (s ∷ []) in
    record {
      texts = p.texts ++ t.text;
      before = p.before ++ s ∷ [];
      whole = p.whole ∙ ap (λ (u : List ℕ). header ++ u) (ap (λ (u : List ℕ). p.texts ++ u) t.parts
          ∙ sym (append_assoc p.texts t.text after));
      are = joined IsSection p.texts t.text p.before (s ∷ []) p.are (one_item IsSection t.text s t.is_text.0);
      joins = λ ks o.
          subst (λ (u : List ℕ). AreInOrder 0 u) (sym (ap (λ (u : List ℕ). u ++ ks) ids-are
          ∙ append_assoc (ids p.before) (s.id ∷ []) ks))
          (p.joins (s.id ∷ ks) (order_on last s.id ks t.is_text.1 o));
      splits = λ more all h o.
          let k = p.splits (t.text ++ more) all
          (subst (λ (u : List ℕ). AreItems IsSection u all) (append_assoc p.texts t.text more) h) o in
          let others = others_of last t.text more s k.0 t.is_text (k.1, k.2) in
          (others.0, others.1.0, others.1.1);
    }

pub one_passed : (bytes rest after content : List ℕ) (last id : ℕ) → HasPassed bytes rest last →
    section_at last rest ≡ Ok (section id content, after) → HasPassed bytes after (place_after last id)
one_passed bytes rest after content last id p e =
    one_more bytes rest after last (section id content) p
    (section_sound last rest (section id content) after e)

section_long : (text : List ℕ) (s : Section) → IsSection text s → 0 < length text
section_long _ _ (sized id size content h) = omega arith

pub less_left : (rest after content : List ℕ) (last id : ℕ) →
    section_at last rest ≡ Ok (section id content, after) → length after < length rest
less_left rest after content last id e =
    let t = section_sound last rest (section id content) after e in
    let long = ap (λ (u : List ℕ). length u) t.parts ∙ length-append t.text after in
    omega (arith, long, section_long t.text (section id content) t.is_text.0)
