-- What the contents of sections name, and what a module names.
use Rattle.std.proofs.Common.{◌≡◌, ℕ, List, [], ◌∷◌, ◌++◌, Option, Some, None, refl, sym, ap, subst, ◌∙◌, append_assoc, append-nil}
use Rattle.wasm_binary.specs.Modules.{Section, IsModule}
use Rattle.wasm_binary.proofs.Modules.Uniqueness.{one_module}
use Rattle.wasm_module.specs.declared.kind.Kind.{Kind}
use Rattle.wasm_module.specs.declared.kind.Immediates.{Immediates}
use Rattle.wasm_module.specs.declared.kind.Immediates.TheVariants as immediates
use Rattle.wasm_module.specs.declared.scan.ScanError.{ScanError}
use Rattle.wasm_module.specs.declared.scan.ScanError.TheVariants as scan
use Rattle.wasm_module.specs.Bodies.{Names}
use Rattle.wasm_module.specs.Contents.{section_kinds}
use Rattle.wasm_module.specs.Sections.{PlacedSection, framing}
use Rattle.wasm_module.specs.NamedTypes.{IsCode, code_id, IsContent, texts, code, nameless, IsNoContent, AreContents, none, next, NamesOutside, NamesNone}
use Rattle.wasm_module.specs.Steps.Contents.{NamesNo, IsNoCode}
use Rattle.wasm_module.specs.Steps.Heads.{kinds_or_none}
use Rattle.wasm_module.specs.Steps.Tables.{row_kinds}

-- ---- sections

pub some_kinds : (o : Option (List Kind)) → (o ≡ None → ⊥) → o ≡ Some (kinds_or_none o)
some_kinds None h = absurd (h refl)
some_kinds (Some kinds) h = refl

no_kinds : (o : Option (List Kind)) (kinds : List Kind) → o ≡ Some kinds → o ≡ None → ⊥
no_kinds o kinds e h = absurd cc

kinds_are : (o : Option (List Kind)) (kinds : List Kind) → o ≡ Some kinds → kinds ≡ kinds_or_none o
kinds_are o kinds e = ap kinds_or_none (sym e)

pub row_some : (row : Immediates) → (row ≡ immediates.NoInstruction → ⊥) → row_kinds row ≡ None → ⊥
row_some immediates.NoInstruction h e = h refl
row_some immediates.Zero h e = absurd cc
row_some (immediates.One a) h e = absurd cc
row_some (immediates.Two a b) h e = absurd cc
row_some (immediates.Three a b c) h e = absurd cc
row_some (immediates.Four a b c d) h e = absurd cc

pub content_texts : (id : ℕ) (o : Option (List Kind)) (content names : List ℕ) → o ≡ section_kinds id →
    (o ≡ None → ⊥) → Names (kinds_or_none o) content names → IsContent id content names
content_texts id o content names e some h =
    texts id (kinds_or_none o) content names (sym e ∙ some_kinds o some) h

malformed_texts : (id : ℕ) (o : Option (List Kind)) (content names : List ℕ) → o ≡ section_kinds id →
    (o ≡ None → ⊥) → (id ≡ code_id → ⊥)
    → ((others : List ℕ) → Names (kinds_or_none o) content others → ⊥) → IsContent id content names → ⊥
malformed_texts id o content names e some other h (texts _ kinds _ _ is names-are) =
    h names (subst (λ (u : List Kind). Names u content names) (kinds_are o kinds (e ∙ is)) names-are)
malformed_texts _ o content names e some other h (code _ _ c) = other refl
malformed_texts id o content _ e some other h (nameless _ _ nothing _) = some (e ∙ nothing)

pub no_content_texts : (id : ℕ) (o : Option (List Kind)) (content : List ℕ) (e : ScanError) →
    o ≡ section_kinds id → (o ≡ None → ⊥) → (id ≡ code_id → ⊥) → NamesNo (kinds_or_none o) content e →
    IsNoContent id content e
no_content_texts id o content scan.Memory is some other h = tt
no_content_texts id o content (scan.Malformed place) is some other h = λ names c.
    malformed_texts id o content names is some other h c

malformed_code : (id : ℕ) (content names : List ℕ) → id ≡ code_id →
    ((others : List ℕ) → IsCode content others → ⊥) → IsContent id content names → ⊥
malformed_code id content names e h (texts _ kinds _ _ is names-are) =
    no_kinds (section_kinds id) kinds is (ap section_kinds e)
malformed_code _ content names e h (code _ _ c) = h names c
malformed_code id content _ e h (nameless _ _ nothing other) = other e

pub no_content_code : (id : ℕ) (content : List ℕ) (e : ScanError) → id ≡ code_id → IsNoCode content e →
    IsNoContent id content e
no_content_code id content scan.Memory is h = tt
no_content_code id content (scan.Malformed place) is h = λ names c. malformed_code id content names is h c

pub content_code : (id : ℕ) (content names : List ℕ) → id ≡ code_id → IsCode content names →
    IsContent id content names
content_code id content names e h =
    subst (λ (k : ℕ). IsContent k content names) (sym e) (code content names h)

-- ---- modules

-- what was named by the sections before those that are left
pub record Named (all left : List PlacedSection) (named : List ℕ) : Type 0 where
  pub back : (others : List ℕ) → AreContents (framing left) others →
      AreContents (framing all) (named ++ others)
  pub on : (names : List ℕ) → AreContents (framing all) names → (others : List ℕ)
      × AreContents (framing left) others

first_content : (s : Section) (sections : List Section) (names : List ℕ) → AreContents (s ∷ sections) names →
    ((first : List ℕ) × IsContent s.id s.content first) × ((others : List ℕ) × AreContents sections others)
first_content s sections _ (next _ _ first others h hs) = ((first, h), (others, hs))

next_named : (all left : List PlacedSection) (s : PlacedSection) (named names : List ℕ) →
    Named all (s ∷ left) named → IsContent s.framed.id s.framed.content names →
    Named all left (named ++ names)
next_named all left s named names n h =
    record {
      back =
          λ others hs.
          subst (λ (u : List ℕ). AreContents (framing all) u) (sym (append_assoc named names others))
          (n.back (names ++ others) (next s.framed (framing left) names others h hs));
      on =
          λ total hs.
          let o = n.on total hs in
          let f = first_content s.framed (framing left) o.0 o.1 in f.1;
    }

pub named_on : (all old left : List PlacedSection) (s : PlacedSection) (named names new : List ℕ) →
    Named all old named → old ≡ s ∷ left → IsContent s.framed.id s.framed.content names →
    new ≡ named ++ names → Named all left new
named_on all old left s named names new n e h is =
    subst (λ (u : List ℕ). Named all left u) (sym is)
    (next_named all left s named names (subst (λ (u : List PlacedSection). Named all u named) e n) h)

pub module_names : (bytes : List ℕ) (all left : List PlacedSection) (named : List ℕ) →
    IsModule bytes (framing all) → Named all left named → left ≡ [] → NamesOutside bytes named
module_names bytes all left named m s e =
    let n = subst (λ (u : List PlacedSection). Named all u named) e s in
    record {
      sections = framing all;
      is_module = m;
      are =
          subst (λ (u : List ℕ). AreContents (framing all) u) (append-nil named) (n.back [] none);
    }

pub module_malformed : (bytes : List ℕ) (all old left : List PlacedSection) (s : PlacedSection)
    (named : List ℕ) (e : ScanError) → IsModule bytes (framing all) → Named all old named → old ≡ s ∷ left
    → IsNoContent s.framed.id s.framed.content e → NamesNone bytes e
module_malformed bytes all old left s named scan.Memory m k is h = tt
module_malformed bytes all old left s named (scan.Malformed place) m k is h = λ names o.
    let n = subst (λ (u : List PlacedSection). Named all u named) is k in
    let same = one_module bytes o.sections (framing all) o.is_module m in
    let r = n.on names (subst (λ (u : List Section). AreContents u names) same o.are) in
    let f = first_content s.framed (framing left) r.0 r.1 in
    h f.0.0 f.0.1
