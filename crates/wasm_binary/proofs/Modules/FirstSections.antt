-- The sections of a module up to its type section, all of which are custom.
use Rattle.std.proofs.Common.{◌≡◌, ℕ, suc, suc-le-suc, ◌<◌, ◌≤◌, inl, inr, List, [], ◌∷◌, ◌++◌, length, take, drop, refl, sym, ap, subst, ◌∙◌, arith, append_assoc, append-nil, take-append-drop}
use Rattle.std.proofs.Math.Seq.{take-append_seam}
use Rattle.std.proofs.lemmas.List.{append_cancel_left, take-append-le}
use Rattle.std.specs.Prelude.{slice_range}
use Rattle.std.specs.List.{All}
use Rattle.walrus_ty.specs.declared.records.GroupAt.{GroupAt}
use Rattle.wasm_binary.specs.Leb128.{IsU32}
use Rattle.wasm_binary.specs.Grammar.{AreItems, none, next, IsTypes}
use Rattle.wasm_binary.specs.Modules.{Section, ids, IsSection, sized, AreInOrder, header, IsOther, AreAroundTypes, around, IsTypeSectionAt, HasNoTypeSection}
use Rattle.wasm_binary.specs.ModuleSections.{HasTypes, in_section, without_section}
use Rattle.wasm_binary.specs.Steps.Reading.{u32_at}
use Rattle.wasm_binary.specs.Steps.Framing.{place_of, place_after, section_at}
use Rattle.wasm_binary.proofs.Basics.{value_is, rest_is}
use Rattle.wasm_binary.proofs.Integers.{u32_complete}
use Rattle.wasm_binary.proofs.Modules.Orders.{place_is, after_is, order_parts}
use Rattle.wasm_binary.proofs.Modules.Readings.{section_complete}
use Rattle.wasm_binary.proofs.Modules.Faulting.{module_parts}
use Rattle.wasm_binary.proofs.Modules.TypeContents.{content_is}

-- ---- they are custom

-- none of the ids is that of type sections
abbrev AreOthers : List ℕ → Type 0
AreOthers [] = Unit {0}
AreOthers (id ∷ ks) = (id ≡ 1 → ⊥) × AreOthers ks

are_others : (sections : List Section) → All IsOther sections → AreOthers (ids sections)
are_others [] h = tt
are_others (s ∷ sections) h = (
  h 0 s (omega arith),
  are_others sections (λ k d lt. h (suc k) d (suc-le-suc lt)),
)

-- each of the ids is that of custom sections
abbrev pub AreCustoms : List ℕ → Type 0
AreCustoms [] = Unit {0}
AreCustoms (id ∷ ks) = (id ≡ 0) × AreCustoms ks

not_behind : (before : ℕ) (ks ms : List ℕ) → AreInOrder before (ks ++ 1 ∷ ms) → before < 1
unfolding place_of
not_behind before [] ms o =
    elim (order_parts before (1 ∷ ms) o).0 [
      | inl e ↦ absurd cc
      | inr f ↦ let one : place_of 1 ≡ f.0 = place_is 1 f.0 f.1 in omega (arith, one, f.2)
    ]
not_behind before (k ∷ ks) ms o =
    let parts = order_parts before (k ∷ (ks ++ 1 ∷ ms)) o in
    let less : place_after before k < 1 = not_behind (place_after before k) ks ms parts.1 in
    elim parts.0 [
      | inl e ↦ subst (λ j. place_after before j < 1) e less
      | inr f ↦ let is : place_after before k ≡ f.0 = after_is before k f.0 f.1 in
          omega (arith, is, f.2, less)
    ]

pub customs_before : (ks ms : List ℕ) → AreInOrder 0 (ks ++ 1 ∷ ms) → AreCustoms ks
customs_before [] ms o = tt
customs_before (k ∷ ks) ms o =
    let parts = order_parts 0 (k ∷ (ks ++ 1 ∷ ms)) o in
    elim parts.0 [
      | inl e ↦ (e, customs_before ks ms (subst (λ j. AreInOrder (place_after 0 j) (ks ++ 1 ∷ ms)) e parts.1))
      | inr f ↦
          let is : place_after 0 k ≡ f.0 = after_is 0 k f.0 f.1 in
          let less : place_after 0 k < 1 = not_behind (place_after 0 k) ks ms parts.1 in
          absurd (omega (arith, is, f.2, less))
    ]

pub customs_are_others : (ks : List ℕ) → AreCustoms ks → AreOthers ks
customs_are_others [] c = tt
customs_are_others (k ∷ ks) c = ((λ e. absurd (let zero-is : k ≡ 0 = c.0 in cc)), customs_are_others ks c.1)

-- ---- where they end

pub first_is : (x y : ℕ) (xs ys : List ℕ) → x ∷ xs ≡ y ∷ ys → x ≡ y
first_is x y xs ys e = ap (elim [ [] ↦ 0 | z ∷ zs ↦ z ]) e

others_are : (x y : ℕ) (xs ys : List ℕ) → x ∷ xs ≡ y ∷ ys → xs ≡ ys
others_are x y xs ys e = ap (elim [ [] ↦ [] | z ∷ zs ↦ zs ]) e

pub starts_with : (text : List ℕ) (s : Section) → IsSection text s → (more : List ℕ) × (text ≡ s.id ∷ more)
starts_with _ _ (sized id size content h) = (size ++ content, refl)

-- Behind custom sections is what begins with a type section. So it is where other sections end that
-- no custom one follows.
pub same_behind : (texts : List ℕ) (before : List Section) → AreItems IsSection texts before →
    AreCustoms (ids before)
    → (others : List ℕ) (sections : List Section) → AreItems IsSection others sections →
    AreOthers (ids sections)
    → (a b : List ℕ) → ((xs : List ℕ) → b ≡ 0 ∷ xs → ⊥) → texts ++ 1 ∷ a ≡ others ++ b → 1 ∷ a ≡ b
same_behind _ _ none c _ _ none o a b n e = e
same_behind _ _ none c _ _ (next text rest s sections h hs) o a b n e =
    let m = starts_with text s h in
    let is : 1 ∷ a ≡ s.id ∷ ((m.0 ++ rest) ++ b) = e ∙ ap (λ (u : List ℕ). (u ++ rest) ++ b) m.1 in
    absurd (o.0 (sym (first_is 1 s.id a ((m.0 ++ rest) ++ b) is)))
same_behind _ _ (next text rest s before h hs) c _ _ none o a b n e =
    let m = starts_with text s h in
    let custom : s.id ∷ m.0 ≡ 0 ∷ m.0 = ap (λ k. k ∷ m.0) c.0 in
    absurd (n ((m.0 ++ rest) ++ 1 ∷ a) (sym e ∙ ap (λ (u : List ℕ). (u ++ rest) ++ 1 ∷ a) (m.1 ∙ custom)))
same_behind _ _ (next text rest s before h hs) c _ _ (next other left t sections k ks) o a b n e =
    let m = starts_with text s h in
    let l = starts_with other t k in
    let bytes : s.id ∷ ((m.0 ++ rest) ++ 1 ∷ a) ≡ t.id ∷ ((l.0 ++ left) ++ b) =
    sym (ap (λ (u : List ℕ). (u ++ rest) ++ 1 ∷ a) m.1) ∙ e ∙ ap (λ (u : List ℕ). (u ++ left) ++ b) l.1 in
    let custom : t.id ≡ 0 = sym (first_is s.id t.id ((m.0 ++ rest) ++ 1 ∷ a) ((l.0 ++ left) ++ b) bytes)
    ∙ c.0 in
    let first = section_complete 0 text s (rest ++ 1 ∷ a) (h, inl c.0) in
    let second = section_complete 0 other t (left ++ b) (k, inl custom) in
    let whole : text ++ (rest ++ 1 ∷ a) ≡ other ++ (left ++ b) = sym (append_assoc text rest (1 ∷ a)) ∙ e
    ∙ append_assoc other left b in
    let tails : rest ++ 1 ∷ a ≡ left ++ b = rest_is s t (rest ++ 1 ∷ a) (left ++ b) (sym first
    ∙ ap (section_at 0) whole ∙ second) in
    same_behind rest before hs c.1 left sections ks o.1 a b n tails

-- ---- the content of a type section

-- a content of this length at the front, which is a text of these groups
pub record Contains (bytes : List ℕ) (n : ℕ) (groups : List GroupAt) : Type 0 where
  pub content : List ℕ
  pub rest : List ℕ
  pub parts : bytes ≡ content ++ rest
  pub long : length content ≡ n
  pub is_text : IsTypes content groups

abbrev AroundParts : List ℕ → List ℕ → Type 0
AroundParts prefix back =
    (texts : List ℕ) × (before after : List Section) × (prefix ≡ header ++ texts)
    × AreItems IsSection texts before
    × AreCustoms (ids before)

around_parts : (prefix back : List ℕ) → AreAroundTypes prefix back → AroundParts prefix back
around_parts _ _ (around texts back before after h k o) =
    (texts, before, after, refl, h, customs_before (ids before) (ids after) o)

-- the bytes behind the header, from those behind a type section's front
behind_header : (prefix texts size rest : List ℕ) → prefix ≡ header ++ texts
    → (prefix ++ 1 ∷ size) ++ rest ≡ header ++ (texts ++ 1 ∷ (size ++ rest))
behind_header prefix texts size rest is =
    append_assoc prefix (1 ∷ size) rest ∙ ap (λ (u : List ℕ). u ++ 1 ∷ (size ++ rest)) is
    ∙ append_assoc header texts (1 ∷ (size ++ rest))

there : (prefix back size rest : List ℕ) (n : ℕ) (groups : List GroupAt) (start stop : ℕ) →
    AroundParts prefix back → IsU32 size n
    → (t : IsTypeSectionAt ((prefix ++ 1 ∷ size) ++ rest) start stop) → IsTypes t.content groups →
    Contains rest n groups
there prefix back size rest n groups start stop p h t text =
    let q = around_parts t.prefix t.back t.around_it in
    let behind : List ℕ = t.content ++ t.back in
    let both : header ++ (p.0 ++ 1 ∷ (size ++ rest)) ≡ header ++ (q.0 ++ 1 ∷ (t.size ++ behind)) =
    sym (behind_header prefix p.0 size rest p.3) ∙ t.parts ∙ behind_header t.prefix q.0 t.size behind q.3 in
    let same = append_cancel_left header (p.0 ++ 1 ∷ (size ++ rest)) (q.0 ++ 1 ∷ (t.size ++ behind)) both in
    let here = same_behind p.0 p.1 p.4 p.5 q.0 q.1 q.4 (customs_are_others (ids q.1) q.5) (size ++ rest)
    (1 ∷ (t.size ++ behind))
    (λ xs e. absurd cc) same in
    let tails : size ++ rest ≡ t.size ++ behind = others_are 1 1 (size ++ rest) (t.size ++ behind) here in
    let read = sym (u32_complete size n rest h) ∙ ap u32_at tails
    ∙ u32_complete t.size (length t.content) behind t.sized in
    record {
      content = t.content;
      rest = t.back;
      parts = rest_is n (length t.content) rest behind read;
      long = sym (value_is n (length t.content) rest behind read);
      is_text = text;
    }

not_without : (prefix back size rest : List ℕ) → AroundParts prefix back →
    HasNoTypeSection ((prefix ++ 1 ∷ size) ++ rest) → ⊥
not_without prefix back size rest p n =
    let m = module_parts ((prefix ++ 1 ∷ size) ++ rest) n.sections n.is_module in
    let whole : header ++ (p.0 ++ 1 ∷ (size ++ rest)) ≡ header ++ m.0 =
    sym (behind_header prefix p.0 size rest p.3) ∙ m.1 in
    let same : p.0 ++ 1 ∷ (size ++ rest) ≡ m.0 ++ [] =
    append_cancel_left header (p.0 ++ 1 ∷ (size ++ rest)) m.0 whole ∙ sym (append-nil m.0) in
    let none-left : 1 ∷ (size ++ rest) ≡ [] =
    same_behind p.0 p.1 p.4 p.5 m.0 n.sections m.2.0 (are_others n.sections n.others) (size ++ rest) []
    (λ xs e. absurd cc) same in
    absurd cc

pub contents : (prefix back size rest : List ℕ) (n : ℕ) (groups : List GroupAt) (bytes : List ℕ) →
    AreAroundTypes prefix back → IsU32 size n
    → bytes ≡ (prefix ++ 1 ∷ size) ++ rest → HasTypes bytes groups → Contains rest n groups
contents prefix back size rest n groups bytes a h is (in_section start stop gs t text) =
    let u : IsTypeSectionAt ((prefix ++ 1 ∷ size) ++ rest) start stop =
    subst (λ (b : List ℕ). IsTypeSectionAt b start stop) is t in
    let k : IsTypes (slice_range ((prefix ++ 1 ∷ size) ++ rest) start stop) gs =
    subst (λ (b : List ℕ). IsTypes (slice_range b start stop) gs) is text in
    there prefix back size rest n gs start stop (around_parts prefix back a) h u
    (subst (λ (b : List ℕ). IsTypes b gs) (content_is ((prefix ++ 1 ∷ size) ++ rest) start stop u) k)
contents prefix back size rest n groups bytes a h is (without_section none-there) =
    absurd (not_without prefix back size rest (around_parts prefix back a)
    (subst HasNoTypeSection is none-there))

-- what begins both
pub prefix_of : (u v x y : List ℕ) → u ++ v ≡ x ++ y → length u ≤ length x → x ≡ u ++ drop (length u) x
prefix_of u v x y e le =
    let first : u ≡ take (length u) x =
    sym (take-append_seam u v) ∙ ap (λ (w : List ℕ). take (length u) w) e
    ∙ take-append-le (length u) x y le in
    sym (take-append-drop (length u) x) ∙ ap (λ (w : List ℕ). w ++ drop (length u) x) (sym first)
