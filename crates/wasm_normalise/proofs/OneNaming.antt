-- The types that a module names outside its type section are determined. They stay where sections
-- that describe other bytes are left out, and become the new ones where indices are written again.
use Rattle.std.proofs.Common.{◌≡◌, ℕ, List, [], ◌∷◌, ◌++◌, length, map, Some, None, refl, sym, ap, subst, ◌∙◌}
use Rattle.std.specs.List.{concat}
use Rattle.wasm_binary.specs.Grammar.{AreItems, IsVec, counted}
use Rattle.wasm_binary.specs.Grammar.AreItems.{none as no_items, next as next_item}
use Rattle.wasm_binary.specs.Modules.{Section, IsSection, IsModule}
use Rattle.wasm_binary.specs.Steps.Reading.{u32_at}
use Rattle.wasm_binary.proofs.Modules.Uniqueness.{one_module}
use Rattle.wasm_module.specs.declared.kind.Kind.{Kind}
use Rattle.wasm_module.specs.Bodies.{Names, body}
use Rattle.wasm_module.specs.Contents.{section_kinds}
use Rattle.wasm_module.specs.Customs.{left_out, kept, AreStripped, IsStripped}
use Rattle.wasm_module.specs.Customs.AreStripped.{none as none_stripped, next as next_stripped}
use Rattle.wasm_module.specs.NamedTypes.{IsSizedBody, IsCode, code_id, IsContent, AreContents, NamesOutside}
use Rattle.wasm_module.specs.NamedTypes.IsSizedBody.{sized}
use Rattle.wasm_module.specs.NamedTypes.IsContent.{texts, code, nameless}
use Rattle.wasm_module.specs.NamedTypes.AreContents.{none as no_contents, next as next_content}
use Rattle.wasm_module.specs.Renaming.{NewIndices, new_index}
use Rattle.wasm_module.proofs.RenamedNames.{module_follows}
use Rattle.wasm_module.proofs.SizedContents.{number_read, same_number, same_content}
use Rattle.wasm_module.proofs.StrippedOnce.{module_of}
use Rattle.wasm_normalise.specs.CanonicalModules.{IsLeft, IsCanonicalModule}
use Rattle.wasm_normalise.specs.declared.options.Descriptions.{Descriptions}
use Rattle.wasm_normalise.specs.declared.options.Descriptions.TheVariants as descriptions
use Rattle.wasm_normalise.specs.declared.options.NormaliseOptions.{NormaliseOptions}
use Rattle.wasm_module.proofs.SameTexts.{same_names, taken, same_kinds, no_texts_of_code}

-- ---- contents

texts_once : (kinds : List Kind) (content a b : List ℕ) → Names kinds content a → Names kinds content b →
    a ≡ b
texts_once kinds content a b h k =
    h.named ∙ same_names kinds content h.tokens content k.tokens [] [] h.are k.are refl ∙ sym k.named

body_once : (text other a b r s : List ℕ) → IsSizedBody text a → IsSizedBody other b →
    text ++ r ≡ other ++ s →
    (a ≡ b) × (r ≡ s)
body_once _ _ a b r s (sized size content _ h f) (sized size' content' _ g k) e =
    let c = same_content ((size ++ content) ++ r) content r content' s (taken size content r _ h refl)
    (taken size' content' s _ g e) in
    (texts_once body content' a b (subst (λ (u : List ℕ). Names body u a) c.0 f) k, c.1)

bodies_once : (all others : List ℕ) (bodies more : List (List ℕ)) → AreItems IsSizedBody all bodies →
    AreItems IsSizedBody others more → length bodies ≡ length more → all ≡ others → bodies ≡ more
bodies_once _ _ _ _ no_items no_items many e = refl
bodies_once _ _ _ _ no_items (next_item t ts b bs h hs) many e = absurd cc
bodies_once _ _ _ _ (next_item t ts b bs h hs) no_items many e = absurd cc
bodies_once _ _ _ _ (next_item t ts b bs h hs) (next_item u us c cs k ks) many e =
    let o = body_once t u b c ts us h k e in
    let fewer : length bs ≡ length cs = cc in
    let rest = bodies_once ts us bs cs hs ks fewer o.1 in
    ap (λ (x : List ℕ). x ∷ bs) o.0 ∙ ap (λ (xs : List (List ℕ)). c ∷ xs) rest

vec_once : (content other : List ℕ) (bodies more : List (List ℕ)) → IsVec IsSizedBody content bodies →
    IsVec IsSizedBody other more → content ≡ other → bodies ≡ more
vec_once _ _ _ _ (counted count prefix bodies h hs) (counted count' prefix' bodies' k ks) e =
    let n = same_number (u32_at (count ++ prefix)) (length bodies) (length bodies') prefix prefix'
    (number_read (count ++ prefix) count (length bodies) prefix h refl)
    (number_read (count ++ prefix) count' (length bodies') prefix' k e) in
    bodies_once prefix prefix' bodies bodies' hs ks n.0 n.1

code_once : (content a b : List ℕ) → IsCode content a → IsCode content b → a ≡ b
code_once content a b h k =
    h.named ∙ ap (λ (u : List (List ℕ)). concat u) (vec_once content content h.bodies k.bodies h.are k.are
    refl)
    ∙ sym k.named

no_code : (id : ℕ) (kinds : List Kind) → section_kinds id ≡ Some kinds → section_kinds id ≡ None → ⊥
no_code id kinds e h = let k : Some kinds ≡ None = sym e ∙ h in cc

content_once : (id : ℕ) (content a b : List ℕ) → IsContent id content a → IsContent id content b → a ≡ b
content_once id content a b (texts _ kinds _ _ e h) (texts _ kinds' _ _ e' k) =
    texts_once kinds content a b h
    (subst (λ (u : List Kind). Names u content b) (same_kinds (section_kinds id) kinds' kinds e' e) k)
content_once _ content a b (texts _ kinds _ _ e h) (code _ _ k) = absurd (no_texts_of_code code_id kinds e
    refl)
content_once id content a _ (texts _ kinds _ _ e h) (nameless _ _ nothing other) =
    absurd (no_code id kinds e nothing)
content_once _ content a b (code _ _ h) (texts _ kinds _ _ e k) = absurd (no_texts_of_code code_id kinds e
    refl)
content_once _ content a b (code _ _ h) (code _ _ k) = code_once content a b h k
content_once _ content a _ (code _ _ h) (nameless _ _ nothing other) = absurd (other refl)
content_once id content _ b (nameless _ _ nothing other) (texts _ kinds _ _ e k) =
    absurd (no_code id kinds e nothing)
content_once _ content _ b (nameless _ _ nothing other) (code _ _ k) = absurd (other refl)
content_once id content _ _ (nameless _ _ nothing other) (nameless _ _ absent different) = refl

contents_once : (sections : List Section) (a b : List ℕ) → AreContents sections a → AreContents sections b →
    a ≡ b
contents_once _ _ _ no_contents no_contents = refl
contents_once _ _ _ (next_content s sections names others h hs) (next_content _ _ names' others' k ks) =
    ap (λ (u : List ℕ). u ++ others) (content_once s.id s.content names names' h k)
    ∙ ap (λ (u : List ℕ). names' ++ u) (contents_once sections others others' hs ks)

-- ---- modules

pub named_once : (bytes a b : List ℕ) → NamesOutside bytes a → NamesOutside bytes b → a ≡ b
named_once bytes a b h k =
    contents_once k.sections a b
    (subst (λ (u : List Section). AreContents u a) (one_module bytes h.sections k.sections h.is_module
    k.is_module) h.are) k.are

-- ---- what is left without sections that describe other bytes

-- what sections name that are left, the others name as well
record Left (bytes new : List ℕ) : Type 0 where
  all : List Section
  left : List Section
  before : AreItems IsSection bytes all
  after : AreItems IsSection new left
  name : (names : List ℕ) → AreContents left names → AreContents all names

left_out_names : (s : Section) (all left : List Section) (names : List ℕ) → s.id ≡ 0 →
    ((others : List ℕ) → AreContents left others → AreContents all others) → AreContents left names →
    AreContents (s ∷ all) names
left_out_names s all left names custom on h =
    next_content s all [] names
    (subst (λ n. IsContent n s.content []) (sym custom) (nameless 0 s.content refl (λ same. absurd cc)))
    (on names h)

kept_names : (s : Section) (all left : List Section) (names : List ℕ) →
    ((others : List ℕ) → AreContents left others → AreContents all others) → AreContents (s ∷ left) names →
    AreContents (s ∷ all) names
kept_names s all left _ on (next_content _ _ names others h hs) =
    next_content s all names others h (on others hs)

sections_left : (bytes new : List ℕ) → AreStripped bytes new → Left bytes new
sections_left _ _ none_stripped =
    record { all = []; left = []; before = no_items; after = no_items; name = λ names h. h }
sections_left _ _ (next_stripped _ _ rest news (left_out text s h d) hs) =
    let r = sections_left rest news hs in
    record {
      all = s ∷ r.all;
      left = r.left;
      before = next_item text rest s r.all h r.before;
      after = r.after;
      name = λ names k. left_out_names s r.all r.left names d.describes.is_custom r.name k;
    }
sections_left _ _ (next_stripped _ _ rest news (kept text s h d) hs) =
    let r = sections_left rest news hs in
    record {
      all = s ∷ r.all;
      left = s ∷ r.left;
      before = next_item text rest s r.all h r.before;
      after = next_item text news s r.left h r.after;
      name = λ names k. kept_names s r.all r.left names r.name k;
    }

stripped_names : (bytes left names : List ℕ) → IsStripped bytes left → NamesOutside left names →
    NamesOutside bytes names
stripped_names bytes left names s k =
    let r = sections_left s.texts s.new_texts s.are in
    let all : IsModule bytes r.all = module_of bytes s.texts s.sections r.all s.is_module s.parts r.before in
    let rest : IsModule left r.left = module_of left s.new_texts k.sections r.left k.is_module s.new_parts
    r.after
    in
    let there : AreContents r.left names = subst (λ (u : List Section). AreContents u names)
    (one_module left k.sections r.left k.is_module rest) k.are in
    record { sections = r.all; is_module = all; are = r.name names there }

-- what is left of a module names what the module names
pub names_before : (d : Descriptions) (bytes left names : List ℕ) → IsLeft d bytes left →
    NamesOutside left names → NamesOutside bytes names
names_before descriptions.Kept bytes left names is k = subst (λ (u : List ℕ). NamesOutside u names) is k
names_before descriptions.Stripped bytes left names is k = stripped_names bytes left names is k

-- ---- the names of a module in canonical form

-- what the module names, and the new ones that the result names in turn
pub record NamesInTurn (m : NewIndices) (bytes new : List ℕ) : Type 0 where
  pub names : List ℕ
  pub new_names : List ℕ
  pub named : NamesOutside bytes names
  pub new_named : NamesOutside new new_names
  pub mapped : map (λ k. new_index m k) names ≡ map (λ k. Some k) new_names

pub names_in_turn : (options : NormaliseOptions) (bytes new : List ℕ) →
    (h : IsCanonicalModule options bytes new) → NamesInTurn h.new_indices bytes new
names_in_turn options bytes new h =
    let f = module_follows h.new_indices options.widths h.types h.left new h.renamed in
    record {
      names = f.names;
      new_names = f.new_names;
      named = names_before options.descriptions bytes h.left f.names h.is_left f.before;
      new_named = f.after;
      mapped = f.mapped;
    }
