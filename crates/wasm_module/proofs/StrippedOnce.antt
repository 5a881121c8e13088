-- What is left of a module without sections that describe other bytes is determined, and stays so
-- where indices of types are written again.
use Rattle.std.proofs.Common.{◌≡◌, ℕ, List, [], ◌∷◌, ◌++◌, length, refl, sym, ap, subst, ◌∙◌, arith}
use Rattle.std.specs.List.{All}
use Rattle.std.proofs.lemmas.List.{append_cancel_left}
use Rattle.std.proofs.lemmas.List.Elements.{All-nil, All-cons, All-head, All-tail}
use Rattle.wasm_binary.specs.Grammar.{AreItems}
use Rattle.wasm_binary.specs.Grammar.AreItems.{none as no_items, next as next_item}
use Rattle.wasm_binary.specs.Leb128.{IsU32}
use Rattle.wasm_binary.specs.Modules.{Section, section, ids, IsSection, AreInOrder, header, IsModule, framed, IsOther, HasNoTypeSection}
use Rattle.wasm_binary.specs.Steps.Framing.{place_after}
use Rattle.wasm_binary.proofs.Modules.Faulting.{module_parts}
use Rattle.wasm_binary.proofs.Modules.Orders.{order_on, order_parts}
use Rattle.wasm_binary.proofs.Modules.Uniqueness.{one_module}
use Rattle.wasm_module.specs.declared.renaming.Widths.{Widths}
use Rattle.wasm_module.specs.Changes.{stays, resized, ChangeAll}
use Rattle.wasm_module.specs.Changes.ChangeAll.{none as no_change, next as next_change}
use Rattle.wasm_module.specs.Customs.{IsDescription, IsStrippedSection, left_out, kept, AreStripped, none, next, IsStripped}
use Rattle.wasm_module.specs.NameSections.{name_bytes, RenamesCustom, name_section, unread}
use Rattle.wasm_module.specs.NameSections.RenamesCustom.{other as other_name}
use Rattle.wasm_module.specs.RenamedModules.{RenamesAny, RenamesSection, RenamesModule}
use Rattle.wasm_module.specs.RenamedModules.RenamesAny.{custom, other as other_content}
use Rattle.wasm_module.specs.RenamedModules.RenamesSection.{type_section, other as other_section}
use Rattle.wasm_module.specs.Renaming.{NewIndices}
use Rattle.wasm_module.proofs.DescriptionNames.{names_describe_nothing}
use Rattle.wasm_module.proofs.ModuleLaws.{pairs, not_empty, same_ids, have_same_ids}
use Rattle.wasm_module.proofs.RenamedModules.{sized_pair, pair, same_section}
use Rattle.wasm_module.proofs.NumberTexts.{cancel}
use Rattle.wasm_module.proofs.SameTexts.{named}

-- ---- one result

-- the section that a text is, before it is stripped
stripped_section : (text new : List ℕ) → IsStrippedSection text new → (s : Section) × IsSection text s
stripped_section _ _ (left_out text s h d) = (s, h)
stripped_section _ _ (kept text s h d) = (s, h)

section_once : (text new rest whole other after : List ℕ) → IsStrippedSection text new →
    IsStrippedSection whole other → text ++ rest ≡ whole ++ after → (new ≡ other) × (rest ≡ after)
section_once _ _ rest _ _ after (left_out text s h d) (left_out whole t k f) e =
    (refl, (same_section text rest whole after s t h k e).1)
section_once _ _ rest _ _ after (left_out text s h d) (kept whole t k f) e =
    absurd (f (subst (λ (u : Section). IsDescription u) (same_section text rest whole after s t h k e).0 d))
section_once _ _ rest _ _ after (kept text s h d) (left_out whole t k f) e =
    absurd (d (subst (λ (u : Section). IsDescription u)
    (sym (same_section text rest whole after s t h k e).0) f))
section_once _ _ rest _ _ after (kept text s h d) (kept whole t k f) e =
    let behind = (same_section text rest whole after s t h k e).1 in
    (cancel text whole rest after e behind, behind)

sections_once : (texts new whole others : List ℕ) → AreStripped texts new → AreStripped whole others →
    texts ≡ whole → new ≡ others
sections_once _ _ _ _ none none e = refl
sections_once _ _ _ _ none (next text new texts others h hs) e =
    absurd (let s = stripped_section text new h in not_empty text texts s.0 s.1 e)
sections_once _ _ _ _ (next text new texts others h hs) none e =
    absurd (let s = stripped_section text new h in not_empty text texts s.0 s.1 (sym e))
sections_once _ _ _ _ (next text new texts news h hs) (next whole other wholes others k ks) e =
    let o = section_once text new texts whole other wholes h k e in
    ap (λ (u : List ℕ). u ++ news) o.0
    ∙ ap (λ (u : List ℕ). other ++ u) (sections_once texts news wholes others hs ks o.1)

pub stripped_once : (bytes a b : List ℕ) → IsStripped bytes a → IsStripped bytes b → a ≡ b
stripped_once bytes a b h k =
    let texts-are : h.texts ≡ k.texts = append_cancel_left header h.texts k.texts (sym h.parts ∙ k.parts) in
    h.new_parts
    ∙ ap (λ (u : List ℕ). header ++ u)
    (sections_once h.texts h.new_texts k.texts k.new_texts h.are k.are texts-are)
    ∙ sym k.new_parts

-- the sections of a module are those of its texts
pub module_of : (bytes texts : List ℕ) (sections found : List Section) → IsModule bytes sections →
    bytes ≡ header ++ texts → AreItems IsSection texts found → IsModule bytes found
module_of bytes texts sections found is parts are =
    let m = module_parts bytes sections is in
    let texts-are : m.0 ≡ texts = append_cancel_left header m.0 texts (sym m.1 ∙ parts) in
    let ids-are : ids sections ≡ ids found = same_ids m.0 texts sections found m.2.0 are texts-are in
    let order : AreInOrder 0 (ids found) = subst (λ (u : List ℕ). AreInOrder 0 u) ids-are m.2.1 in
    subst (λ (u : List ℕ). IsModule u found) (sym parts) (framed texts found are order)

-- ---- what is left

-- it does not describe other bytes
abbrev pub DescribesNothing : Section → Type 0
DescribesNothing s = IsDescription s → ⊥

-- the sections of these texts, and those of them that are left
pub record AreLeft (texts new : List ℕ) : Type 0 where
  pub all : List Section
  pub others : List Section
  pub before : AreItems IsSection texts all
  pub after : AreItems IsSection new others
  pub order : (last : ℕ) → AreInOrder last (ids all) → AreInOrder last (ids others)
  pub types : All IsOther others → All IsOther all
  pub undescribed : All DescribesNothing others

one_left : (text new texts new_texts : List ℕ) → IsStrippedSection text new → AreLeft texts new_texts →
    AreLeft (text ++ texts) (new ++ new_texts)
one_left _ _ texts new_texts (left_out text s is d) l =
    let is-other : IsOther s = λ one. let zero-is : 0 ≡ 1 = sym d.describes.is_custom ∙ one in
    omega (arith, zero-is) in
    record {
      all = s ∷ l.all;
      others = l.others;
      before = next_item text texts s l.all is l.before;
      after = l.after;
      order = λ last h. l.order last (subst (λ k. AreInOrder (place_after last k) (ids l.all)) d.describes.is_custom
          (order_parts last (s.id ∷ ids l.all) h).1);
      types = λ k. All-cons IsOther s l.all is-other (l.types k);
      undescribed = l.undescribed;
    }
one_left _ _ texts new_texts (kept text s is fails) l =
    record {
      all = s ∷ l.all;
      others = s ∷ l.others;
      before = next_item text texts s l.all is l.before;
      after = next_item text new_texts s l.others is l.after;
      order = λ last h. (let parts = order_parts last (s.id ∷ ids l.all) h in
          order_on last s.id (ids l.others) parts.0 (l.order (place_after last s.id) parts.1));
      types = λ k. All-cons IsOther s l.all (All-head IsOther s l.others k)
          (l.types (All-tail IsOther s l.others k));
      undescribed = All-cons DescribesNothing s l.others fails l.undescribed;
    }

pub are_left : (texts new : List ℕ) → AreStripped texts new → AreLeft texts new
are_left _ _ none =
    record {
      all = [];
      others = [];
      before = no_items;
      after = no_items;
      order = λ last h. h;
      types = λ h. h;
      undescribed = All-nil DescribesNothing;
    }
are_left _ _ (next text new texts new_texts h hs) =
    one_left text new texts new_texts h (are_left texts new_texts hs)

-- both are modules
pub left_modules : (bytes new : List ℕ) (r : IsStripped bytes new) (l : AreLeft r.texts r.new_texts) →
    IsModule bytes l.all × IsModule new l.others
left_modules bytes new r l =
    let whole = module_of bytes r.texts r.sections l.all r.is_module r.parts l.before in (
      whole,
      subst (λ (u : List ℕ). IsModule u l.others) (sym r.new_parts)
          (framed r.new_texts l.others l.after (l.order 0 (module_parts bytes l.all whole).2.1)),
    )

-- what is left has no type section only if the module has none
pub no_types_before : (bytes left : List ℕ) → IsStripped bytes left → HasNoTypeSection left →
    HasNoTypeSection bytes
no_types_before bytes left r n =
    let l = are_left r.texts r.new_texts r.are in
    let both = left_modules bytes left r l in
    let same : n.sections ≡ l.others = one_module left n.sections l.others n.is_module both.1 in
    record {
      sections = l.all;
      is_module = both.0;
      others = l.types (subst (λ (s : List Section). All IsOther s) same n.others);
    }

-- ---- what was renamed has no more such sections

undescribed_stay : (texts : List ℕ) (sections : List Section) → AreItems IsSection texts sections →
    All DescribesNothing sections → AreStripped texts texts
undescribed_stay _ _ no_items fails = none
undescribed_stay _ _ (next_item text texts s sections h hs) fails =
    next text text texts texts (kept text s h (All-head DescribesNothing s sections fails))
    (undescribed_stay texts sections hs (All-tail DescribesNothing s sections fails))

-- one of these sections describes other bytes where the other one does
abbrev pub DescribeAlike : Section → Section → Type 0
DescribeAlike s t = (IsDescription s → IsDescription t) × (IsDescription t → IsDescription s)

name_section_fails : (id : ℕ) (size follows : List ℕ) → IsU32 size (length name_bytes) →
    IsDescription (section id (size ++ (name_bytes ++ follows))) → ⊥
name_section_fails id size follows h d =
    names_describe_nothing id (size ++ (name_bytes ++ follows)) follows (named size name_bytes follows _ h refl)
    d

custom_alike : (m : NewIndices) (w : Widths) (id : ℕ) (content new names : List ℕ) →
    RenamesCustom m w content new names → DescribeAlike (section id content) (section id new)
custom_alike m w id _ _ _ (name_section count size texts new names h hs) = (
  (λ d. absurd (name_section_fails id size texts h d)),
  (λ d. absurd (name_section_fails id size new h d)),
)
custom_alike m w id _ _ _ (unread size texts h fails) = ((λ d. d), (λ d. d))
custom_alike m w id _ _ _ (other_name size bytes follows h different) = ((λ d. d), (λ d. d))

any_alike : (m : NewIndices) (w : Widths) (id : ℕ) (content new names : List ℕ) →
    RenamesAny id m w content new names → DescribeAlike (section id content) (section id new)
any_alike m w id _ _ _ (custom content new names is h) = custom_alike m w id content new names h
any_alike m w id _ _ _ (other_content content new names fails h) =
    ((λ d. absurd (fails d.describes.is_custom)), (λ d. absurd (fails d.describes.is_custom)))

types_describe_nothing : (content : List ℕ) → IsDescription (section 1 content) → ⊥
types_describe_nothing content d = let e : 1 ≡ 0 = d.describes.is_custom in omega (arith, e)

-- so do a section and what it becomes
pub pair_alike : (types : List ℕ) (m : NewIndices) (w : Widths) (text new names : List ℕ)
    (r : RenamesSection types m w text new names) →
    DescribeAlike
    (section (pair types m w text new names r).id (pair types m w text new names r).content)
    (section (pair types m w text new names r).id (pair types m w text new names r).new_content)
unfolding pair sized_pair
pair_alike types m w _ _ _ (type_section size content new_size h t) = (
  (λ d. absurd (types_describe_nothing content d)),
  (λ d. absurd (types_describe_nothing types d)),
)
pair_alike types m w _ _ _ (other_section id _ _ _ some (stays size content h r)) = ((λ d. d), (λ d. d))
pair_alike types m w _ _ _ (other_section id _ _ _ some (resized size content new_size new names h r naming t))
    = any_alike m w id content new names r

pairs_alike : (types : List ℕ) (m : NewIndices) (w : Widths) (count : ℕ) (texts new names : List ℕ)
    (r : ChangeAll (RenamesSection types m w) count texts new names) →
    All DescribesNothing (pairs types m w count texts new names r).sections →
    All DescribesNothing (pairs types m w count texts new names r).new_sections
unfolding pairs
pairs_alike types m w _ _ _ _ no_change fail = All-nil DescribesNothing
pairs_alike types m w _ _ _ _ (next_change count text others new news names more r rs) fail =
    let p = pair types m w text new names r in
    let ps = pairs types m w count others news more rs in
    let first : Section = section p.id p.content in
    All-cons DescribesNothing (section p.id p.new_content) ps.new_sections
    (λ d. All-head DescribesNothing first ps.sections fail ((pair_alike types m w text new names r).1 d))
    (pairs_alike types m w count others news more rs (All-tail DescribesNothing first ps.sections fail))

pub renamed_is_stripped : (types : List ℕ) (m : NewIndices) (w : Widths) (bytes left new : List ℕ) →
    IsStripped bytes left → RenamesModule types m w left new → IsStripped new new
renamed_is_stripped types m w bytes left new s r =
    let l = are_left s.texts s.new_texts s.are in
    let is = pairs types m w (length r.sections) r.texts r.new_texts r.names r.renames in
    let same : l.others ≡ is.sections =
    one_module left l.others is.sections (left_modules bytes left s l).1
    (module_of left r.texts r.sections is.sections r.is_module r.parts is.before) in
    let fail = pairs_alike types m w (length r.sections) r.texts r.new_texts r.names r.renames
    (subst (λ (u : List Section). All DescribesNothing u) same l.undescribed) in
    let h = have_same_ids types m w left new r in
    record {
      sections = h.new_sections;
      is_module = h.after;
      texts = r.new_texts;
      new_texts = r.new_texts;
      parts = r.new_parts;
      new_parts = r.new_parts;
      are = undescribed_stay r.new_texts is.new_sections is.after fail;
    }
