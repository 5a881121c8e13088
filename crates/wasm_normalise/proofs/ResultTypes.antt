-- The types of a module that was renamed are those that it got.
use Rattle.std.proofs.Common.{◌≡◌, ℕ, ◌+◌, List, [], ◌∷◌, ◌++◌, length, ◌⊎◌, inl, inr, refl, sym, ap, subst, ◌∙◌, append_assoc}
use Rattle.std.specs.List.{All}
use Rattle.std.proofs.lemmas.List.{append_cancel_left, map-append}
use Rattle.std.proofs.lemmas.List.Elements.{All-nil, All-cons}
use Rattle.wasm_binary.specs.Grammar.{AreItems, none, next, IsTypes}
use Rattle.wasm_binary.specs.Leb128.{IsU32}
use Rattle.wasm_binary.specs.Modules.{Section, section, ids, IsSection, sized, AreInOrder, header, IsModule, around, IsTypeSectionAt, IsOther, HasNoTypeSection}
use Rattle.wasm_binary.specs.ModuleSections.{HasTypes, in_section}
use Rattle.wasm_binary.proofs.Modules.Faulting.{module_parts}
use Rattle.wasm_binary.proofs.Modules.TypeContents.{content_is}
use Rattle.walrus_ty.specs.declared.records.GroupAt.{GroupAt}
use Rattle.wasm_module.specs.declared.renaming.Widths.{Widths}
use Rattle.wasm_module.specs.Changes.{ChangeAll}
use Rattle.wasm_module.specs.Changes.ChangeAll.{none as no_change, next as next_change}
use Rattle.wasm_module.specs.Renaming.{NewIndices}
use Rattle.wasm_module.specs.RenamedModules.{RenamesSection, RenamesModule, type_section, other}
use Rattle.wasm_module.proofs.RenamedModules.{pair}
use Rattle.wasm_module.proofs.ModuleLaws.{same_ids, pairs, have_same_ids}
use Rattle.wasm_module.proofs.StrippedOnce.{module_of}

-- a type section of this content among others
record HasSection (types texts : List ℕ) : Type 0 where
  prefix : List ℕ
  size : List ℕ
  back : List ℕ
  before : List Section
  after : List Section
  is_size : IsU32 size (length types)
  parts : texts ≡ prefix ++ ((1 ∷ (size ++ types)) ++ back)
  are_before : AreItems IsSection prefix before
  are_after : AreItems IsSection back after
  are : AreItems IsSection texts (before ++ section 1 types ∷ after)

-- sections without a type section, before and after
record HaveNone (texts new : List ℕ) : Type 0 where
  sections : List Section
  new_sections : List Section
  are : AreItems IsSection texts sections
  are_new : AreItems IsSection new new_sections
  others : All IsOther sections
  new_others : All IsOther new_sections

its_id : (id : ℕ) (text : List ℕ) (s : Section) → IsSection (id ∷ text) s → s.id ≡ id
its_id _ _ _ (sized id size content h) = refl

find_types : (types : List ℕ) (m : NewIndices) (w : Widths) (count : ℕ) (texts new names : List ℕ) →
    ChangeAll (RenamesSection types m w) count texts new names → HasSection types new ⊎ HaveNone texts new
find_types types m w _ _ _ _ no_change =
    inr (record {
      sections = [];
      new_sections = [];
      are = none;
      are_new = none;
      others = All-nil IsOther;
      new_others = All-nil IsOther;
    })
find_types types m w _ _ _ _ (next_change count _ texts _ news _ more (type_section size content new_size h
    t) rs) =
    let p = pairs types m w count texts news more rs in
    inl (record {
      prefix = [];
      size = new_size;
      back = news;
      before = [];
      after = p.new_sections;
      is_size = t.is_text;
      parts = refl;
      are_before = none;
      are_after = p.after;
      are =
          next (1 ∷ (new_size ++ types)) news (section 1 types) p.new_sections (sized 1 new_size types
          t.is_text)
          p.after;
    })
find_types types m w _ _ _ _ (next_change count _ texts _ news _ more (other id text new names some c) rs) =
    let p = pair types m w (id ∷ text) (id ∷ new) names (other id text new names some c) in
    elim (find_types types m w count texts news more rs) [
      | inl f ↦ inl (record {
        prefix = (id ∷ new) ++ f.prefix;
        size = f.size;
        back = f.back;
        before = section p.id p.new_content ∷ f.before;
        after = f.after;
        is_size = f.is_size;
        parts = ap (λ (u : List ℕ). (id ∷ new) ++ u) f.parts
            ∙ sym (append_assoc (id ∷ new) f.prefix ((1 ∷ (f.size ++ types)) ++ f.back));
        are_before = next (id ∷ new) f.prefix (section p.id p.new_content) f.before p.after f.are_before;
        are_after = f.are_after;
        are =
            next (id ∷ new) news (section p.id p.new_content) (f.before ++ section 1 types ∷ f.after) p.after
            f.are;
      })
      | inr f ↦ inr (record {
        sections = section p.id p.content ∷ f.sections;
        new_sections = section p.id p.new_content ∷ f.new_sections;
        are = next (id ∷ text) texts (section p.id p.content) f.sections p.before f.are;
        are_new = next (id ∷ new) news (section p.id p.new_content) f.new_sections p.after f.are_new;
        others = All-cons IsOther (section p.id p.content) f.sections (λ e. some (sym (its_id id text
            (section p.id p.content) p.before) ∙ e)) f.others;
        new_others =
            All-cons IsOther (section p.id p.new_content) f.new_sections (λ e. some (sym (its_id id new
            (section p.id p.new_content) p.after) ∙ e))
            f.new_others;
      })
    ]

-- ---- modules

section_parts : (prefix size types back : List ℕ) →
    header ++ (prefix ++ ((1 ∷ (size ++ types)) ++ back))
    ≡ ((header ++ prefix) ++ 1 ∷ size) ++ (types ++ back)
section_parts prefix size types back =
    sym (append_assoc header prefix ((1 ∷ (size ++ types)) ++ back))
    ∙ ap (λ (u : List ℕ). (header ++ prefix) ++ 1 ∷ u) (append_assoc size types back)
    ∙ sym (append_assoc (header ++ prefix) (1 ∷ size) (types ++ back))

types_at : (types new texts : List ℕ) (sections : List Section) (f : HasSection types texts) →
    IsModule new sections → new ≡ header ++ texts →
    (t : IsTypeSectionAt new (length ((header ++ f.prefix) ++ 1 ∷ f.size))
    (length ((header ++ f.prefix) ++ 1 ∷ f.size) + length types)) × (t.content ≡ types)
types_at types new texts sections f is parts =
    let all = f.before ++ section 1 types ∷ f.after in
    let m = module_parts new sections is in
    let texts-are : m.0 ≡ texts = append_cancel_left header m.0 texts (sym m.1 ∙ parts) in
    let ids-are : ids sections ≡ ids all = same_ids m.0 texts sections all m.2.0 f.are texts-are in
    let order : AreInOrder 0 (ids f.before ++ 1 ∷ ids f.after) =
    subst (λ (u : List ℕ). AreInOrder 0 u)
    (ids-are ∙ map-append (λ (s : Section). s.id) f.before (section 1 types ∷ f.after)) m.2.1 in (
      record {
        prefix = header ++ f.prefix;
        size = f.size;
        content = types;
        back = f.back;
        around_it = around f.prefix f.back f.before f.after f.are_before f.are_after order;
        sized = f.is_size;
        parts = parts ∙ ap (λ (u : List ℕ). header ++ u) f.parts
            ∙ section_parts f.prefix f.size types f.back;
        starts = refl;
        stops = refl;
      },
      refl,
    )

-- the module has the new types, or neither module has a type section
pub has_new_types : (types : List ℕ) (m : NewIndices) (w : Widths) (bytes new : List ℕ) (groups : List
    GroupAt) →
    RenamesModule types m w bytes new → IsTypes types groups →
    HasTypes new groups ⊎ (HasNoTypeSection bytes × HasNoTypeSection new)
has_new_types types m w bytes new groups r text =
    let h = have_same_ids types m w bytes new r in
    elim (find_types types m w (length r.sections) r.texts r.new_texts r.names r.renames) [
      | inl f ↦ inl (
          let t = types_at types new r.new_texts h.new_sections f h.after r.new_parts in
          let start = length ((header ++ f.prefix) ++ 1 ∷ f.size) in
          let stop = start + length types in
          in_section start stop groups t.0
          (subst (λ (u : List ℕ). IsTypes u groups) (sym (content_is new start stop t.0 ∙ t.1)) text))
      | inr f ↦ inr (
        record {
          sections = f.sections;
          is_module = module_of bytes r.texts r.sections f.sections r.is_module r.parts f.are;
          others = f.others;
        },
        record {
          sections = f.new_sections;
          is_module =
              module_of new r.new_texts h.new_sections f.new_sections h.after r.new_parts f.are_new;
          others = f.new_others;
        },
      )
    ]
