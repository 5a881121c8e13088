-- Modules that are written again section by section.
use Rattle.std.proofs.Common.{◌≡◌, ℕ, ◌+◌, ◌-◌, ◌≤◌, List, [], ◌∷◌, ◌++◌, length, take, drop, refl, sym, ap, subst, ◌∙◌, arith, append_assoc, append-nil, length-append, take_at, drop_at, suc}
use Rattle.std.proofs.lemmas.List.{append_cancel_left}
use Rattle.std.specs.Prelude.{slice_range}
use Rattle.wasm_binary.specs.Leb128.{IsU32}
use Rattle.wasm_binary.specs.Modules.{Section, section, IsSection, sized, header, IsModule}
use Rattle.wasm_binary.proofs.Modules.Faulting.{module_parts}
use Rattle.wasm_binary.proofs.Modules.Uniqueness.{one_module}
use Rattle.wasm_module.specs.declared.renaming.Widths.{Widths}
use Rattle.wasm_module.specs.Changes.{TurnsInto, ChangesSized, stays, resized, ChangeAll, none, next, IsMalformed}
use Rattle.wasm_module.specs.RenamedModules.{RenamesAny, RenamesSection, RenamesModule, CanNotBeRenamed, FirstSectionIn, InContent, ModuleNamesUnknown, SectionBecomesTooLong, ModuleBecomesTooLong}
use Rattle.wasm_module.specs.RenamedModules.RenamesSection.{type_section, other}
use Rattle.wasm_module.specs.RenamedSections.{NamesUnknownIn}
use Rattle.wasm_module.proofs.RenamedSections.{in_content_of, too_long_longer}
use Rattle.wasm_module.specs.Sections.{PlacedSection, placed, framing, ArePlaced}
use Rattle.wasm_module.specs.Sections.ArePlaced.{none as nothing, next as placed_next}
use Rattle.wasm_module.specs.Steps.RenamedModules.{IsMalformedSection, SectionNamesUnknown}
use Rattle.wasm_module.specs.Steps.Renaming.{Appends}
use Rattle.wasm_module.specs.Renaming.{NewIndices}
use Rattle.wasm_module.proofs.SizedContents.{same_content}
use Rattle.wasm_module.proofs.Changing.{change_on, first_behind}
use Rattle.wasm_module.proofs.ChangedTexts.{EndsAlike, Changed, changed_behind}

-- ---- the section before and after

pub record ArePair (text new : List ℕ) : Type 0 where
  pub id : ℕ
  pub content : List ℕ
  pub new_content : List ℕ
  pub before : IsSection text (section id content)
  pub after : IsSection new (section id new_content)

unfoldable pub sized_pair : (id : ℕ) (new_indices : NewIndices) (w : Widths) (text new names : List ℕ) →
    ChangesSized w (RenamesAny id new_indices w) text new names → ArePair (id ∷ text) (id ∷ new)
sized_pair id new_indices w _ _ _ (stays size content h r) =
    record {
      id = id;
      content = content;
      new_content = content;
      before = sized id size content h;
      after = sized id size content h;
    }
sized_pair id new_indices w _ _ _ (resized size content new_size new names h r some is) =
    record {
      id = id;
      content = content;
      new_content = new;
      before = sized id size content h;
      after = sized id new_size new is.is_text;
    }

unfoldable pub pair : (types : List ℕ) (new_indices : NewIndices) (w : Widths) (text new names : List ℕ) →
    RenamesSection types new_indices w text new names → ArePair text new
pair types new_indices w _ _ _ (type_section size content new_size h is) =
    record {
      id = 1;
      content = content;
      new_content = types;
      before = sized 1 size content h;
      after = sized 1 new_size types is.is_text;
    }
pair types new_indices w _ _ _ (other id text new names some c) =
    sized_pair id new_indices w text new names c

-- ---- where a section ends

same_first : (a b : ℕ) (x y : List ℕ) → a ∷ x ≡ b ∷ y → a ≡ b
same_first a b x y e = cc

same_others : (a b : ℕ) (x y : List ℕ) → a ∷ x ≡ b ∷ y → x ≡ y
same_others a b x y e = cc

-- two sections that begin the same bytes
pub same_section : (text rest whole after : List ℕ) (s t : Section) → IsSection text s → IsSection whole t →
    text ++ rest ≡ whole ++ after → (s ≡ t) × (rest ≡ after)
same_section _ rest _ after _ _ (sized id size content h) (sized its_id its_size its_content k) e =
    let behind = same_others id its_id _ _ e in
    let same = same_content ((size ++ content) ++ rest) content rest its_content after
    (record { size = size; is_size = h; parts = append_assoc size content rest })
    (record { size = its_size; is_size = k; parts = behind ∙ append_assoc its_size its_content after }) in (
      ap (λ n. section n content) (same_first id its_id _ _ e)
          ∙ ap (λ (u : List ℕ). section its_id u) same.0,
      same.1,
    )

-- sized contents that begin the same bytes
same_sized : (a x b y rest after : List ℕ) → IsU32 a (length x) → IsU32 b (length y) →
    (a ++ x) ++ rest ≡ b ++ (y ++ after) → x ≡ y
same_sized a x b y rest after h k e =
    (same_content (b ++ (y ++ after)) x rest y after
    (record { size = a; is_size = h; parts = sym e ∙ append_assoc a x rest })
    (record { size = b; is_size = k; parts = refl })).0

ends_alike : (types : List ℕ) (new_indices : NewIndices) (widths : Widths) (others : List ℕ)
    (indices : NewIndices) (w : Widths) →
    EndsAlike (RenamesSection types new_indices widths) (RenamesSection others indices w)
ends_alike types new_indices widths others indices w x rest y after new_x names_x new_y names_y r q e =
    let p = pair types new_indices widths x new_x names_x r in
    let o = pair others indices w y new_y names_y q in
    (same_section x rest y after (section p.id p.content) (section o.id o.content) p.before o.before e).1

-- ---- the loop over the sections

abbrev pub Passing : Type 1
Passing = List ℕ → List ℕ → List PlacedSection → Type 0

-- what was passed of a module, what it became, and the sections that are left
pub record Walks (Done : Passing) (bytes : List ℕ) (left : List PlacedSection) (out : List ℕ) : Type 0 where
  pub texts : List ℕ
  pub rest : List ℕ
  pub new : List ℕ
  pub parts : bytes ≡ header ++ (texts ++ rest)
  pub places : ArePlaced (length header + length texts) rest left
  pub done : Done texts new left
  pub written : out ≡ header ++ new

-- the first of the sections that are left
pub record IsNext (bytes texts rest : List ℕ) (s : PlacedSection) (left : List PlacedSection) :
    Type 0 where
  pub size : List ℕ
  pub others : List ℕ
  pub is_size : IsU32 size (length s.framed.content)
  pub parts : rest ≡ (s.framed.id ∷ (size ++ s.framed.content)) ++ others
  pub begins : s.offset ≡ length header + length texts
  pub content_begins : s.content_offset ≡ s.offset + 1 + length size
  pub places : ArePlaced (length header + length (texts ++ s.framed.id ∷ (size ++ s.framed.content))) others
      left

pub placed_first : (bytes texts rest : List ℕ) (offset : ℕ) (all left : List PlacedSection)
    (s : PlacedSection) → offset ≡ length header + length texts → ArePlaced offset rest all → all ≡ s ∷ left →
    IsNext bytes texts rest s left
placed_first bytes texts _ _ _ left s at (nothing offset) e = absurd cc
placed_first bytes texts _ _ _ left s at (placed_next offset id size content others sections h hs) e =
    let here = placed offset (offset + 1 + length size) id content in
    let first : here ≡ s = first_placed here s sections left e in
    let behind : sections ≡ left = others_placed here s sections left e in
    let long : length (texts ++ id ∷ (size ++ content)) ≡ length texts + (1 + length size + length content) =
    length-append texts (id ∷ (size ++ content)) ∙ omega (arith, length-append size content) in
    let next-at : offset + 1 + length size + length content
    ≡ length header + length (texts ++ id ∷ (size ++ content)) = omega (arith, at, long) in
    subst (λ (k : PlacedSection). IsNext bytes texts (id ∷ (size ++ (content ++ others))) k left) first
    (record {
      size = size;
      others = others;
      is_size = h;
      parts = ap (λ (u : List ℕ). id ∷ u) (sym (append_assoc size content others));
      begins = at;
      content_begins = refl;
      places =
          subst (λ (k : ℕ). ArePlaced k others left) next-at
          (subst (λ (u : List PlacedSection). ArePlaced (offset + 1 + length size + length content) others u)
          behind hs);
    })
  where
    first_placed : (a b : PlacedSection) (x y : List PlacedSection) → a ∷ x ≡ b ∷ y → a ≡ b
    first_placed a b x y e = cc

    others_placed : (a b : PlacedSection) (x y : List PlacedSection) → a ∷ x ≡ b ∷ y → x ≡ y
    others_placed a b x y e = cc

-- a section is at its place
next_whole : (s : PlacedSection) (size others bytes : List ℕ) (offset : ℕ) →
    drop offset bytes ≡ (s.framed.id ∷ (size ++ s.framed.content)) ++ others → s.offset ≡ offset
    → s.content_offset ≡ s.offset + 1 + length size
    → slice_range bytes s.offset (s.content_offset + length s.framed.content)
    ≡ s.framed.id ∷ (size ++ s.framed.content)
next_whole s size others bytes offset e at content-at =
    let text : List ℕ = s.framed.id ∷ (size ++ s.framed.content) in
    let long : length text ≡ 1 + length size + length s.framed.content = omega (
      arith,
      length-append size
          s.framed.content,
    ) in
    let n : ℕ = s.content_offset + length s.framed.content - s.offset in
    let same : n ≡ length text = omega (arith, long, content-at) in
    ap (λ (k : ℕ). take n (drop k bytes)) at ∙ ap (take n) e ∙ take_at text others n (sym same)

pub record IsPlaced (bytes : List ℕ) (s : PlacedSection) (text : List ℕ) : Type 0 where
  pub ordered : s.offset ≤ s.content_offset + length s.framed.content
  pub fits : s.content_offset + length s.framed.content ≤ length bytes
  pub whole : IsSection text s.framed
  pub cut : slice_range bytes s.offset (s.content_offset + length s.framed.content) ≡ text

pub is_placed : (bytes texts rest : List ℕ) (s : PlacedSection) (left : List PlacedSection) →
    bytes ≡ header ++ (texts ++ rest) → (n : IsNext bytes texts rest s left) →
    IsPlaced bytes s (s.framed.id ∷ (n.size ++ s.framed.content))
is_placed bytes texts rest s left e n =
    let text : List ℕ = s.framed.id ∷ (n.size ++ s.framed.content) in
    let all : bytes ≡ (header ++ texts) ++ (text ++ n.others) = e
    ∙ ap (λ (u : List ℕ). header ++ (texts ++ u)) n.parts
    ∙ sym (append_assoc header texts (text ++ n.others)) in
    let prefix : length (header ++ texts) ≡ length header + length texts = length-append header texts in
    let behind : drop s.offset bytes ≡ text ++ n.others = ap (drop s.offset) all
    ∙ drop_at (header ++ texts) (text ++ n.others) s.offset (prefix ∙ sym n.begins) in
    let long : length text ≡ 1 + length n.size + length s.framed.content = omega (
      arith,
      length-append n.size
          s.framed.content,
    ) in
    let total : length bytes ≡ length (header ++ texts) + length (text ++ n.others) = ap (λ (u : List ℕ).
    length u) all ∙ length-append (header ++ texts) (text ++ n.others) in
    record {
      ordered = omega (arith, n.content_begins);
      fits =
          omega (arith, n.content_begins, n.begins, total, prefix, long, length-append text n.others);
      whole = sized s.framed.id n.size s.framed.content n.is_size;
      cut = next_whole s n.size n.others bytes s.offset behind refl n.content_begins;
    }

module _ {Done : Passing} {bytes : List ℕ} {old left : List PlacedSection} {out : List ℕ} {s : PlacedSection}
    (w : Walks Done bytes old out) (e : old ≡ s ∷ left) where
  pub next_of : IsNext bytes w.texts w.rest s left
  next_of = placed_first bytes w.texts w.rest (length header + length w.texts) old left s refl w.places e

  pub section_placed : IsPlaced bytes s (s.framed.id ∷ (next_of.size ++ s.framed.content))
  section_placed = is_placed bytes w.texts w.rest s left w.parts next_of

  pub section_whole : {text : List ℕ} →
      text ≡ slice_range bytes s.offset (s.content_offset + length s.framed.content) → IsSection text s.framed
  section_whole cut =
      subst (λ (u : List ℕ). IsSection u s.framed) (sym (cut ∙ section_placed.cut)) section_placed.whole

-- ---- from section to section

pub walk_begun : (Done : Passing) (bytes : List ℕ) (all : List PlacedSection) (out : List ℕ) →
    IsModule bytes (framing all) → ArePlaced (length header) (drop (length header) bytes) all
    → out ≡ take (length header) bytes → Done [] [] all → Walks Done bytes all out
walk_begun Done bytes all out m places e done =
    let p = module_parts bytes (framing all) m in
    let behind : drop (length header) bytes ≡ p.0 = ap (drop (length header)) p.1
    ∙ drop_at header p.0 (length header) refl in
    record {
      texts = [];
      rest = p.0;
      new = [];
      parts = p.1;
      places = subst (λ (u : List ℕ). ArePlaced (length header) u all) behind places;
      done = done;
      written = e ∙ ap (take (length header)) p.1 ∙ take_at header p.0 (length header) refl;
    }

module _ {Done : Passing} {bytes : List ℕ} {old left : List PlacedSection} {out : List ℕ} {s : PlacedSection}
    (w : Walks Done bytes old out) (e : old ≡ s ∷ left) where
  pub walk_on : {new_out text : List ℕ} (more : List ℕ)
      → text ≡ slice_range bytes s.offset (s.content_offset + length s.framed.content)
      → new_out ≡ out ++ more → Done (w.texts ++ text) (w.new ++ more) left → Walks Done bytes left new_out
  walk_on {text = text} more cut is done =
      let n = next_of w e in
      let whole : List ℕ = s.framed.id ∷ (n.size ++ s.framed.content) in
      let p = section_placed w e in
      let same : text ≡ whole = cut ∙ p.cut in
      record {
        texts = w.texts ++ whole;
        rest = n.others;
        new = w.new ++ more;
        parts =
            w.parts ∙ ap (λ (u : List ℕ). header ++ (w.texts ++ u)) n.parts
            ∙ ap (λ (u : List ℕ). header ++ u) (sym (append_assoc w.texts whole n.others));
        places = n.places;
        done = subst (λ (u : List ℕ). Done (w.texts ++ u) (w.new ++ more) left) same done;
        written = is ∙ ap (λ (u : List ℕ). u ++ more) w.written ∙ append_assoc header w.new more;
      }

-- ---- sections that are renamed

pub record Renamed (types : List ℕ) (new_indices : NewIndices) (widths : Widths) (all : List PlacedSection)
    (texts new : List ℕ) (left : List PlacedSection) : Type 0 where
  pub count : ℕ
  pub names : List ℕ
  pub many : length all ≡ count + length left
  pub renames : ChangeAll (RenamesSection types new_indices widths) count texts new names

abbrev pub IsBegun : (types : List ℕ) (new_indices : NewIndices) (widths : Widths) (bytes : List ℕ)
    (all left : List PlacedSection) (out : List ℕ) → Type 0
IsBegun types new_indices widths bytes all left out =
    Walks (Renamed types new_indices widths all) bytes left out

pub none_renamed : (types : List ℕ) (new_indices : NewIndices) (widths : Widths) (all : List PlacedSection) →
    Renamed types new_indices widths all [] [] all
none_renamed types new_indices widths all =
    record { count = 0; names = []; many = omega arith; renames = none }

module _ {types : List ℕ} {new_indices : NewIndices} {widths : Widths} {bytes : List ℕ}
    {all old left : List PlacedSection} {out : List ℕ} {s : PlacedSection}
    (w : IsBegun types new_indices widths bytes all old out) (e : old ≡ s ∷ left) where
  pub module_on : {text new_out : List ℕ}
      → text ≡ slice_range bytes s.offset (s.content_offset + length s.framed.content)
      → Appends (λ new. TurnsInto (RenamesSection types new_indices widths) text new) out new_out
      → IsBegun types new_indices widths bytes all left new_out
  module_on {text = text} cut a =
      let long : length old ≡ suc (length left) = ap (λ (u : List PlacedSection). length u) e in
      walk_on w e a.text cut a.parts
      (record {
        count = w.done.count + 1;
        names = w.done.names ++ a.is_text.names;
        many = omega (arith, w.done.many, long);
        renames =
            change_on (RenamesSection types new_indices widths) w.done.count w.texts w.new w.done.names text
            a.text a.is_text.names w.done.renames a.is_text.becomes;
      })

-- how many sections there are
many_sections : (all : List PlacedSection) → length (framing all) ≡ length all
many_sections [] = refl
many_sections (s ∷ all) = ap suc (many_sections all)

pub module_renamed : (types : List ℕ) (new_indices : NewIndices) (widths : Widths) (bytes : List ℕ)
    (all left : List PlacedSection) (out : List ℕ) → IsModule bytes (framing all)
    → IsBegun types new_indices widths bytes all left out → left ≡ []
    → RenamesModule types new_indices widths bytes out
module_renamed types new_indices widths bytes all left out m w e =
    let p = module_parts bytes (framing all) m in
    let none-left : length left ≡ 0 = ap (λ (u : List PlacedSection). length u) e in
    let many : w.done.count ≡ length (framing all) = omega (arith, many_sections all, w.done.many, none-left) in
    let rest-is : w.rest ≡ [] = nothing_left (length header + length w.texts) w.rest left w.places e in
    record {
      sections = framing all;
      is_module = m;
      texts = w.texts;
      new_texts = w.new;
      names = w.done.names;
      parts =
          w.parts ∙ ap (λ (u : List ℕ). header ++ (w.texts ++ u)) rest-is
          ∙ ap (λ (u : List ℕ). header ++ u) (append-nil w.texts);
      new_parts = w.written;
      renames =
          subst (λ (k : ℕ). ChangeAll (RenamesSection types new_indices widths) k w.texts w.new w.done.names) many
          w.done.renames;
    }
  where
    nothing_left : (offset : ℕ) (rest : List ℕ) (sections : List PlacedSection) →
        ArePlaced offset rest sections → sections ≡ [] → rest ≡ []
    nothing_left _ _ _ (nothing offset) h = refl
    nothing_left _ _ _ (placed_next offset id size content others sections h hs) e = absurd cc

-- ---- what is refused

-- a section of the same bytes is not renamed either
malformed_sized : (id : ℕ) (indices : NewIndices) (w : Widths) (text new names content : List ℕ)
    (size : List ℕ) → IsU32 size (length content) → ChangesSized w (RenamesAny id indices w) text new names
    → (rest others : List ℕ) → text ++ rest ≡ size ++ (content ++ others)
    → IsMalformed (RenamesAny id) content → ⊥
malformed_sized id indices w _ _ _ content size h (stays old old_content k r) rest others e bad =
    let same = same_sized old old_content size content rest others k h e in
    bad indices w old_content []
    (subst (λ (u : List ℕ). RenamesAny id indices w u old_content []) same r)
malformed_sized id indices w _ _ _ content size h (resized old old_content new_size new names k r some is)
    rest others e bad =
    let same = same_sized old old_content size content rest others k h e in
    bad indices w new names (subst (λ (u : List ℕ). RenamesAny id indices w u new names) same r)

malformed_section : (others : List ℕ) (indices : NewIndices) (w : Widths) (text new names : List ℕ) (id : ℕ)
    (size content rest after : List ℕ) → IsU32 size (length content)
    → RenamesSection others indices w text new names
    → text ++ rest ≡ (id ∷ (size ++ content)) ++ after → IsMalformedSection id content → ⊥
malformed_section others indices w _ _ _ id size content rest after h
    (type_section old old_content new_size k is) e bad = bad.other (sym (same_first 1 id _ _ e))
malformed_section others indices w _ _ _ id size content rest after h (other old text new names some c) e
    bad =
    let same : old ≡ id = same_first old id _ _ e in
    let behind : text ++ rest ≡ size ++ (content ++ after) = same_others old id _ _ e
    ∙ append_assoc size content after in
    malformed_sized id indices w text new names content size h
    (subst (λ (k : ℕ). ChangesSized w (RenamesAny k indices w) text new names) same c) rest after behind
    bad.malformed

-- where the next section is malformed the module can't be renamed
malformed_next : (others : List ℕ) (indices : NewIndices) (w : Widths) (count : ℕ) (id : ℕ)
    (size content rest : List ℕ) →
    IsU32 size (length content) → IsMalformedSection id content
    → (c : Changed (RenamesSection others indices w) (suc count) ((id ∷ (size ++ content)) ++ rest)) → ⊥
malformed_next others indices w count id size content rest h bad c =
    first_is (suc count) _ c.new c.names c.are refl refl
  where
    first_is : (n : ℕ) (texts new names : List ℕ) →
        ChangeAll (RenamesSection others indices w) n texts new names → n ≡ suc count →
        texts ≡ (id ∷ (size ++ content)) ++ rest → ⊥
    first_is _ _ _ _ none e is = absurd (omega (arith, e))
    first_is _ _ _ _ (next m text after new new_after names more r rs) e is =
        malformed_section others indices w text new names id size content after rest h r is bad

module _ {types : List ℕ} {new_indices : NewIndices} {widths : Widths} {bytes : List ℕ}
    {all old left : List PlacedSection} {out : List ℕ} {s : PlacedSection} (m : IsModule bytes (framing all))
    (w : IsBegun types new_indices widths bytes all old out) (e : old ≡ s ∷ left) where
  total : length (framing all) ≡ w.done.count + suc (length left)
  total =
      let long : length old ≡ suc (length left) = ap (λ (u : List PlacedSection). length u) e in
      omega (arith, many_sections all, w.done.many, long)

  pub module_malformed : IsMalformedSection s.framed.id s.framed.content → CanNotBeRenamed bytes
  module_malformed bad others indices v new r =
      let n = next_of w e in
      let sections : r.sections ≡ framing all = one_module bytes r.sections (framing all) r.is_module m in
      let many : length r.sections ≡ w.done.count + suc (length left) = ap (λ (u : List Section). length u)
      sections ∙ total in
      let texts-are : r.texts ≡ w.texts ++ w.rest = append_cancel_left header r.texts (w.texts ++ w.rest)
      (sym r.parts ∙ w.parts) in
      let c = changed_behind (RenamesSection types new_indices widths) (RenamesSection others indices v)
      (ends_alike types new_indices widths others indices v) w.done.count (suc (length left))
      (length r.sections) w.texts w.rest r.texts w.new w.done.names r.new_texts r.names many texts-are
      w.done.renames r.renames in
      malformed_next others indices v (length left) s.framed.id n.size s.framed.content n.others n.is_size bad
      (subst (λ (u : List ℕ). Changed (RenamesSection others indices v) (suc (length left)) u) n.parts c)

  first_section : (F : List ℕ → Type 0) → F w.rest → FirstSectionIn types new_indices widths F bytes
  first_section F found =
      record {
        sections = framing all;
        is_module = m;
        texts = w.texts ++ w.rest;
        parts = w.parts;
        first =
            first_behind (RenamesSection types new_indices widths) F w.done.count w.texts w.new w.done.names
            w.done.renames (length (framing all)) w.rest (omega (arith, total)) found;
      }

  pub module_unknown : (k : ℕ) → SectionNamesUnknown new_indices widths k s.framed.id s.framed.content →
      ModuleNamesUnknown types new_indices widths k bytes
  module_unknown k u =
      let n = next_of w e in
      let F : List ℕ → Type 0 = InContent (λ id. NamesUnknownIn id new_indices widths k) in
      let found : F w.rest = subst F (sym n.parts)
      (in_content_of (λ id. NamesUnknownIn id new_indices widths k) s.framed.id n.size s.framed.content
      n.others u.other n.is_size u.unknown) in
      first_section F found

  pub module_too_long : {text : List ℕ}
      → text ≡ slice_range bytes s.offset (s.content_offset + length s.framed.content)
      → SectionBecomesTooLong types new_indices widths text
      → ModuleBecomesTooLong types new_indices widths bytes
  module_too_long {text = text} cut h =
      let n = next_of w e in
      let p = section_placed w e in
      let whole : List ℕ = s.framed.id ∷ (n.size ++ s.framed.content) in
      let same : text ≡ whole = cut ∙ p.cut in
      let found : SectionBecomesTooLong types new_indices widths w.rest =
      subst (λ (u : List ℕ). SectionBecomesTooLong types new_indices widths u) (sym n.parts)
      (too_long_longer types new_indices widths whole n.others
      (subst (λ (u : List ℕ). SectionBecomesTooLong types new_indices widths u) same h)) in
      first_section (SectionBecomesTooLong types new_indices widths) found

-- an unknown type stays unknown with equal new indices, and the types play no role
pub unknown_for : (types : List ℕ) (new_indices others : NewIndices) (widths : Widths) (k : ℕ) (bytes : List ℕ)
    → new_indices ≡ others → ModuleNamesUnknown types new_indices widths k bytes
    → (types : List ℕ) × ModuleNamesUnknown types others widths k bytes
unknown_for types new_indices others widths k bytes e h =
    (types, subst (λ (u : NewIndices). ModuleNamesUnknown types u widths k bytes) e h)
