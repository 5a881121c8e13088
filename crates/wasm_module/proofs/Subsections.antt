-- Subsections of a name section, one after another, with other indices of types.
use Rattle.std.proofs.Common.{◌≡◌, ℕ, ◌+◌, ◌-◌, ◌<◌, ◌≤◌, ◌^◌, List, [], ◌∷◌, ◌++◌, length, take, drop, get_or, Option, Some, None, Result, Ok, Err, sym, ap, subst, ◌∙◌, arith, append_assoc, length-append}
use Rattle.std.specs.Prelude.{IfSome, IfNone, IfOk}
use Rattle.wasm_module.specs.declared.renaming.Widths.{Widths}
use Rattle.wasm_binary.specs.Grammar.{AreItems, none, next}
use Rattle.wasm_module.specs.Changes.{Changes, stays, resized, BecomesTooLong, InSized, in_content}
use Rattle.wasm_module.specs.Renaming.{NewIndices, least_width, IsTextOf}
use Rattle.wasm_module.specs.NameSections.{IsName, IsNameMap, RenamesMap, RenamesNames, RenamesSubsection, subsection, IsTypeMap, AreNames, IsSubsection}
use Rattle.wasm_module.specs.NameSections.IsSubsection.{sized as with_size}
use Rattle.wasm_module.specs.NameSections.RenamesNames.{type_names, field_names}
use Rattle.wasm_module.specs.NameSections.AreNames.{type_names as are_type_names, field_names as are_field_names, others as are_others}
use Rattle.wasm_module.specs.Steps.Changes.{IsChangedUpTo}
use Rattle.wasm_module.specs.Steps.Renaming.{Appends}
use Rattle.wasm_module.specs.Steps.NameSections.{Takes, BeginsNone, TakesSized, BeginsUnsized, IsAny, BeginsSubsectionIn, begins}
use Rattle.wasm_module.proofs.SizedContents.{same_content}
use Rattle.wasm_module.proofs.Changing.{none_weaker, some_weaker, before, changed_passed, changed_on}
use Rattle.wasm_module.proofs.Searching.{integer_short}

-- ---- what one call says of another

pub none_holds : {A P : Type 0} (o : Option A) → o ≡ None → IfNone o P → P
none_holds (Some y) e h = absurd cc
none_holds None e h = h

pub ok_none : {A E P Q : Type 0} → (P → Q) → (r : Result (Option A) E) → IfOk r (λ o. IfNone o P) →
    IfOk r (λ o. IfNone o Q)
ok_none f (Ok o) h = none_weaker o _ _ f h
ok_none f (Err e) h = tt

pub ok_some : {A E : Type 0} {P Q : A → Type 0} → ((x : A) → P x → Q x) → (r : Result (Option A) E) →
    IfOk r (λ o. IfSome o P) → IfOk r (λ o. IfSome o Q)
ok_some f (Ok o) h = some_weaker o _ _ f h
ok_some f (Err e) h = tt

-- ---- the content of one, by its id

pub type_names_change : (id : ℕ) (new_indices : NewIndices) (widths : Widths) (content new : List ℕ) →
    id ≡ 4 →
    Changes (RenamesMap IsName new_indices widths) content new →
    Changes (RenamesNames id new_indices widths) content new
type_names_change id new_indices widths content new e c =
    record {
      names = c.names;
      becomes = type_names content new c.names e c.becomes;
      is_naming = c.is_naming;
    }

pub field_names_change : (id : ℕ) (new_indices : NewIndices) (widths : Widths) (content new : List ℕ) →
    id ≡ 10
    → Changes (RenamesMap IsNameMap new_indices widths) content new →
    Changes (RenamesNames id new_indices widths) content new
field_names_change id new_indices widths content new e c =
    record {
      names = c.names;
      becomes = field_names content new c.names e c.becomes;
      is_naming = c.is_naming;
    }

-- the map that names by a subsection's id are
pub type_map : (count id : ℕ) (text : List ℕ) → id ≡ 4 → AreNames count id text → IsTypeMap IsName count text
type_map count id _ e (are_type_names text is h) = h
type_map count id _ e (are_field_names text is h) = absurd (omega (arith, e, is))
type_map count id _ e (are_others text fails lacks) = absurd (fails e)

pub field_map : (count id : ℕ) (text : List ℕ) → id ≡ 10 → AreNames count id text →
    IsTypeMap IsNameMap count text
field_map count id _ e (are_type_names text is h) = absurd (omega (arith, e, is))
field_map count id _ e (are_field_names text is h) = h
field_map count id _ e (are_others text fails lacks) = absurd (lacks e)

-- ---- one subsection

pub begins_in : (F : ℕ → List ℕ → Type 0) (bytes : List ℕ) (id : ℕ) (behind content after : List ℕ) →
    bytes ≡ id ∷ behind → TakesSized content behind after → F id content → BeginsSubsectionIn F bytes
begins_in F bytes id behind content after e s f =
    subst (λ (u : List ℕ). BeginsSubsectionIn F u) (sym e)
    (begins id behind (subst (λ (u : List ℕ). InSized (F id) u) (sym s.parts)
    (in_content s.size content after s.is_size f)))

-- ---- those that can be read, where there are this many types

module _ (count : ℕ) where
  abbrev IsAnySubsection : List ℕ → Type 0
  IsAnySubsection = IsAny (IsSubsection count)

  record Opened (id : ℕ) (behind rest : List ℕ) : Type 0 where
    content : List ℕ
    takes : TakesSized content behind rest
    are : AreNames count id content

  opened_text : (text : List ℕ) (its_id id : ℕ) (behind rest : List ℕ) → IsSubsection count text its_id →
      id ∷ behind ≡ text ++ rest → Opened id behind rest
  opened_text _ its_id id behind rest (with_size _ size content h are) e =
      record {
        content = content;
        takes = record {
          size = size;
          is_size = h;
          parts = ap (λ (u : List ℕ). drop 1 u) e ∙ append_assoc size content rest;
        };
        are = subst (λ k. AreNames count k content) (sym (ap (λ (u : List ℕ). get_or u 0 0) e)) are;
      }

  opened : (bytes : List ℕ) (id : ℕ) (behind rest : List ℕ) → bytes ≡ id ∷ behind →
      Takes IsAnySubsection bytes rest → Opened id behind rest
  opened bytes id behind rest e t =
      opened_text t.text t.is_text.item id behind rest t.is_text.is_text (sym e ∙ t.parts)

  pub subsection_taken : (bytes : List ℕ) (id : ℕ) (behind content after : List ℕ) → bytes ≡ id ∷ behind →
      TakesSized content behind after → AreNames count id content → Takes IsAnySubsection bytes after
  subsection_taken bytes id behind content after e s are =
      record {
        text = id ∷ (s.size ++ content);
        is_text = record { item = id; is_text = with_size id s.size content s.is_size are };
        parts = e ∙ ap (λ (u : List ℕ). id ∷ u) (s.parts ∙ sym (append_assoc s.size content after));
      }

  pub unsized_subsection : (bytes : List ℕ) (id : ℕ) (behind : List ℕ) → bytes ≡ id ∷ behind →
      BeginsUnsized behind → BeginsNone IsAnySubsection bytes
  unsized_subsection bytes id behind e h rest t =
      let o = opened bytes id behind rest e t in h o.content rest o.takes

  pub unread_subsection : (bytes : List ℕ) (id : ℕ) (behind content after : List ℕ) → bytes ≡ id ∷ behind →
      TakesSized content behind after → ¬ (AreNames count id content) → BeginsNone IsAnySubsection bytes
  unread_subsection bytes id behind content after e s h rest t =
      let o = opened bytes id behind rest e t in
      let same = same_content behind content after o.content rest s o.takes in
      h (subst (λ (u : List ℕ). AreNames count id u) (sym same.0) o.are)

  pub subsection_long : (text : List ℕ) (id : ℕ) → IsSubsection count text id → 0 < length text
  subsection_long _ id (with_size _ size content h are) = omega arith

  subsection_free : (a b rest after : List ℕ) (x y : ℕ) → IsSubsection count a x → IsSubsection count b y →
      a ++ rest ≡ b ++ after → rest ≡ after
  subsection_free _ b rest after x y (with_size _ size content h are) k e =
      let o = opened_text b y x ((size ++ content) ++ rest) after k e in
      (same_content ((size ++ content) ++ rest) content rest o.content after
      (record { size = size; is_size = h; parts = append_assoc size content rest }) o.takes).1

  -- a subsection behind subsections, where all of the bytes are subsections and some are left
  pub next_subsection : (text : List ℕ) (ids : List ℕ) (whole : List ℕ) (all rest : List ℕ) →
      AreItems (IsSubsection count) text ids → AreItems (IsSubsection count) whole all →
      text ++ rest ≡ whole → (rest ≡ [] → ⊥) → (after : List ℕ) × Takes IsAnySubsection rest after
  next_subsection _ _ _ _ rest none none e some = absurd (some e)
  next_subsection _ _ _ _ rest none (next text others id ids h hs) e some =
      (others, record { text = text; is_text = record { item = id; is_text = h }; parts = e })
  next_subsection _ _ _ _ rest (next text others id ids h hs) none e some =
      absurd (let k = subsection_long text id h in
      let long : length ((text ++ others) ++ rest) ≡ 0 = ap (λ (u : List ℕ). length u) e in
      omega (arith, k, long, length-append (text ++ others) rest, length-append text others))
  next_subsection _ _ _ _ rest (next text others id ids h hs) (next its whole other all k ks) e some =
      let same : text ++ (others ++ rest) ≡ its ++ whole = sym (append_assoc text others rest) ∙ e in
      next_subsection others ids whole all rest hs ks
      (subsection_free text its (others ++ rest) whole id other h k same) some

-- ---- what becomes of one

-- the subsection stays
pub subsection_stays : (new_indices : NewIndices) (widths : Widths) (count : ℕ)
    (header whole unwritten bytes out : List ℕ) (id : ℕ) (behind content after : List ℕ) →
    bytes ≡ id ∷ behind → TakesSized content behind after →
    RenamesNames id new_indices widths content content [] →
    IsChangedUpTo (RenamesSubsection new_indices widths) count header whole bytes unwritten out →
    IsChangedUpTo (RenamesSubsection new_indices widths) (count + 1) header whole after unwritten out
subsection_stays new_indices widths count header whole unwritten bytes out id behind content after e s r u =
    changed_passed (RenamesSubsection new_indices widths) count header whole bytes after unwritten out u
    (record {
      text = id ∷ (s.size ++ content);
      parts = e ∙ ap (λ (x : List ℕ). id ∷ x) (s.parts ∙ sym (append_assoc s.size content after));
      stays = subsection id (s.size ++ content) (s.size ++ content) [] (stays s.size content s.is_size r);
    })

id_some : (id : ℕ) (text : List ℕ) → id ∷ text ≡ [] → ⊥
id_some id text e = absurd cc

size_long : (behind content after : List ℕ) (s : TakesSized content behind after) →
    length behind - length after - length content ≡ length s.size
size_long behind content after s =
    let long : length behind ≡ length s.size + (length content + length after) =
    ap (λ (x : List ℕ). length x) s.parts ∙ length-append s.size (content ++ after)
    ∙ ap (λ n. length s.size + n) (length-append content after) in
    omega (arith, long)

pub size_short : (behind content after : List ℕ) → TakesSized content behind after →
    length behind - length after - length content ≤ 5
size_short behind content after s =
    let short = integer_short 0x80 s.size (length content) s.is_size in
    omega (arith, size_long behind content after s, short)

pub subsection_too_long : (id : ℕ) (new_indices : NewIndices) (widths : Widths) (content new : List ℕ) →
    Changes (RenamesNames id new_indices widths) content new → 2 ^ 32 ≤ length new →
    BecomesTooLong (RenamesNames id new_indices widths) content
subsection_too_long id new_indices widths content new c long =
    record { new = new; names = c.names; becomes = c.becomes; long = long }

-- the subsection is written
pub subsection_written : (new_indices : NewIndices) (widths : Widths) (count : ℕ)
    (header whole unwritten bytes out : List ℕ) (id : ℕ)
    (behind content after new mid sized final : List ℕ) (least n : ℕ) → bytes ≡ id ∷ behind →
    TakesSized content behind after → Changes (RenamesNames id new_indices widths) content new →
    least ≡ least_width widths (length behind - length after - length content) → n ≡ length new →
    mid ≡ out ++ take (length unwritten - length behind) unwritten →
    Appends (λ text. IsTextOf 0x80 least text n) mid sized → final ≡ sized ++ new →
    IsChangedUpTo (RenamesSubsection new_indices widths) count header whole bytes unwritten out →
    IsChangedUpTo (RenamesSubsection new_indices widths) (count + 1) header whole after after final
subsection_written new_indices widths count header whole unwritten bytes out id behind content after new mid
    sized final least n e s c least-is n-is mid-is a final-is u =
    let its_new : List ℕ = a.text ++ new in
    let cut : unwritten ≡ (u.passed ++ id ∷ []) ++ behind = u.not_written
    ∙ ap (λ (x : List ℕ). u.passed ++ x) e ∙ sym (append_assoc u.passed (id ∷ []) behind) in
    let mid_whole : mid ≡ (out ++ u.passed) ++ id ∷ [] = mid-is
    ∙ ap (λ (x : List ℕ). out ++ x) (before unwritten (u.passed ++ id ∷ []) behind cut)
    ∙ sym (append_assoc out u.passed (id ∷ [])) in
    let whole_final : final ≡ (out ++ u.passed) ++ (id ∷ its_new) = final-is
    ∙ ap (λ (x : List ℕ). x ++ new) (a.parts ∙ ap (λ (x : List ℕ). x ++ a.text) mid_whole)
    ∙ append_assoc ((out ++ u.passed) ++ id ∷ []) a.text new ∙ append_assoc (out ++ u.passed) (id ∷ []) its_new
    in
    let is_size : IsTextOf 0x80 (least_width widths (length s.size)) a.text (length new) =
    subst (λ m. IsTextOf 0x80 (least_width widths m) a.text (length new)) (size_long behind content after s)
    (subst (λ m. IsTextOf 0x80 m a.text (length new)) least-is
    (subst (λ m. IsTextOf 0x80 least a.text m) n-is a.is_text)) in
    changed_on (RenamesSubsection new_indices widths) count header whole bytes after unwritten out
    (id ∷ its_new) final u
    (record {
      text = id ∷ (s.size ++ content);
      parts = e ∙ ap (λ (x : List ℕ). id ∷ x) (s.parts ∙ sym (append_assoc s.size content after));
      changes = record {
        names = c.names;
        becomes = subsection id (s.size ++ content) its_new c.names
            (resized s.size content a.text new c.names s.is_size c.becomes c.is_naming is_size);
        is_naming = c.is_naming;
      };
    }) (id_some id its_new) whole_final
