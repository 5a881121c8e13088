-- Names, and maps from indices to names, from the front of bytes.
use Rattle.std.proofs.Common.{◌≡◌, ℕ, ◌+◌, ◌-◌, ◌<◌, ◌≤◌, List, [], ◌∷◌, ◌++◌, length, Ok, refl, sym, ap, subst, ◌∙◌, arith, append_assoc, length-append}
use Rattle.wasm_binary.specs.Steps.Reading.{u32_at}
use Rattle.wasm_binary.proofs.Integers.{u32_sound}
use Rattle.wasm_module.specs.declared.name_maps.Follows.{Follows}
use Rattle.wasm_module.specs.declared.name_maps.Follows.TheVariants as follows
use Rattle.wasm_module.specs.NameSections.{IsName, name, IsIndexedName, indexed, IsVecOf, IsNameMap, TypeEntry, type_entry, IsEntry, entry, IsKnownEntry, known}
use Rattle.wasm_module.specs.Steps.Heads.{fault}
use Rattle.wasm_module.specs.Steps.NameSections.{Takes, BeginsNone, TakesSized, BeginsUnsized, IsFollowing, IsAny, TakesItems, TakesEntry, BeginsNoEntry}
use Rattle.wasm_module.proofs.SizedContents.{no_number, same_number, number_read, same_content}
use Rattle.wasm_module.proofs.TextItems.{IsPrefixFree, no_items, items_on, items_cut_off, vec_free, vec_taken, vec_countless, vec_items}

-- ---- names

pub name_taken : (content bytes rest : List ℕ) → TakesSized content bytes rest → Takes IsName bytes rest
name_taken content bytes rest t =
    record {
      text = t.size ++ content;
      is_text = name t.size content t.is_size;
      parts = t.parts ∙ sym (append_assoc t.size content rest);
    }

name_sized : (text rest : List ℕ) → IsName text → (content : List ℕ) × TakesSized content (text ++ rest) rest
name_sized _ rest (name size bytes h) =
    (bytes, record { size = size; is_size = h; parts = append_assoc size bytes rest })

pub no_name : (bytes : List ℕ) → BeginsUnsized bytes → BeginsNone IsName bytes
no_name bytes h rest t =
    let s = name_sized t.text rest t.is_text in
    h s.0 rest (subst (λ (u : List ℕ). TakesSized s.0 u rest) (sym t.parts) s.1)

pub name_free : IsPrefixFree IsName
name_free a b rest after h k e =
    let s = name_sized a rest h in
    let t = name_sized b after k in
    (same_content (b ++ after) s.0 rest t.0 after (subst (λ (u : List ℕ). TakesSized s.0 u rest) e s.1) t.1).1

-- ---- what follows an index

-- an index, and a text behind it
pub record Indexed (IsText : List ℕ → Type 0) (k : ℕ) (bytes rest : List ℕ) : Type 0 where
  pub behind : List ℕ
  pub reads : u32_at bytes ≡ Ok (k, behind)
  pub takes : Takes IsText behind rest

indexed_name : (text rest : List ℕ) (k : ℕ) → IsIndexedName text k → Indexed IsName k (text ++ rest) rest
indexed_name _ rest _ (indexed index text k h is_name) =
    record {
      behind = text ++ rest;
      reads = number_read ((index ++ text) ++ rest) index k (text ++ rest) h (append_assoc index text rest);
      takes = record { text = text; is_text = is_name; parts = refl };
    }

pub indexed_taken : (bytes : List ℕ) (k : ℕ) (behind rest : List ℕ) → u32_at bytes ≡ Ok (k, behind) →
    Takes IsName behind rest → Takes (IsAny IsIndexedName) bytes rest
indexed_taken bytes k behind rest e t =
    let n = u32_sound bytes k behind e in
    record {
      text = n.text ++ t.text;
      is_text = record { item = k; is_text = indexed n.text t.text k n.is_text t.is_text };
      parts = n.parts ∙ ap (λ (u : List ℕ). n.text ++ u) t.parts ∙ sym (append_assoc n.text t.text rest);
    }

pub opened_indexed : (bytes rest : List ℕ) (t : Takes (IsAny IsIndexedName) bytes rest) →
    Indexed IsName t.is_text.item bytes rest
opened_indexed bytes rest t =
    subst (λ (u : List ℕ). Indexed IsName t.is_text.item u rest) (sym t.parts)
    (indexed_name t.text rest t.is_text.item t.is_text.is_text)

pub no_index : (bytes left : List ℕ) → u32_at bytes ≡ fault left → BeginsNone (IsAny IsIndexedName) bytes
no_index bytes left e rest t = no_number (u32_at bytes) left _ _ e (opened_indexed bytes rest t).reads

pub no_name_behind : (bytes : List ℕ) (k : ℕ) (behind : List ℕ) → u32_at bytes ≡ Ok (k, behind) →
    BeginsNone IsName behind → BeginsNone (IsAny IsIndexedName) bytes
no_name_behind bytes k behind e h rest t =
    let o = opened_indexed bytes rest t in
    let same = same_number (u32_at bytes) k t.is_text.item behind o.behind e o.reads in
    h rest (subst (λ (u : List ℕ). Takes IsName u rest) (sym same.1) o.takes)

-- ---- maps from indices to names

pub indexed_name_free : IsPrefixFree (IsAny IsIndexedName)
indexed_name_free a b rest after h k e =
    let o = indexed_name a rest h.item h.is_text in
    let p = indexed_name b after k.item k.is_text in
    let same = same_number (u32_at (b ++ after)) h.item k.item o.behind p.behind (ap u32_at (sym e) ∙ o.reads)
    p.reads in
    name_free o.takes.text p.takes.text rest after o.takes.is_text p.takes.is_text (sym o.takes.parts ∙ same.1
    ∙ p.takes.parts)

module _ {A : Type 0} (IsText : List ℕ → A → Type 0) where
  -- items that were taken, by how many there are
  pub record TakesCount (count : ℕ) (bytes rest : List ℕ) : Type 0 where
    pub items : List A
    pub many : length items ≡ count
    pub takes : TakesItems IsText items bytes rest

  -- the bytes are a number of items, and as many as `taken` were taken behind it
  pub record VecUpTo (bytes : List ℕ) (count taken : ℕ) (rest : List ℕ) : Type 0 where
    pub behind : List ℕ
    pub reads : u32_at bytes ≡ Ok (count, behind)
    pub counted : TakesCount taken behind rest

  pub vec_begun : (bytes : List ℕ) (count : ℕ) (behind : List ℕ) → u32_at bytes ≡ Ok (count, behind) →
      VecUpTo bytes count 0 behind
  vec_begun bytes count behind e =
      record {
        behind = behind;
        reads = e;
        counted = record { items = []; many = refl; takes = no_items IsText behind };
      }

  pub vec_on : (bytes : List ℕ) (count taken : ℕ) (rest after : List ℕ) → VecUpTo bytes count taken rest →
      Takes (IsAny IsText) rest after → VecUpTo bytes count (taken + 1) after
  vec_on bytes count taken rest after v h =
      let t = v.counted in
      record {
        behind = v.behind;
        reads = v.reads;
        counted = record {
          items = t.items ++ h.is_text.item ∷ [];
          many = length-append t.items (h.is_text.item ∷ []) ∙ omega (arith, t.many);
          takes = items_on IsText t.items v.behind rest after h.text h.is_text.item t.takes h.is_text.is_text
              h.parts;
        };
      }

  pub vec_ended : (bytes : List ℕ) (count taken : ℕ) (rest : List ℕ) → VecUpTo bytes count taken rest →
      taken ≡ count → Takes (IsVecOf IsText) bytes rest
  vec_ended bytes count taken rest v e =
      let t = v.counted in
      let w = vec_taken IsText bytes count v.behind rest t.items v.reads (t.many ∙ e) t.takes in
      record { text = w.0; is_text = record { items = t.items; is_vec = w.1 }; parts = w.2 }

  pub no_count : (bytes left : List ℕ) → u32_at bytes ≡ fault left → BeginsNone (IsVecOf IsText) bytes
  no_count bytes left e rest t =
      vec_countless IsText t.text rest left t.is_text.items (ap u32_at (sym t.parts) ∙ e) t.is_text.is_vec

  pub no_item : IsPrefixFree (IsAny IsText) → (bytes : List ℕ) (count taken : ℕ) (rest : List ℕ) →
      VecUpTo bytes count taken rest → taken < count → BeginsNone (IsAny IsText) rest →
      BeginsNone (IsVecOf IsText) bytes
  no_item free bytes count taken rest v less h after m =
      let t = v.counted in
      let w = vec_items IsText m.text after count v.behind m.is_text.items (ap u32_at (sym m.parts) ∙ v.reads)
      m.is_text.is_vec in
      items_cut_off IsText free t.items v.behind rest count t.takes (omega (arith, t.many, less)) h
      m.is_text.items after w.0 w.1

pub name_map_free : IsPrefixFree IsNameMap
name_map_free a b rest after h k e =
    vec_free IsIndexedName indexed_name_free a b rest after h.items k.items h.is_vec k.is_vec e

pub following_free : (f : Follows) → IsPrefixFree (IsFollowing f)
following_free follows.Name = name_free
following_free follows.NameMap = name_map_free

-- ---- entries

module _ (Follows : List ℕ → Type 0) (count : ℕ) where
  abbrev IsKnown : List ℕ → TypeEntry → Type 0
  IsKnown = IsKnownEntry Follows count

  known_entry : (text : List ℕ) (e : TypeEntry) → IsKnown text e → IsEntry Follows text e × (e.index < count)
  known_entry _ _ (known text e h less) = (h, less)

  pub entry_any : (e : TypeEntry) (bytes rest : List ℕ) → TakesEntry Follows count e bytes rest →
      Takes (IsAny IsKnown) bytes rest
  entry_any e bytes rest t =
      record { text = t.text; is_text = record { item = e; is_text = t.is_entry }; parts = t.parts }

  -- what begins the bytes as an entry does
  record Opened (e : TypeEntry) (bytes rest : List ℕ) : Type 0 where
    behind : List ℕ
    reads : u32_at bytes ≡ Ok (e.index, behind)
    takes : Takes Follows behind rest
    is_known : e.index < count

  opened_text : (text rest : List ℕ) (e : TypeEntry) → IsEntry Follows text e → e.index < count →
      Opened e (text ++ rest) rest
  opened_text _ rest _ (entry text behind k h f) less =
      record {
        behind = behind ++ rest;
        reads = number_read ((text ++ behind) ++ rest) text k (behind ++ rest) h
            (append_assoc text behind rest);
        takes = record { text = behind; is_text = f; parts = refl };
        is_known = less;
      }

  opened_known : (text rest : List ℕ) (e : TypeEntry) → IsKnown text e → Opened e (text ++ rest) rest
  opened_known text rest e h = let k = known_entry text e h in opened_text text rest e k.0 k.1

  opened_entry : (bytes rest : List ℕ) (t : Takes (IsAny IsKnown) bytes rest) →
      Opened t.is_text.item bytes rest
  opened_entry bytes rest t =
      subst (λ (u : List ℕ). Opened t.is_text.item u rest) (sym t.parts)
      (opened_known t.text rest t.is_text.item t.is_text.is_text)

  pub entry_free : IsPrefixFree Follows → IsPrefixFree (IsAny IsKnown)
  entry_free free a b rest after h k e =
      let o = opened_known a rest h.item h.is_text in
      let p = opened_known b after k.item k.is_text in
      let same = same_number (u32_at (b ++ after)) h.item.index k.item.index o.behind p.behind
      (ap u32_at (sym e) ∙ o.reads) p.reads in
      free o.takes.text p.takes.text rest after o.takes.is_text p.takes.is_text (sym o.takes.parts ∙ same.1
      ∙ p.takes.parts)

  pub entry_indexless : (bytes left : List ℕ) → u32_at bytes ≡ fault left → BeginsNoEntry Follows count bytes
  entry_indexless bytes left e rest t = no_number (u32_at bytes) left _ _ e (opened_entry bytes rest t).reads

  pub entry_unknown : (bytes : List ℕ) (k : ℕ) (behind : List ℕ) → u32_at bytes ≡ Ok (k, behind) → count ≤ k →
      BeginsNoEntry Follows count bytes
  entry_unknown bytes k behind e le rest t =
      let o = opened_entry bytes rest t in
      let same = same_number (u32_at bytes) k t.is_text.item.index behind o.behind e o.reads in
      omega (arith, le, same.0, o.is_known)

  pub entry_malformed : (bytes : List ℕ) (k : ℕ) (behind : List ℕ) → u32_at bytes ≡ Ok (k, behind) →
      BeginsNone Follows behind → BeginsNoEntry Follows count bytes
  entry_malformed bytes k behind e h rest t =
      let o = opened_entry bytes rest t in
      let same = same_number (u32_at bytes) k t.is_text.item.index behind o.behind e o.reads in
      h rest (subst (λ (u : List ℕ). Takes Follows u rest) (sym same.1) o.takes)

  pub entry_taken : (bytes : List ℕ) (k width : ℕ) (behind text rest : List ℕ) →
      u32_at bytes ≡ Ok (k, behind) → width ≡ length bytes - length behind → Follows text →
      behind ≡ text ++ rest → k < count → TakesEntry Follows count (type_entry k width text) bytes rest
  entry_taken bytes k width behind text rest e wide f parts less =
      let t = u32_sound bytes k behind e in
      let long : length bytes ≡ length t.text + length behind = ap (λ (u : List ℕ). length u) t.parts
      ∙ length-append t.text behind in
      let width-is : length t.text ≡ width = omega (arith, wide, long) in
      record {
        text = t.text ++ text;
        is_entry = subst (λ (w : ℕ). IsKnown (t.text ++ text) (type_entry k w text)) width-is
            (known (t.text ++ text) (type_entry k (length t.text) text) (entry t.text text k t.is_text f) less);
        parts = t.parts ∙ ap (λ (u : List ℕ). t.text ++ u) parts ∙ sym (append_assoc t.text text rest);
      }
