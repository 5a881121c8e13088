-- The bodies of a code section, from the front of bytes.
use Rattle.std.proofs.Common.{◌≡◌, ℕ, ◌+◌, ◌<◌, ◌≤◌, List, [], ◌∷◌, ◌++◌, length, take, drop, Ok, refl, sym, ap, subst, ◌∙◌, arith, append_assoc, append-nil, length-append, take_at}
use Rattle.std.specs.List.{concat}
use Rattle.wasm_binary.specs.Grammar.{none, IsVec}
use Rattle.wasm_binary.specs.Steps.Reading.{u32_at}
use Rattle.wasm_module.specs.declared.scan.ScanError.{ScanError}
use Rattle.wasm_module.specs.declared.scan.ScanError.TheVariants as scan
use Rattle.wasm_module.specs.Bodies.{IsBody, IsNoBody}
use Rattle.wasm_module.specs.NamedTypes.{IsSizedBody, sized, IsCode}
use Rattle.wasm_module.specs.Steps.Heads.{fault}
use Rattle.wasm_module.specs.Steps.NameSections.{TakesSized, IsAny, TakesItems}
use Rattle.wasm_module.proofs.SizedContents.{same_number, sized_read, sized_taken, sizeless, cut_off, same_content}
use Rattle.wasm_module.proofs.TextItems.{IsPrefixFree, same_items, item_on, items_cut_off, vec_taken, vec_countless, vec_items}
use Rattle.wasm_module.specs.Steps.Contents.{BeginsWithBody, BeginsWithNoBody, BeginsWithBodies, BeginsWithNoBodies, IsNoCode}

-- ---- one body

-- a body in front of bytes, behind its size
record Opened (bytes rest names : List ℕ) : Type 0 where
  body : List ℕ
  is_body : IsBody body names
  taken : TakesSized body bytes rest

opened_text : (text names rest : List ℕ) → IsSizedBody text names → Opened (text ++ rest) rest names
opened_text _ _ rest (sized size body names h b) =
    record {
      body = body;
      is_body = b;
      taken = record { size = size; is_size = h; parts = append_assoc size body rest };
    }

opened : (bytes rest names : List ℕ) → BeginsWithBody bytes rest names → Opened bytes rest names
opened bytes rest names b =
    subst (λ (u : List ℕ). Opened u rest names) (sym b.parts) (opened_text b.text names rest b.is_body)

pub body_taken : (bytes : List ℕ) (n : ℕ) (behind body rest names : List ℕ) →
    u32_at bytes ≡ Ok (n, behind) → n ≤ length behind → body ≡ take n behind → rest ≡ drop n behind →
    IsBody body names → BeginsWithBody bytes rest names
body_taken bytes n behind body rest names e fits prefix back b =
    let t = sized_taken bytes n behind body rest e fits prefix back in
    record {
      text = t.size ++ body;
      parts = t.parts ∙ sym (append_assoc t.size body rest);
      is_body = sized t.size body names t.is_size b;
    }

-- no size begins the bytes
pub body_sizeless : (bytes left : List ℕ) → u32_at bytes ≡ fault left → (rest names : List ℕ) →
    BeginsWithBody bytes rest names → ⊥
body_sizeless bytes left e rest names b =
    let o = opened bytes rest names b in sizeless bytes left e o.body rest o.taken

-- the size is that of more bytes than there are
pub body_cut_off : (bytes : List ℕ) (n : ℕ) (behind : List ℕ) → u32_at bytes ≡ Ok (n, behind) →
    length behind < n → (rest names : List ℕ) → BeginsWithBody bytes rest names → ⊥
body_cut_off bytes n behind e cut rest names b =
    let o = opened bytes rest names b in cut_off bytes n behind e cut o.body rest o.taken

-- what the size is of is no body
pub body_malformed : (bytes : List ℕ) (n : ℕ) (behind prefix : List ℕ) (e : ScanError) →
    u32_at bytes ≡ Ok (n, behind) → prefix ≡ take n behind → IsNoBody prefix e → BeginsWithNoBody bytes e
body_malformed bytes n behind prefix scan.Memory reads is h = tt
body_malformed bytes n behind prefix (scan.Malformed place) reads is h = λ rest names b.
    let o = opened bytes rest names b in
    let same = same_number (u32_at bytes) n (length o.body) behind (o.body ++ rest) reads
    (sized_read bytes o.body rest o.taken) in
    let whole : prefix ≡ o.body = is ∙ ap (take n) same.1 ∙ take_at o.body rest n (sym same.0) in
    h names (subst (λ (u : List ℕ). IsBody u names) (sym whole) o.is_body)

-- ---- several bodies

-- what is behind a body does not depend on how it is read
bodies_free : IsPrefixFree (IsAny IsSizedBody)
bodies_free a b rest after h k e =
    let x = opened_text a h.item rest h.is_text in
    let y = opened_text b k.item after k.is_text in
    (same_content (a ++ rest) x.body rest y.body after x.taken
    (subst (λ (u : List ℕ). TakesSized y.body u after) (sym e) y.taken)).1

items_of : (count : ℕ) (bytes rest names : List ℕ) (b : BeginsWithBodies count bytes rest names) →
    TakesItems IsSizedBody b.bodies bytes rest
items_of count bytes rest names b = record { text = b.text; are = b.are; parts = b.parts }

pub concat_on : (lists : List (List ℕ)) (last : List ℕ) → concat (lists ++ last ∷ []) ≡ concat lists ++ last
concat_on [] last = append-nil last
concat_on (xs ∷ lists) last =
    ap (λ (u : List ℕ). xs ++ u) (concat_on lists last) ∙ sym (append_assoc xs (concat lists) last)

pub no_bodies : (bytes : List ℕ) → BeginsWithBodies 0 bytes bytes []
no_bodies bytes =
    record { text = []; bodies = []; parts = refl; are = none; many = refl; named = refl }

pub bodies_on : (count : ℕ) (bytes rest after named names new : List ℕ) →
    BeginsWithBodies count bytes rest named → BeginsWithBody rest after names → new ≡ named ++ names →
    BeginsWithBodies (count + 1) bytes after new
bodies_on count bytes rest after named names new s b e =
    record {
      text = s.text ++ b.text;
      bodies = s.bodies ++ names ∷ [];
      parts = s.parts ∙ ap (λ (u : List ℕ). s.text ++ u) b.parts ∙ sym (append_assoc s.text b.text after);
      are =
          item_on IsSizedBody s.text s.bodies b.text names s.are b.is_body;
      many =
          length-append s.bodies (names ∷ []) ∙ omega (arith, s.many);
      named = e ∙ ap (λ (u : List ℕ). u ++ names) s.named ∙ sym (concat_on s.bodies names);
    }

pub bodies_malformed : (count taken : ℕ) (bytes rest named : List ℕ) (e : ScanError) →
    BeginsWithBodies taken bytes rest named → taken < count → BeginsWithNoBody rest e →
    BeginsWithNoBodies count bytes e
bodies_malformed count taken bytes rest named scan.Memory s less h = tt
bodies_malformed count taken bytes rest named (scan.Malformed place) s less h = λ after names b.
    items_cut_off IsSizedBody bodies_free s.bodies bytes rest count (items_of taken bytes rest named s)
    (omega (arith, s.many, less))
    (λ others t.
    h others t.is_text.item (record { text = t.text; parts = t.parts; is_body = t.is_text.is_text }))
    b.bodies after b.many (items_of count bytes after names b)

-- ---- the whole section

pub code_is : (content : List ℕ) (count : ℕ) (behind rest names : List ℕ) →
    u32_at content ≡ Ok (count, behind) → BeginsWithBodies count behind rest names → rest ≡ [] →
    IsCode content names
code_is content count behind rest names e b nothing =
    let v = vec_taken IsSizedBody content count behind rest b.bodies e b.many
    (items_of count behind rest names b) in
    let whole : content ≡ v.0 = v.2 ∙ ap (λ (u : List ℕ). v.0 ++ u) nothing ∙ append-nil v.0 in
    record {
      bodies = b.bodies;
      are = subst (λ (u : List ℕ). IsVec IsSizedBody u b.bodies) (sym whole) v.1;
      named = b.named;
    }

pub code_countless : (content left : List ℕ) → u32_at content ≡ fault left → (names : List ℕ) →
    IsCode content names → ⊥
code_countless content left e names c =
    vec_countless IsSizedBody content [] left c.bodies (ap u32_at (append-nil content) ∙ e) c.are

-- the bodies of a code section, behind their number
counted_bodies : (content : List ℕ) (count : ℕ) (behind names : List ℕ) → u32_at content ≡ Ok (count, behind) →
    (c : IsCode content names) → BeginsWithBodies count behind [] names
counted_bodies content count behind names e c =
    let v = vec_items IsSizedBody content [] count behind c.bodies (ap u32_at (append-nil content) ∙ e) c.are
    in
    record {
      text = v.1.text;
      bodies = c.bodies;
      parts = v.1.parts;
      are = v.1.are;
      many = v.0;
      named = c.named;
    }

pub code_malformed : (content : List ℕ) (count : ℕ) (behind : List ℕ) (e : ScanError) →
    u32_at content ≡ Ok (count, behind) → BeginsWithNoBodies count behind e → IsNoCode content e
code_malformed content count behind scan.Memory reads h = tt
code_malformed content count behind (scan.Malformed place) reads h = λ names c.
    h [] names (counted_bodies content count behind names reads c)

pub code_left_over : (content : List ℕ) (count : ℕ) (behind rest named : List ℕ) →
    u32_at content ≡ Ok (count, behind) → BeginsWithBodies count behind rest named → (rest ≡ [] → ⊥) →
    (names : List ℕ) → IsCode content names → ⊥
code_left_over content count behind rest named reads b some names c =
    let v = counted_bodies content count behind names reads c in
    some (same_items IsSizedBody bodies_free b.text b.bodies v.text v.bodies rest [] b.are v.are
    (sym b.parts ∙ v.parts) (b.many ∙ sym v.many))
