-- Texts of items one after another, from the front of bytes.
use Rattle.std.proofs.Common.{◌≡◌, ℕ, ◌<◌, List, [], ◌∷◌, ◌++◌, length, Ok, refl, sym, ap, subst, ◌∙◌, arith, append_assoc, append-nil}
use Rattle.wasm_binary.specs.Leb128.{IsU32}
use Rattle.wasm_binary.specs.Grammar.{AreItems, none, next, IsVec, counted}
use Rattle.wasm_binary.specs.Steps.Reading.{u32_at}
use Rattle.wasm_binary.proofs.Integers.{u32_sound, u32_complete}
use Rattle.wasm_module.specs.Steps.Heads.{fault}
use Rattle.wasm_module.specs.Steps.NameSections.{Takes, BeginsNone, IsAny, TakesItems}
use Rattle.wasm_module.proofs.SizedContents.{no_number, same_number}

-- what is behind a text does not depend on how it is read
abbrev pub IsPrefixFree : (List ℕ → Type 0) → Type 0
IsPrefixFree IsText =
    (a b rest after : List ℕ) → IsText a → IsText b → a ++ rest ≡ b ++ after → rest ≡ after

-- texts of items are texts of what these are too
pub items_as : {A : Type 0} (P Q : List ℕ → A → Type 0) → ((text : List ℕ) (x : A) → P text x → Q text x) →
    (texts : List ℕ) (xs : List A) → AreItems P texts xs → AreItems Q texts xs
items_as P Q turn _ _ none = none
items_as P Q turn _ _ (next text others x xs h hs) =
    next text others x xs (turn text x h) (items_as P Q turn others xs hs)

module _ {A : Type 0} (IsText : List ℕ → A → Type 0) where
  any : (text : List ℕ) (x : A) → IsText text x → IsAny IsText text
  any text x h = record { item = x; is_text = h }

  -- an item behind items that were taken, where there are more of them
  next_item : IsPrefixFree (IsAny IsText) → (text : List ℕ) (xs : List A) (whole : List ℕ) (ys : List A)
      (rest after : List ℕ) → AreItems IsText text xs → AreItems IsText whole ys
      → text ++ rest ≡ whole ++ after → length xs < length ys
      → (others : List ℕ) × Takes (IsAny IsText) rest others
  next_item free _ _ _ _ rest after none none e more = absurd (omega (arith, more))
  next_item free _ _ _ _ rest after none (next text others x ys h hs) e more = (
    others ++ after,
    record {
      text = text;
      is_text = any text x h;
      parts = e ∙ append_assoc text others
          after;
    },
  )
  next_item free _ _ _ _ rest after (next text others x xs h hs) none e more = absurd (omega (arith, more))
  next_item free _ _ _ _ rest after (next a b x xs h hs) (next c d y ys k ks) e more =
      let same : a ++ (b ++ rest) ≡ c ++ (d ++ after) = sym (append_assoc a b rest) ∙ e
      ∙ append_assoc c d after in
      next_item free b xs d ys rest after hs ks (free a c (b ++ rest) (d ++ after) (any a x h) (any c y k)
      same)
      (omega (arith, more))

  -- as many items leave the same bytes
  pub same_items : IsPrefixFree (IsAny IsText) → (text : List ℕ) (xs : List A) (whole : List ℕ) (ys : List A)
      (rest after : List ℕ) → AreItems IsText text xs → AreItems IsText whole ys
      → text ++ rest ≡ whole ++ after → length xs ≡ length ys → rest ≡ after
  same_items free _ _ _ _ rest after none none e many = e
  same_items free _ _ _ _ rest after none (next text others x ys h hs) e many = absurd (omega (arith, many))
  same_items free _ _ _ _ rest after (next text others x xs h hs) none e many = absurd (omega (arith, many))
  same_items free _ _ _ _ rest after (next a b x xs h hs) (next c d y ys k ks) e many =
      let same : a ++ (b ++ rest) ≡ c ++ (d ++ after) = sym (append_assoc a b rest) ∙ e
      ∙ append_assoc c d after in
      same_items free b xs d ys rest after hs ks (free a c (b ++ rest) (d ++ after) (any a x h) (any c y k)
      same)
      (omega (arith, many))

  -- as many texts of items that are each determined are those of the same items
  pub items_once : ((a b : List ℕ) (x y : A) (r s : List ℕ) → IsText a x → IsText b y → a ++ r ≡ b ++ s →
      (x ≡ y) × (r ≡ s)) → (a : List ℕ) (xs : List A) (b : List ℕ) (ys : List A) (r s : List ℕ) →
      AreItems IsText a xs → AreItems IsText b ys → a ++ r ≡ b ++ s → length xs ≡ length ys → xs ≡ ys
  items_once once _ _ _ _ r s none none e many = refl
  items_once once _ _ _ _ r s none (next text others y ys h hs) e many = absurd (omega (arith, many))
  items_once once _ _ _ _ r s (next text others x xs h hs) none e many = absurd (omega (arith, many))
  items_once once _ _ _ _ r s (next a b x xs h hs) (next c d y ys k ks) e many =
      let same : a ++ (b ++ r) ≡ c ++ (d ++ s) = sym (append_assoc a b r) ∙ e ∙ append_assoc c d s in
      let o = once a c x y (b ++ r) (d ++ s) h k same in
      ap (λ z. z ∷ xs) o.0
      ∙ ap (λ (u : List A). y ∷ u) (items_once once b xs d ys r s hs ks o.1 (omega (arith, many)))

  pub item_on : (text : List ℕ) (xs : List A) (last : List ℕ) (x : A) → AreItems IsText text xs →
      IsText last x → AreItems IsText (text ++ last) (xs ++ x ∷ [])
  item_on _ _ last x none h =
      subst (λ (u : List ℕ). AreItems IsText u (x ∷ [])) (append-nil last) (next last [] x [] h none)
  item_on _ _ last x (next text others first xs k ks) h =
      subst (λ (u : List ℕ). AreItems IsText u (first ∷ (xs ++ x ∷ [])))
      (sym (append_assoc text others last))
      (next text (others ++ last) first (xs ++ x ∷ []) k (item_on others xs last x ks h))

  pub no_items : (bytes : List ℕ) → TakesItems IsText [] bytes bytes
  no_items bytes = record { text = []; are = none; parts = refl }

  pub items_on : (xs : List A) (bytes rest after last : List ℕ) (x : A) → TakesItems IsText xs bytes rest →
      IsText last x → rest ≡ last ++ after → TakesItems IsText (xs ++ x ∷ []) bytes after
  items_on xs bytes rest after last x t h e =
      record {
        text = t.text ++ last;
        are = item_on t.text xs last x t.are h;
        parts = t.parts ∙ ap (λ (u : List ℕ). t.text ++ u) e ∙ sym (append_assoc t.text last after);
      }

  -- no item behind fewer items than there are to be
  pub items_cut_off : IsPrefixFree (IsAny IsText) → (xs : List A) (bytes rest : List ℕ) (count : ℕ) →
      TakesItems IsText xs bytes rest → length xs < count → BeginsNone (IsAny IsText) rest →
      (ys : List A) (after : List ℕ) → length ys ≡ count → TakesItems IsText ys bytes after → ⊥
  items_cut_off free xs bytes rest count t less none_there ys after many s =
      let n = next_item free t.text xs s.text ys rest after t.are s.are (sym t.parts ∙ s.parts)
      (omega (arith, many, less)) in
      none_there n.0 n.1

  -- ---- behind their number

  pub record OpenedVec (text rest : List ℕ) (xs : List A) : Type 0 where
    pub texts : List ℕ
    pub are : AreItems IsText texts xs
    pub reads : u32_at (text ++ rest) ≡ Ok (length xs, texts ++ rest)

  pub opened_vec : (text rest : List ℕ) (xs : List A) → IsVec IsText text xs → OpenedVec text rest xs
  opened_vec _ rest _ (counted count texts xs h are) =
      record {
        texts = texts;
        are = are;
        reads = ap u32_at (append_assoc count texts rest) ∙ u32_complete count (length xs) (texts ++ rest) h;
      }

  pub vec_free : IsPrefixFree (IsAny IsText) → (a b rest after : List ℕ) (xs ys : List A) → IsVec IsText a xs
      → IsVec IsText b ys → a ++ rest ≡ b ++ after → rest ≡ after
  vec_free free a b rest after xs ys h k e =
      let o = opened_vec a rest xs h in
      let p = opened_vec b after ys k in
      let same = same_number (u32_at (b ++ after)) (length xs) (length ys) (o.texts ++ rest)
      (p.texts ++ after) (ap u32_at (sym e) ∙ o.reads) p.reads in
      same_items free o.texts xs p.texts ys rest after o.are p.are same.1 same.0

  pub vec_taken : (bytes : List ℕ) (count : ℕ) (behind rest : List ℕ) (xs : List A) →
      u32_at bytes ≡ Ok (count, behind) → length xs ≡ count → TakesItems IsText xs behind rest →
      (text : List ℕ) × IsVec IsText text xs × (bytes ≡ text ++ rest)
  vec_taken bytes count behind rest xs e many t =
      let n = u32_sound bytes count behind e in (
        n.text ++ t.text,
        counted n.text t.text xs (subst (λ (m : ℕ). IsU32 n.text m) (sym many) n.is_text) t.are,
        n.parts ∙ ap (λ (u : List ℕ). n.text ++ u) t.parts ∙ sym (append_assoc n.text t.text rest),
      )

  pub vec_countless : (text rest left : List ℕ) (xs : List A) → u32_at (text ++ rest) ≡ fault left →
      IsVec IsText text xs → ⊥
  vec_countless text rest left xs e h =
      no_number (u32_at (text ++ rest)) left _ _ e (opened_vec text rest xs h).reads

  -- as many items as the number says begin what is behind it
  pub vec_items : (text rest : List ℕ) (count : ℕ) (behind : List ℕ) (xs : List A) →
      u32_at (text ++ rest) ≡ Ok (count, behind) → IsVec IsText text xs →
      (length xs ≡ count) × TakesItems IsText xs behind rest
  vec_items text rest count behind xs e h =
      let o = opened_vec text rest xs h in
      let same = same_number (u32_at (text ++ rest)) count (length xs) behind (o.texts ++ rest) e o.reads in
      (sym same.0, record { text = o.texts; are = o.are; parts = same.1 })
