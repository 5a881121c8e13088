-- The syntax trees of contents with their sizes, of several texts in turn, and of contents of sections.
use Rattle.std.proofs.Common.{◌≡◌, ℕ, zero, suc, List, [], ◌++◌, length, Some, None, refl, sym, ap, subst, ◌∙◌, append_assoc}
use Rattle.wasm_binary.specs.Leb128.{IsU32}
use Rattle.wasm_binary.specs.Steps.Reading.{u32_at}
use Rattle.wasm_module.specs.declared.kind.Kind.{Kind}
use Rattle.wasm_module.specs.declared.renaming.Widths.{Widths}
use Rattle.wasm_module.specs.Bodies.{body}
use Rattle.wasm_module.specs.Changes.{ChangesSized, stays, resized, ChangeAll}
use Rattle.wasm_module.specs.Changes.ChangeAll.{none as no_change, next as next_change}
use Rattle.wasm_module.specs.Contents.{section_kinds}
use Rattle.wasm_module.specs.NamedTypes.{code_id}
use Rattle.wasm_module.specs.SyntaxTrees.{SyntaxTree, still, sized, joined, bytes_of, names_in, TreeBecomes, unchanged, unresized, resizes, joins}
use Rattle.wasm_module.specs.RenamedSections.{RenamesCode, RenamesContent}
use Rattle.wasm_module.specs.RenamedSections.RenamesCode.{counted}
use Rattle.wasm_module.specs.RenamedSections.RenamesContent.{texts, code, nameless}
use Rattle.wasm_module.specs.Renaming.{NewIndices, least_width, IsTextOf}
use Rattle.wasm_module.proofs.NumberTexts.{cancel}
use Rattle.wasm_module.proofs.TreesOfChanges.{Changing, Trees, Counted, Writes, Found, Finds, AreOne, AreFirst, found_as, found_still, found_behind}
use Rattle.wasm_module.proofs.TreesOfTexts.{TextsBy, TextTree, texts_one, texts_written, texts_found}
use Rattle.wasm_module.proofs.SameTexts.{same_kinds, no_texts_of_code, same_sizes, taken}
use Rattle.wasm_module.proofs.SizedContents.{number_read, same_number, same_content}

-- ---- a content with its size

abbrev pub WithSize : Changing → Changing
WithSize C t m w = ChangesSized w (C t m w)

pub data SizedTree (Is : SyntaxTree → Type 0) : SyntaxTree → Type 0 where
  sized_tree :
      (size : List ℕ) (p : SyntaxTree) → IsU32 size (length (bytes_of p)) → Is p
      → SizedTree Is (sized size p)

pub sized_first : (Is : Trees) → AreOne Is → AreFirst (SizedTree Is)
sized_first Is one _ _ r s (sized_tree size p h is) (sized_tree size' q g its) e =
    let c = same_content ((size ++ bytes_of p) ++ r) (bytes_of p) r (bytes_of q) s
    (taken size (bytes_of p) r _ h refl) (taken size' (bytes_of q) s _ g e) in
    let sizes-are : size ≡ size' = same_sizes size (bytes_of p) r size' (bytes_of q) s c.0 c.1 e in (
      ap (λ (u : List ℕ). sized u p) sizes-are ∙ ap (λ u. sized size' u) (one p q is its c.0),
      c.1,
    )

pub sized_written : (C : Changing) (Is : Counted) → Writes C Is →
    Writes (WithSize C) (λ n. SizedTree (Is n))
sized_written C Is write t m w _ _ (sized_tree size p h is) (unresized _ _ q unnamed same k) =
    let f : C t m w (bytes_of p) (bytes_of p) [] =
    subst (λ (u : List ℕ). C t m w (bytes_of p) u []) (sym same)
    (subst (λ (u : List ℕ). C t m w (bytes_of p) (bytes_of q) u) unnamed (write t m w p q is k)) in
    subst (λ (u : List ℕ). WithSize C t m w (size ++ bytes_of p) (size ++ u) (names_in p)) same
    (subst (λ (u : List ℕ). WithSize C t m w (size ++ bytes_of p) (size ++ bytes_of p) u) (sym unnamed)
    (stays size (bytes_of p) h f))
sized_written C Is write t m w _ _ (sized_tree size p h is) (resizes _ new_size _ q some n k) =
    resized size (bytes_of p) new_size (bytes_of q) (names_in p) h (write t m w p q is k) some n

size_of : (size p content : List ℕ) → p ≡ content → IsU32 size (length content) → IsU32 size (length p)
size_of size p content e h = subst (λ (u : List ℕ). IsU32 size (length u)) (sym e) h

pub sized_found : (C : Changing) (Is : Counted) → Finds C Is → Finds (WithSize C) (λ n. SizedTree (Is n))
sized_found C Is find t m w _ _ _ (stays size content h f) =
    let k = find t m w content content [] f in
    record {
      tree = sized size k.tree;
      new_tree = sized size k.new_tree;
      is = sized_tree size k.tree (size_of size (bytes_of k.tree) content k.text_is h) k.is;
      is_again = λ n bound. sized_tree size k.new_tree
          (size_of size (bytes_of k.new_tree) content k.new_is h)
          (k.is_again n bound);
      becomes = unresized size k.tree k.new_tree (sym k.names_are) (k.text_is ∙ sym k.new_is) k.becomes;
      text_is = ap (λ (u : List ℕ). size ++ u) k.text_is;
      new_is = ap (λ (u : List ℕ). size ++ u) k.new_is;
      names_are = k.names_are;
    }
sized_found C Is find t m w _ _ _ (resized size content new_size new names h f some n) =
    let k = find t m w content new names f in
    let long : IsTextOf 0x80 (least_width w (length size)) new_size (length (bytes_of k.new_tree)) =
    subst (λ (u : List ℕ). IsTextOf 0x80 (least_width w (length size)) new_size (length u)) (sym k.new_is)
    n in
    record {
      tree = sized size k.tree;
      new_tree = sized new_size k.new_tree;
      is = sized_tree size k.tree (size_of size (bytes_of k.tree) content k.text_is h) k.is;
      is_again = λ n bound. sized_tree new_size k.new_tree long.is_text (k.is_again n bound);
      becomes = resizes size new_size k.tree k.new_tree (λ u. some (k.names_are ∙ u)) long k.becomes;
      text_is = ap (λ (u : List ℕ). size ++ u) k.text_is;
      new_is = ap (λ (u : List ℕ). new_size ++ u) k.new_is;
      names_are = k.names_are;
    }

-- ---- several

abbrev pub InTurn : ℕ → Changing → Changing
InTurn count C t m w = ChangeAll (C t m w) count

pub data TreesInTurn (Is : SyntaxTree → Type 0) : ℕ → SyntaxTree → Type 0 where
  no_tree : TreesInTurn Is zero (still [])
  next_tree :
      (count : ℕ) (p q : SyntaxTree) → Is p → TreesInTurn Is count q
      → TreesInTurn Is (suc count) (joined p q)

pub all_first : (Is : Trees) → AreFirst Is → (count : ℕ) → AreFirst (TreesInTurn Is count)
all_first Is first _ _ _ r s no_tree no_tree e = (refl, e)
all_first Is first _ _ _ r s (next_tree count p q h hs) (next_tree _ p' q' k ks) e =
    let a = first p p' (bytes_of q ++ r) (bytes_of q' ++ s) h k
    (sym (append_assoc (bytes_of p) (bytes_of q) r) ∙ e ∙ append_assoc (bytes_of p') (bytes_of q') s) in
    let b = all_first Is first count q q' r s hs ks a.1 in
    (ap (λ u. joined u q) a.0 ∙ ap (λ u. joined p' u) b.0, b.1)

pub all_written : (C : Changing) (Is : Counted) → Writes C Is → (t : List ℕ) (m : NewIndices) (w : Widths)
    (count : ℕ) (p q : SyntaxTree) → TreesInTurn (Is (length m)) count p → TreeBecomes t m w p q →
    InTurn count C t m w (bytes_of p) (bytes_of q) (names_in p)
all_written C Is write t m w _ _ _ no_tree (unchanged _) = no_change
all_written C Is write t m w _ _ _ (next_tree count p q h hs) (joins _ _ r s k ks) =
    next_change count (bytes_of p) (bytes_of q) (bytes_of r) (bytes_of s) (names_in p) (names_in q)
    (write t m w p r h k) (all_written C Is write t m w count q s hs ks)

pub all_found : (C : Changing) (Is : Counted) → Finds C Is → (t : List ℕ) (m : NewIndices) (w : Widths)
    (count : ℕ) (text new names : List ℕ) → InTurn count C t m w text new names →
    Found (λ n. TreesInTurn (Is n) count) t m w text new names
all_found C Is find t m w _ _ _ _ no_change =
    found_still t m w (λ n. TreesInTurn (Is n) zero) [] (λ n few. no_tree)
all_found C Is find t m w _ _ _ _ (next_change count text others new news names more h hs) =
    let f = find t m w text new names h in
    let g = all_found C Is find t m w count others news more hs in
    record {
      tree = joined f.tree g.tree;
      new_tree = joined f.new_tree g.new_tree;
      is = next_tree count f.tree g.tree f.is g.is;
      is_again = λ n bound. next_tree count f.new_tree g.new_tree (f.is_again n bound) (g.is_again n bound);
      becomes = joins f.tree g.tree f.new_tree g.new_tree f.becomes g.becomes;
      text_is = ap (λ (u : List ℕ). u ++ bytes_of g.tree) f.text_is
          ∙ ap (λ (u : List ℕ). text ++ u) g.text_is;
      new_is = ap (λ (u : List ℕ). u ++ bytes_of g.new_tree) f.new_is
          ∙ ap (λ (u : List ℕ). new ++ u) g.new_is;
      names_are = ap (λ (u : List ℕ). u ++ more) f.names_are
          ∙ ap (λ (u : List ℕ). names_in f.tree ++ u) g.names_are;
    }

-- ---- the code section

abbrev BodyBy : Changing
BodyBy = WithSize (TextsBy body)

abbrev BodyTree : Trees
BodyTree = SizedTree (TextTree body)

abbrev CodeBy : Changing
CodeBy t m w = RenamesCode m w

pub data CodeTree : SyntaxTree → Type 0 where
  code_tree :
      (bodies : ℕ) (count : List ℕ) (p : SyntaxTree) → IsU32 count bodies
      → TreesInTurn (SizedTree (TextTree body)) bodies p → CodeTree (joined (still count) p)

code_one : AreOne CodeTree
code_one _ _ (code_tree bodies count p h hs) (code_tree bodies' count' q g gs) e =
    let n = same_number (u32_at (count ++ bytes_of p)) bodies bodies' (bytes_of p) (bytes_of q)
    (number_read (count ++ bytes_of p) count bodies (bytes_of p) h refl)
    (number_read (count ++ bytes_of p) count' bodies' (bytes_of q) g e) in
    let one : count ≡ count' = cancel count count' (bytes_of p) (bytes_of q) e n.1 in
    let all = all_first BodyTree (sized_first (TextTree body) (texts_one body)) bodies p q [] [] hs
    (subst (λ j. TreesInTurn BodyTree j q) (sym n.0) gs) (ap (λ (u : List ℕ). u ++ []) n.1) in
    ap (λ (u : List ℕ). joined (still u) p) one ∙ ap (λ u. joined (still count') u) all.0

code_written : Writes CodeBy (λ n. CodeTree)
code_written t m w _ _ (code_tree bodies count p h hs) (joins _ _ _ q (unchanged _) k) =
    counted bodies count (bytes_of p) (bytes_of q) (names_in p) h
    (all_written BodyBy (λ n. BodyTree) (sized_written (TextsBy body) (λ n. TextTree body)
    (texts_written body)) t m w bodies p q hs k)

code_found : Finds CodeBy (λ n. CodeTree)
code_found t m w _ _ _ (counted bodies count text new names h hs) =
    found_behind t m w (λ n. TreesInTurn BodyTree bodies) (λ n. CodeTree) count
    (λ n p k. code_tree bodies count p h k) text new names
    (all_found BodyBy (λ n. BodyTree) (sized_found (TextsBy body) (λ n. TextTree body) (texts_found body)) t
    m w bodies text new names hs)

-- ---- contents

abbrev pub ContentBy : ℕ → Changing
ContentBy id t m w = RenamesContent id m w

pub data ContentTree (id : ℕ) : SyntaxTree → Type 0 where
  of_texts :
      (kinds : List Kind) (p : SyntaxTree) → section_kinds id ≡ Some kinds → TextTree kinds p
      → ContentTree id p
  of_code : (p : SyntaxTree) → id ≡ code_id → CodeTree p → ContentTree id p
  of_nothing :
      (text : List ℕ) → section_kinds id ≡ None → (id ≡ code_id → ⊥) → ContentTree id (still text)

pub content_one : (id : ℕ) → AreOne (ContentTree id)
content_one id p q (of_texts kinds _ e h) (of_texts kinds' _ e' k) same =
    texts_one kinds p q h
    (subst (λ (u : List Kind). TextTree u q) (same_kinds (section_kinds id) kinds' kinds e' e) k) same
content_one id p q (of_texts kinds _ e h) (of_code _ is k) same = absurd (no_texts_of_code id kinds e is)
content_one id p _ (of_texts kinds _ e h) (of_nothing text nothing fails) same = absurd cc
content_one id p q (of_code _ is h) (of_texts kinds _ e k) same = absurd (no_texts_of_code id kinds e is)
content_one id p q (of_code _ is h) (of_code _ is' k) same = code_one p q h k same
content_one id p _ (of_code _ is h) (of_nothing text nothing fails) same = absurd (fails is)
content_one id _ q (of_nothing text nothing fails) (of_texts kinds _ e k) same = absurd cc
content_one id _ q (of_nothing text nothing fails) (of_code _ is k) same = absurd (fails is)
content_one id _ _ (of_nothing text nothing fails) (of_nothing other nothing' fails') same =
    ap (λ (u : List ℕ). still u) same

pub content_written : (id : ℕ) → Writes (ContentBy id) (λ n. ContentTree id)
content_written id t m w p q (of_texts kinds _ e h) k =
    texts kinds (bytes_of p) (bytes_of q) (names_in p) e (texts_written kinds t m w p q h k)
content_written id t m w p q (of_code _ is h) k =
    code (bytes_of p) (bytes_of q) (names_in p) is (code_written t m w p q h k)
content_written id t m w _ _ (of_nothing text nothing fails) (unchanged _) = nameless text nothing fails

pub content_found : (id : ℕ) → Finds (ContentBy id) (λ n. ContentTree id)
content_found id t m w text new names (texts kinds _ _ _ e h) =
    found_as t m w (λ n. TextTree kinds) (λ n. ContentTree id) (λ n p k. of_texts kinds p e k) text new names
    (texts_found kinds t m w text new names h)
content_found id t m w text new names (code _ _ _ is h) =
    found_as t m w (λ n. CodeTree) (λ n. ContentTree id) (λ n p k. of_code p is k) text new names
    (code_found t m w text new names h)
content_found id t m w text _ _ (nameless _ nothing fails) =
    found_still t m w (λ n. ContentTree id) text (λ n few. of_nothing text nothing fails)
