-- The syntax trees of modules: there is one result, and what was renamed stays where each new index is its
-- own.
use Rattle.std.proofs.Common.{◌≡◌, ℕ, ◌≤◌, List, [], ◌∷◌, ◌++◌, length, refl, sym, ap, subst, ◌∙◌}
use Rattle.std.proofs.lemmas.List.{append_cancel_left, length-map}
use Rattle.wasm_binary.specs.Leb128.{IsU32}
use Rattle.wasm_binary.specs.Modules.{Section, ids, IsModule, header}
use Rattle.wasm_binary.proofs.Modules.Uniqueness.{one_module}
use Rattle.wasm_module.specs.declared.renaming.Widths.{Widths}
use Rattle.wasm_module.specs.OwnIndices.{AreOwn}
use Rattle.wasm_module.specs.Alike.{HasSyntaxTree}
use Rattle.wasm_module.specs.SyntaxTrees.{SyntaxTree, types, bytes_of, names_in, TreeBecomes, unchanged, joins, retypes}
use Rattle.wasm_module.specs.RenamedModules.{RenamesAny, RenamesSection, RenamesModule}
use Rattle.wasm_module.specs.RenamedModules.RenamesAny.{custom, other as other_content}
use Rattle.wasm_module.specs.RenamedModules.RenamesSection.{type_section, other as other_section}
use Rattle.wasm_module.specs.Renaming.{NewIndices}
use Rattle.wasm_module.proofs.ModuleLaws.{have_same_ids}
use Rattle.wasm_module.proofs.OwnEntries.{has_new_one}
use Rattle.wasm_module.proofs.SyntaxTrees.{one_tree, becomes_again}
use Rattle.wasm_module.proofs.SizedContents.{same_content}
use Rattle.wasm_module.proofs.SameTexts.{same_sizes, taken}
use Rattle.wasm_module.proofs.TreesOfChanges.{Changing, Counted, HaveBound, Writes, Finds, AreOne, AreFirst, found_as, found_behind}
use Rattle.wasm_module.proofs.TreesOfContents.{SizedTree, sized_first, sized_written, sized_found, TreesInTurn, all_first, all_written, all_found, ContentTree, content_one, content_written, content_found}
use Rattle.wasm_module.proofs.TreesOfNames.{BehindId, behind_id, behind_first, CustomTree, custom_one, custom_written, custom_found}

-- ---- contents of sections

abbrev AnyBy : ℕ → Changing
AnyBy id t m w = RenamesAny id m w

pub data AnyTree (id count : ℕ) : SyntaxTree → Type 0 where
  of_custom : (p : SyntaxTree) → id ≡ 0 → CustomTree count p → AnyTree id count p
  of_other : (p : SyntaxTree) → (id ≡ 0 → ⊥) → ContentTree id p → AnyTree id count p

any_one : (id count : ℕ) → AreOne (AnyTree id count)
any_one id n p q (of_custom _ is h) (of_custom _ is' k) e = custom_one n p q h k e
any_one id n p q (of_custom _ is h) (of_other _ fails k) e = absurd (fails is)
any_one id n p q (of_other _ fails h) (of_custom _ is k) e = absurd (fails is)
any_one id n p q (of_other _ fails h) (of_other _ fails' k) e = content_one id p q h k e

any_written : (id : ℕ) → Writes (AnyBy id) (AnyTree id)
any_written id t m w p q (of_custom _ is h) k =
    custom (bytes_of p) (bytes_of q) (names_in p) is (custom_written t m w p q h k)
any_written id t m w p q (of_other _ fails h) k =
    other_content (bytes_of p) (bytes_of q) (names_in p) fails (content_written id t m w p q h k)

any_found : (id : ℕ) → Finds (AnyBy id) (AnyTree id)
any_found id t m w text new names (custom _ _ _ is h) =
    found_as t m w CustomTree (AnyTree id) (λ n p k. of_custom p is k) text new names
    (custom_found t m w text new names h)
any_found id t m w text new names (other_content _ _ _ fails h) =
    found_as t m w (λ n. ContentTree id) (AnyTree id) (λ n p k. of_other p fails k) text new names
    (content_found id t m w text new names h)

-- ---- sections

abbrev SectionBy : Changing
SectionBy t m w = RenamesSection t m w

-- a section behind its id
pub data SectionRest (count id : ℕ) : SyntaxTree → Type 0 where
  of_types :
      (size content : List ℕ) → id ≡ 1 → IsU32 size (length content)
      → SectionRest count id (types size content)
  of_section : (p : SyntaxTree) → (id ≡ 1 → ⊥) → SizedTree (AnyTree id count) p → SectionRest count id p

rest_first : (count id : ℕ) → AreFirst (SectionRest count id)
rest_first n id _ _ r s (of_types size content is h) (of_types size' content' is' g) e =
    let c = same_content ((size ++ content) ++ r) content r content' s (taken size content r _ h refl)
    (taken size' content' s _ g e) in
    let sizes-are : size ≡ size' = same_sizes size content r size' content' s c.0 c.1 e in (
      ap (λ (u : List ℕ). types u content) sizes-are ∙ ap (λ (u : List ℕ). types size' u) c.0,
      c.1,
    )
rest_first n id _ q r s (of_types size content is h) (of_section _ fails k) e = absurd (fails is)
rest_first n id p _ r s (of_section _ fails h) (of_types size content is g) e = absurd (fails is)
rest_first n id p q r s (of_section _ fails h) (of_section _ fails' k) e =
    sized_first (AnyTree id n) (any_one id n) p q r s h k e

abbrev SectionTree : Counted
SectionTree count = BehindId (SectionRest count)

section_first : (count : ℕ) → AreFirst (SectionTree count)
section_first count = behind_first (SectionRest count) (rest_first count)

section_written : Writes SectionBy SectionTree
section_written t m w _ _ (behind_id id _ (of_types size content is h))
    (joins _ _ _ _ (unchanged _) (retypes _ _ new_size n)) =
    subst (λ k. SectionBy t m w (k ∷ (size ++ content)) (k ∷ (new_size ++ t)) []) (sym is)
    (type_section size content new_size h n)
section_written t m w _ _ (behind_id id p (of_section _ fails h)) (joins _ _ _ q (unchanged _) k) =
    other_section id (bytes_of p) (bytes_of q) (names_in p) fails
    (sized_written (AnyBy id) (AnyTree id) (any_written id) t m w p q h k)

section_found : Finds SectionBy SectionTree
section_found t m w _ _ _ (type_section size content new_size h n) =
    found_behind t m w (λ n. SectionRest n 1) SectionTree (1 ∷ []) (λ n p k. behind_id 1 p k)
    (size ++ content) (new_size ++ t) []
    (record {
      tree = types size content;
      new_tree = types new_size t;
      is = of_types size content refl h;
      is_again = λ c bound. of_types new_size t refl n.is_text;
      becomes = retypes size content new_size n;
      text_is = refl;
      new_is = refl;
      names_are = refl;
    })
section_found t m w _ _ _ (other_section id text new names fails h) =
    found_behind t m w (λ n. SizedTree (AnyTree id n)) SectionTree (id ∷ [])
    (λ n p k. behind_id id p (of_section p fails k)) text new names
    (sized_found (AnyBy id) (AnyTree id) (any_found id) t m w text new names h)

-- ---- modules

-- the bytes are a module of this many types, with this tree behind its header
pub record ModuleTree (count : ℕ) (bytes : List ℕ) (p : SyntaxTree) : Type 0 where
  pub sections : List Section
  pub is_module : IsModule bytes sections
  pub parts : bytes ≡ header ++ bytes_of p
  pub are : TreesInTurn (BehindId (SectionRest count)) (length sections) p

pub module_once : (count : ℕ) (bytes : List ℕ) (p q : SyntaxTree) → ModuleTree count bytes p →
    ModuleTree count bytes q → p ≡ q
module_once count bytes p q h k =
    let many : length k.sections ≡ length h.sections = ap (λ (u : List Section). length u)
    (one_module bytes k.sections h.sections k.is_module h.is_module) in
    let same : bytes_of p ≡ bytes_of q = append_cancel_left header (bytes_of p) (bytes_of q)
    (sym h.parts ∙ k.parts) in
    (all_first (SectionTree count) (section_first count) (length h.sections) p q [] [] h.are
    (subst (λ n. TreesInTurn (SectionTree count) n q) many k.are) (ap (λ (u : List ℕ). u ++ []) same)).0

module_written : (t : List ℕ) (m : NewIndices) (w : Widths) (bytes : List ℕ) (p q : SyntaxTree) →
    ModuleTree (length m) bytes p → TreeBecomes t m w p q → RenamesModule t m w bytes (header ++ bytes_of q)
module_written t m w bytes p q h k =
    record {
      sections = h.sections;
      is_module = h.is_module;
      texts = bytes_of p;
      new_texts = bytes_of q;
      names = names_in p;
      parts = h.parts;
      new_parts = refl;
      renames = all_written SectionBy SectionTree section_written t m w (length h.sections) p q h.are k;
    }

-- as many sections
as_many : (a b : List Section) → ids a ≡ ids b → length a ≡ length b
as_many a b e =
    sym (length-map a (λ (s : Section). s.id)) ∙ ap (λ (u : List ℕ). length u) e
    ∙ length-map b (λ (s : Section). s.id)

-- the trees of a module and of what it becomes
pub record ModuleTrees (t : List ℕ) (m : NewIndices) (w : Widths) (bytes new : List ℕ) : Type 0 where
  pub tree : SyntaxTree
  pub new_tree : SyntaxTree
  pub is : ModuleTree (length m) bytes tree
  pub is_again : (n : ℕ) → HaveBound m n → ModuleTree n new new_tree
  pub becomes : TreeBecomes t m w tree new_tree
  pub new_parts : new ≡ header ++ bytes_of new_tree

pub module_trees : (t : List ℕ) (m : NewIndices) (w : Widths) (bytes new : List ℕ) →
    RenamesModule t m w bytes new → ModuleTrees t m w bytes new
module_trees t m w bytes new r =
    let h = have_same_ids t m w bytes new r in
    let old : h.sections ≡ r.sections = one_module bytes h.sections r.sections h.before r.is_module in
    let many : length r.sections ≡ length h.new_sections =
    sym (as_many h.new_sections r.sections (h.same ∙ ap ids old)) in
    let f = all_found SectionBy SectionTree section_found t m w (length r.sections) r.texts r.new_texts
    r.names r.renames in
    let ends : new ≡ header ++ bytes_of f.new_tree =
    r.new_parts ∙ ap (λ (u : List ℕ). header ++ u) (sym f.new_is) in
    record {
      tree = f.tree;
      new_tree = f.new_tree;
      is = record {
        sections = r.sections;
        is_module = r.is_module;
        parts = r.parts ∙ ap (λ (u : List ℕ). header ++ u) (sym f.text_is);
        are = f.is;
      };
      is_again = λ n bound. (record {
        sections = h.new_sections;
        is_module = h.after;
        parts = ends;
        are = subst (λ k. TreesInTurn (SectionTree n) k f.new_tree) many (f.is_again n bound);
      });
      becomes = f.becomes;
      new_parts = ends;
    }

-- what becomes of the module is what becomes of the tree
becomes_tree : (t : List ℕ) (m : NewIndices) (w : Widths) (bytes new : List ℕ) (p : SyntaxTree) →
    ModuleTree (length m) bytes p → RenamesModule t m w bytes new →
    (q : SyntaxTree) × TreeBecomes t m w p q × (header ++ bytes_of q ≡ new)
becomes_tree t m w bytes new p h r =
    let f = module_trees t m w bytes new r in
    let same : f.tree ≡ p = module_once (length m) bytes f.tree p f.is h in (
      f.new_tree,
      subst (λ (u : SyntaxTree). TreeBecomes t m w u f.new_tree) same f.becomes,
      sym f.new_parts,
    )

pub has_tree : (count : ℕ) (bytes : List ℕ) (p : SyntaxTree) → ModuleTree count bytes p →
    HasSyntaxTree count bytes p
has_tree count bytes p h =
    let its : (m : NewIndices) → length m ≡ count → ModuleTree (length m) bytes p =
    λ m many. subst (λ n. ModuleTree n bytes p) (sym many) h in
    record {
      to = λ t m w new many r. becomes_tree t m w bytes new p (its m many) r;
      from = λ t m w q many k. module_written t m w bytes p q (its m many) k;
    }

-- ---- laws

pub renamed_once : (t : List ℕ) (m : NewIndices) (w : Widths) (bytes a b : List ℕ) →
    RenamesModule t m w bytes a → RenamesModule t m w bytes b → a ≡ b
renamed_once t m w bytes a b h g =
    let f = module_trees t m w bytes a h in
    let k = becomes_tree t m w bytes b f.tree f.is g in
    f.new_parts
    ∙ ap (λ u. header ++ bytes_of u) (one_tree t m w f.tree f.new_tree k.0 f.becomes k.1) ∙ k.2

pub module_stays : (first again : NewIndices) → AreOwn first again → length again ≤ length first →
    (w : Widths) (t bytes new : List ℕ) → RenamesModule t first w bytes new →
    RenamesModule t again w new new
module_stays first again own few w t bytes new r =
    let f = module_trees t first w bytes new r in
    let bound : HaveBound first (length again) =
    record { few = few; below = λ i p e. has_new_one again p p (own i p e) } in
    subst (λ (u : List ℕ). RenamesModule t again w new u) (sym f.new_parts)
    (module_written t again w new f.new_tree f.new_tree (f.is_again (length again) bound)
    (becomes_again first again own t w f.tree f.new_tree f.becomes))
