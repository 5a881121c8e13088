-- Modules that become one by new indices that lead together are alike.
use Rattle.std.proofs.Common.{◌≡◌, ℕ, List, length, subst}
use Rattle.wasm_module.specs.Alike.{Pairing, AreAlike, LeadTogether}
use Rattle.wasm_module.specs.RenamedModules.{RenamesModule}
use Rattle.wasm_module.specs.Renaming.{NewIndices}
use Rattle.wasm_module.specs.SyntaxTrees.{SyntaxTree, TreeBecomes}
use Rattle.wasm_module.specs.declared.renaming.Widths.TheVariants as widths
use Rattle.wasm_module.proofs.AlikeTrees.{alike_before}
use Rattle.wasm_module.proofs.TreesOfChanges.{HaveBound}
use Rattle.wasm_module.proofs.TreesOfModules.{module_once, module_trees, has_tree}

pub modules_alike : (R : Pairing) (m w : NewIndices) → LeadTogether R m w → (n : ℕ) → HaveBound m n →
    HaveBound w n → (t u bytes other new : List ℕ) → RenamesModule t m widths.Shortest bytes new →
    RenamesModule u w widths.Shortest other new → AreAlike R (length m) (length w) bytes other
modules_alike R m w h n bound other_bound t u bytes other new f g =
    let p = module_trees t m widths.Shortest bytes new f in
    let q = module_trees u w widths.Shortest other new g in
    let same : q.new_tree ≡ p.new_tree = module_once n new q.new_tree p.new_tree
    (q.is_again n other_bound) (p.is_again n bound) in
    record {
      tree = p.tree;
      other_tree = q.tree;
      has = has_tree (length m) bytes p.tree p.is;
      other_has = has_tree (length w) other q.tree q.is;
      alike = alike_before R m w h t u p.tree q.tree p.new_tree p.becomes
          (subst (λ (x : SyntaxTree). TreeBecomes u w widths.Shortest q.tree x) same q.becomes);
    }
