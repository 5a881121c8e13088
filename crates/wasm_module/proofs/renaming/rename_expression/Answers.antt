use Rattle.std.proofs.Common.{List, subst}
use Rattle.wasm_module.specs.declared.kind.Kind.{Kind}
use Rattle.wasm_module.specs.Renaming.{type_maps, least_width, RenamesPrefix}
use Rattle.wasm_module.proofs.Rewriting.{prefix_returned}
use Rattle.wasm_module.proofs.renaming.rename_expression.Goals as goal

pub returns-clause-renamed : goal.returns-clause-renamed
returns-clause-renamed c =
    let bytes = c.args.input.now.now in
    let rest = c.rename.new.input.now in
    let out = c.in_ok-new-2.new.items in
    subst (λ (u : List Kind). RenamesPrefix (type_maps c.args.new_indices.now) (least_width c.args.widths) u
    bytes rest out) c.new-kinds.ensures
    (prefix_returned c.in_ok-new.new (λ x. x.items) c.args.new_indices.now c.args.widths c.new-kinds.result
    bytes rest out c.in_ok-new.ensures.stays c.in_ok-new.ensures.changes c.in_ok-new-2.ensures.new
    c.in_ok-new-2.ensures.copy)
