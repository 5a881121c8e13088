use Rattle.std.proofs.Common.{◌∙◌, ap, sym}
use Rattle.std.specs.Ordering.{ordering_then}
use Rattle.walrus_ty.specs.{Types.type_definition, Value.bool_cmp}
use Rattle.walrus_ty.proofs.Orders.Types.{type_is}
use Rattle.walrus_types.specs.Steps.SortKeys.{type_sort_key}
use Rattle.walrus_types.proofs.emit.sort_key.KeyedTypeOrd.cmp.Goals as goal

pub returns-in-Less : goal.returns-in-Less
returns-in-Less c =
    let t = c.args.self.now in
    let u = c.args.other.now in
    let less = c.compare_keys.ensures.less (type_definition t) (type_definition u)
    (c.self.invariant ∙ ap type_sort_key c.self.view_is) (c.other.invariant ∙ ap type_sort_key c.other.view_is)
    c.in-Less.is in
    ap (λ o. ordering_then o (bool_cmp t.is_for_function_entry u.is_for_function_entry)) (sym less)
    ∙ sym (type_is t u)

pub returns-in-Greater : goal.returns-in-Greater
returns-in-Greater c =
    let t = c.args.self.now in
    let u = c.args.other.now in
    let greater = c.compare_keys.ensures.greater (type_definition t) (type_definition u)
    (c.self.invariant ∙ ap type_sort_key c.self.view_is) (c.other.invariant ∙ ap type_sort_key c.other.view_is)
    c.in-Greater.is in
    ap (λ o. ordering_then o (bool_cmp t.is_for_function_entry u.is_for_function_entry)) (sym greater)
    ∙ sym (type_is t u)
