use Rattle.std.proofs.lemmas.List.Elements.{same_from_all_zip}
use Rattle.walrus_ty.specs.SameTypes.{type_eq}
use Rattle.walrus_types.proofs.Tables.Clones.{clone_indexed, groups_same, set_cloned}
use Rattle.walrus_types.proofs.table.ModuleTypesClone.clone.Goals as goal

pub invariant_of-result : goal.invariant_of-result
unfolding type_eq
invariant_of-result c =
    let groups = groups_same c.self.inside.groups.items c.in_ok-clone-2.field-0.items
    c.in_ok-clone-2.ensures.cases.0 in
    let group_of = same_from_all_zip _ c.self.inside.group_of.items c.in_ok-clone-3.field-0.items
    c.in_ok-clone-3.ensures.cases.0 (λ x y is. is) in
    rw (groups, group_of) (clone_indexed _ _ _ c.self.invariant (set_cloned c.self.inside.types
    c.in_ok-clone.field-0 c.self.inside.groups.items c.in_ok-clone.ensures.cases))

pub returns : goal.returns
unfolding type_eq
returns c =
    let groups = groups_same c.self.inside.groups.items c.in_ok-clone-2.field-0.items
    c.in_ok-clone-2.ensures.cases.0 in
    record {
      cases = rw (← c.self.view_is, groups) (set_cloned c.self.inside.types c.in_ok-clone.field-0
          c.self.inside.groups.items c.in_ok-clone.ensures.cases);
    }
