use Rattle.std.proofs.Common.{◌∙◌, ap, map, List}
use Rattle.walrus_ty.specs.Definition.{Definition}
use Rattle.walrus_ty.specs.Records.{entry_definition}
use Rattle.walrus_canonical.specs.Steps.Shown.{definitions_cmp, shown_definitions}
use Rattle.walrus_canonical.proofs.Output.KeyedGroups.{greater_by_group_key, less_by_group_key}
use Rattle.walrus_canonical.proofs.ready.ReadyGroupOrd.cmp.Goals as goal

pub returns-in-Less : goal.returns-in-Less
returns-in-Less c =
    less_by_group_key c.self.inside.entries c.other.inside.entries c.self.inside.key c.other.inside.key
    c.compare_keys.result c.self.invariant c.other.invariant c.compare_keys.ensures.order
    c.compare_keys.ensures.less c.in-Less.is
    ∙ (ap (λ (ds : List Definition). definitions_cmp ds
    (shown_definitions (map entry_definition c.other.inside.entries))) c.self.view_is
    ∙ ap (definitions_cmp c.args.self.now) c.other.view_is)

pub returns-in-Greater : goal.returns-in-Greater
returns-in-Greater c =
    greater_by_group_key c.self.inside.entries c.other.inside.entries c.self.inside.key c.other.inside.key
    c.compare_keys.result c.self.invariant c.other.invariant c.compare_keys.ensures.order
    c.compare_keys.ensures.greater c.in-Greater.is
    ∙ (ap (λ (ds : List Definition). definitions_cmp ds
    (shown_definitions (map entry_definition c.other.inside.entries))) c.self.view_is
    ∙ ap (definitions_cmp c.args.self.now) c.other.view_is)
