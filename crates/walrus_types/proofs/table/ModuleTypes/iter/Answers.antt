use Rattle.std.proofs.Common.{ℕ, List, map, ap, ◌∙◌}
use Rattle.walrus_ty.specs.Types.{ModuleType}
use Rattle.walrus_types.proofs.Tables.TypeSet.{items_seen}
use Rattle.walrus_types.proofs.table.ModuleTypes.iter.Goals as goal

pub returns : goal.returns
returns c = rw (← c.self.view_is) (ap (λ (items : List (ℕ × ModuleType)). map (λ item. item.1) items)
    c.iter.ensures ∙ items_seen 0 c.self.inside.types.slots)
