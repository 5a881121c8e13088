-- A clone of a record is the record.
use Rattle.std.proofs.Common.{◌≡◌, rules}
use Rattle.std.proofs.lemmas.List.Elements.{same_from_all_zip}
use Rattle.walrus_ty.specs.contracts.records.CompAtClone.TheImpl.{ghosts as comp_clone}
use Rattle.walrus_ty.specs.contracts.records.EntryAtClone.TheImpl.{ghosts as entry_clone}
use Rattle.walrus_ty.specs.contracts.records.GroupAtClone.TheImpl.{ghosts as group_clone}
use Rattle.walrus_ty.specs.declared.records.CompAt.{CompAt}
use Rattle.walrus_ty.specs.declared.records.EntryAt.{EntryAt}
use Rattle.walrus_ty.specs.declared.records.GroupAt.{GroupAt}
use Rattle.walrus_ty.specs.declared.records.CompAt.TheVariants as comp
use Rattle.walrus_ty.specs.declared.records.GroupAt.TheVariants as group

comp_same : (source copy : CompAt) → comp_clone.is_clone source copy → copy ≡ source
comp_same (comp.Function ps rs) (comp.Function qs ss) clone = search (rules, same_from_all_zip)
comp_same (comp.Function ps rs) (comp.Struct gs) clone = search (rules, same_from_all_zip)
comp_same (comp.Function ps rs) (comp.Array g) clone = search (rules, same_from_all_zip)
comp_same (comp.Struct fs) (comp.Function qs ss) clone = search (rules, same_from_all_zip)
comp_same (comp.Struct fs) (comp.Struct gs) clone = search (rules, same_from_all_zip)
comp_same (comp.Struct fs) (comp.Array g) clone = search (rules, same_from_all_zip)
comp_same (comp.Array f) (comp.Function qs ss) clone = search (rules, same_from_all_zip)
comp_same (comp.Array f) (comp.Struct gs) clone = search (rules, same_from_all_zip)
comp_same (comp.Array f) (comp.Array g) clone = search (rules, same_from_all_zip)

entry_same : (source copy : EntryAt) → entry_clone.is_clone source copy → copy ≡ source
entry_same source copy clone = search (rules, comp_same)

pub group_same : (source copy : GroupAt) → group_clone.is_clone source copy → copy ≡ source
group_same (group.Single d) (group.Single e) clone = search (rules, entry_same)
group_same (group.Single d) (group.Rec es) clone = search (rules, same_from_all_zip)
group_same (group.Rec ds) (group.Single e) clone = search (rules, same_from_all_zip)
group_same (group.Rec ds) (group.Rec es) clone = search (rules, same_from_all_zip, entry_same)
