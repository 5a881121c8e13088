use Rattle.std.proofs.Common.{◌∙◌, ℕ, List, ap, sym, refl}
use Rattle.std.specs.List.{slice_get}
use Rattle.walrus_types.specs.Table.{Table}
use Rattle.walrus_types.proofs.Tables.{Places.home_of, Search.not_both, DeadGroup.members_live, NamedInGroup.member_read, NamedInGroup.none_more, NamedInGroup.named_here, NamedInGroup.named_nowhere, TypeSet.seen}
use Rattle.walrus_types.proofs.table.ModuleTypes.is_named_in_group.Goals as goal

pub is_other_namer-requires : goal.is_other_namer-requires
is_other_namer-requires c =
    let t : Table = record { types = seen c.self.inside.types; groups = c.self.inside.groups.items } in
    let live = rw (← c.self.view_is) at c.requires in
    let at = rw c.index.ensures at c.index-2.ensures in
    let home = home_of t c.self.inside.group_of.items c.args.id c.index-2.result.now c.index-group.result.now
    c.self.invariant live at c.index-group.ensures in
    let read = member_read c.as_slice-members.result.now c.loop-other.other-index c.other-item.result
    c.loop-other-test.true c.other-item.is in
    rw (← c.self.view_is) (members_live t c.self.inside.group_of.items c.args.id c.index-2.result.now
    c.index-group.result.now c.self.invariant home c.loop-other.other-index c.other-item.result
    (ap (λ (xs : List ℕ). slice_get xs c.loop-other.other-index) (sym c.as_slice-members.ensures) ∙ read))

pub returns-then-is_other_namer : goal.returns-then-is_other_namer
returns-then-is_other_namer c =
    let t : Table = record { types = seen c.self.inside.types; groups = c.self.inside.groups.items } in
    let live = rw (← c.self.view_is) at c.requires in
    let at = rw c.index.ensures at c.index-2.ensures in
    let home = home_of t c.self.inside.group_of.items c.args.id c.index-2.result.now c.index-group.result.now
    c.self.invariant live at c.index-group.ensures in
    let read = member_read c.as_slice-members.result.now c.loop-other.other-index c.other-item.result
    c.loop-other-test.true c.other-item.is in
    let namer = rw (← c.self.view_is) at (c.is_other_namer.ensures.0 c.if-is_other_namer.true) in
    rw (← c.self.view_is) (
      (λ h. named_here t c.args.id c.index-2.result.now c.index-group.result.now home
          c.as_slice-members.result.now c.as_slice-members.ensures c.loop-other.other-index
          c.other-item.result
          read namer),
      (λ h. refl),
    )

pub loop-other-preserved : goal.loop-other-preserved
loop-other-preserved c =
    let read = member_read c.as_slice-members.result.now c.loop-other.other-index c.other-item.result
    c.loop-other-test.true c.other-item.is in
    none_more c.args.self.now c.as_slice-members.result.now c.args.id c.loop-other.other-index
    c.other-item.result c.loop-other.invariant read (λ namer.
    not_both c.is_other_namer.result (c.is_other_namer.ensures.1 namer) c.if-is_other_namer.false)

pub returns : goal.returns
returns c =
    let t : Table = record { types = seen c.self.inside.types; groups = c.self.inside.groups.items } in
    let live = rw (← c.self.view_is) at c.requires in
    let at = rw c.index.ensures at c.index-2.ensures in
    let home = home_of t c.self.inside.group_of.items c.args.id c.index-2.result.now c.index-group.result.now
    c.self.invariant live at c.index-group.ensures in
    let none = rw (← c.self.view_is) at c.loop-other.invariant in
    rw (← c.self.view_is) (
      (λ h. (let k : ⊥ = cc in absurd k)),
      (λ named. absurd (named_nowhere t c.args.id c.index-2.result.now c.index-group.result.now home
          c.as_slice-members.result.now c.as_slice-members.ensures c.loop-other.other-index
          c.loop-other-test.false none named)),
    )
