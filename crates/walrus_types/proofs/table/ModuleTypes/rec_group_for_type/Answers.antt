use Rattle.std.proofs.Common.{◌≡◌, true}
use Rattle.walrus_arena.specs.Arena.{IsLive}
use Rattle.walrus_types.specs.Table.{Table}
use Rattle.walrus_types.proofs.Tables.{Places.home_of, Places.group_answer, Places.group_absent, TypeSet.seen}
use Rattle.walrus_types.proofs.table.ModuleTypes.rec_group_for_type.Goals as goal

pub returns-then-contains : goal.returns-then-contains
returns-then-contains c =
    let t : Table = record { types = seen c.self.inside.types; groups = c.self.inside.groups.items } in
    let live = c.contains.ensures.0 c.if-contains.true in
    let at = rw c.index.ensures at c.index-then-contains.ensures in
    rw (← c.self.view_is) (group_answer t c.args.id c.index-then-contains.result.now
    c.index-then-contains-2.result.now (home_of t c.self.inside.group_of.items c.args.id
    c.index-then-contains.result.now c.index-then-contains-2.result.now c.self.invariant live at
    c.index-then-contains-2.ensures))

pub returns-else-contains : goal.returns-else-contains
returns-else-contains c =
    let t : Table = record { types = seen c.self.inside.types; groups = c.self.inside.groups.items } in
    let dead : IsLive t.types.slots c.args.id → ⊥ = λ live.
    (let yes : c.contains.result ≡ true = c.contains.ensures.1 live in let k : ⊥ = cc in absurd k) in
    rw (← c.self.view_is) (group_absent t c.self.inside.group_of.items c.args.id c.self.invariant dead)
