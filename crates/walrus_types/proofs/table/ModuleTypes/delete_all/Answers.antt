use Rattle.std.proofs.Common.{◌≡◌, ◌<◌, ◌-◌, ℕ, suc, length, sym, subst, arith}
use Rattle.walrus_arena.specs.Arena.{IsLive}
use Rattle.walrus_types.proofs.Tables.Deletions.{next_live}
use Rattle.walrus_types.proofs.table.ModuleTypes.delete_all.Goals as goal

pub delete-requires : goal.delete-requires
delete-requires c =
    let ids = c.args.ids.now in
    let i = c.loop-i.i in
    let next : c.loop-i.i ≡ suc (c.loop-i.i - 1) = omega (arith, c.loop-i-test.true) in
    let below : c.loop-i.i - 1 < length c.args.ids.now =
    omega (arith, c.loop-i-test.true, c.loop-i.invariant.within) in
    let live = next_live c.args.self.now c.loop-i.self ids i (i - 1) c.index-ids-i.result next below
    c.requires.live c.requires.distinct c.loop-i.invariant.deleted in
    subst (λ (id : ℕ). IsLive c.loop-i.self.types.slots id) (sym c.index-ids-i.is) live
