use Rattle.std.proofs.Common.{arith}
use Rattle.wasm_module.specs.NameSections.{IsKnownEntry}
use Rattle.wasm_module.specs.Steps.NameSections.{IsFollowing}
use Rattle.wasm_module.proofs.NameMaps.{entry_any, entry_free, following_free, vec_begun, vec_on, vec_ended, no_count, no_item}
use Rattle.wasm_module.proofs.name_maps.skip_map.Goals as goal

pub returns-in_err-entries-clause-none : goal.returns-in_err-entries-clause-none
returns-in_err-entries-clause-none c =
    rw c.from_residual.ensures
    (no_count (IsKnownEntry (IsFollowing c.args.follows) c.args.count) c.args.input.now.now
    c.read_u32.new.input.now c.in_err-entries.ensures)

pub loop-init : goal.loop-init
loop-init c =
    vec_begun (IsKnownEntry (IsFollowing c.args.follows) c.args.count) c.args.input.now.now
    c.in_ok-entries.entries c.read_u32.new.input.now c.in_ok-entries.ensures

pub returns-in_err-take_entry-clause-none : goal.returns-in_err-take_entry-clause-none
returns-in_err-take_entry-clause-none c =
    rw c.from_residual-in_err-take_entry.ensures
    (no_item (IsKnownEntry (IsFollowing c.args.follows) c.args.count)
    (entry_free (IsFollowing c.args.follows) c.args.count (following_free c.args.follows))
    c.args.input.now.now c.in_ok-entries.entries c.loop.counter c.loop.input.now c.loop.invariant
    c.loop-test.true c.in_err-take_entry.ensures.none)

pub loop-preserved : goal.loop-preserved
loop-preserved c =
    vec_on (IsKnownEntry (IsFollowing c.args.follows) c.args.count) c.args.input.now.now
    c.in_ok-entries.entries c.loop.counter c.loop.input.now c.take_entry.new.input.now c.loop.invariant
    (entry_any (IsFollowing c.args.follows) c.args.count c.in_ok-take_entry.field-0 c.loop.input.now
    c.take_entry.new.input.now c.in_ok-take_entry.ensures.taken)

pub returns-clause-taken : goal.returns-clause-taken
returns-clause-taken c =
    vec_ended (IsKnownEntry (IsFollowing c.args.follows) c.args.count) c.args.input.now.now
    c.in_ok-entries.entries c.loop.counter c.loop.input.now c.loop.invariant
    (omega (arith, c.loop-test.false, c.loop.auto.counter-end))
