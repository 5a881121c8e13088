use Rattle.std.proofs.Common.{◌-◌, length, refl, arith}
use Rattle.wasm_module.specs.Steps.NameSections.{IsFollowing}
use Rattle.wasm_module.proofs.Taking.{u32_shorter}
use Rattle.wasm_module.proofs.NameMaps.{entry_indexless, entry_unknown, entry_malformed, entry_taken}
use Rattle.wasm_module.proofs.name_maps.take_entry.Goals as goal

pub returns-in_err-index-clause-none : goal.returns-in_err-index-clause-none
returns-in_err-index-clause-none c =
    rw c.from_residual.ensures
    (entry_indexless (IsFollowing c.args.follows) c.args.count c.args.input.now.now c.read_u32.new.input.now
    c.in_err-index.ensures)

pub overflow_sub-width : goal.overflow_sub-width
overflow_sub-width c =
    u32_shorter c.args.input.now.now c.in_ok-index.index c.read_u32.new.input.now c.in_ok-index.ensures

pub returns-then-index-count-clause-none : goal.returns-then-index-count-clause-none
returns-then-index-count-clause-none c =
    entry_unknown (IsFollowing c.args.follows) c.args.count c.args.input.now.now c.in_ok-index.index
    c.read_u32.new.input.now c.in_ok-index.ensures (omega (arith, c.if-index-count.true))

pub returns-in_err-follows-clause-none : goal.returns-in_err-follows-clause-none
returns-in_err-follows-clause-none c =
    rw c.from_residual-in_err-follows.ensures
    (entry_malformed (IsFollowing c.args.follows) c.args.count c.args.input.now.now c.in_ok-index.index
    c.read_u32.new.input.now c.in_ok-index.ensures c.in_err-follows.ensures.none)

pub returns-clause-taken : goal.returns-clause-taken
returns-clause-taken c =
    entry_taken (IsFollowing c.args.follows) c.args.count c.args.input.now.now c.in_ok-index.index
    (length c.args.input.now.now - length c.read_u32.new.input.now) c.read_u32.new.input.now
    c.in_ok-follows.follows.now c.take_following.new.input.now c.in_ok-index.ensures refl
    c.in_ok-follows.ensures.taken.0 c.in_ok-follows.ensures.taken.1
    (omega (arith, c.if-index-count.false))
