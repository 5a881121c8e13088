use Rattle.std.proofs.Common.{arith}
use Rattle.wasm_module.specs.NameSections.{IsIndexedName}
use Rattle.wasm_module.proofs.NameMaps.{indexed_name_free, vec_begun, vec_on, vec_ended, no_count, no_item}
use Rattle.wasm_module.proofs.name_maps.skip_name_map.Goals as goal

pub returns-in_err-count-clause-none : goal.returns-in_err-count-clause-none
returns-in_err-count-clause-none c =
    rw c.from_residual.ensures
    (no_count IsIndexedName c.args.input.now.now c.read_u32.new.input.now c.in_err-count.ensures)

pub loop-init : goal.loop-init
loop-init c =
    vec_begun IsIndexedName c.args.input.now.now c.in_ok-count.count c.read_u32.new.input.now
    c.in_ok-count.ensures

pub returns-in_err-skip_indexed_name-clause-none : goal.returns-in_err-skip_indexed_name-clause-none
returns-in_err-skip_indexed_name-clause-none c =
    rw c.from_residual-in_err-skip_indexed_name.ensures
    (no_item IsIndexedName indexed_name_free c.args.input.now.now c.in_ok-count.count c.loop.counter
    c.loop.input.now c.loop.invariant c.loop-test.true c.in_err-skip_indexed_name.ensures.none)

pub loop-preserved : goal.loop-preserved
loop-preserved c =
    vec_on IsIndexedName c.args.input.now.now c.in_ok-count.count c.loop.counter c.loop.input.now
    c.skip_indexed_name.new.input.now c.loop.invariant c.in_ok-skip_indexed_name.ensures.taken

pub returns-clause-taken : goal.returns-clause-taken
returns-clause-taken c =
    vec_ended IsIndexedName c.args.input.now.now c.in_ok-count.count c.loop.counter c.loop.input.now
    c.loop.invariant (omega (arith, c.loop-test.false, c.loop.auto.counter-end))
