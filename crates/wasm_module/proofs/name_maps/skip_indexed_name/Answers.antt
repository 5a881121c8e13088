use Rattle.wasm_module.proofs.Changing.{none_weaker, some_weaker}
use Rattle.wasm_module.proofs.NameMaps.{indexed_taken, no_index, no_name_behind}
use Rattle.wasm_module.proofs.name_maps.skip_indexed_name.Goals as goal

pub returns-in_err-read_u32-clause-none : goal.returns-in_err-read_u32-clause-none
returns-in_err-read_u32-clause-none c =
    rw c.from_residual.ensures (no_index c.args.input.now.now c.read_u32.new.input.now
    c.in_err-read_u32.ensures)

pub returns-clause-taken : goal.returns-clause-taken
returns-clause-taken c =
    some_weaker c.skip_name.result _ _ (λ u h. indexed_taken c.args.input.now.now c.in_ok-read_u32.field-0
    c.read_u32.new.input.now c.skip_name.new.input.now c.in_ok-read_u32.ensures h) c.skip_name.ensures.taken

pub returns-clause-none : goal.returns-clause-none
returns-clause-none c =
    none_weaker c.skip_name.result _ _ (no_name_behind c.args.input.now.now c.in_ok-read_u32.field-0
    c.read_u32.new.input.now c.in_ok-read_u32.ensures) c.skip_name.ensures.none
