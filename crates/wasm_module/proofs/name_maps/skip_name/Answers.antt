use Rattle.wasm_module.proofs.NameMaps.{name_taken, no_name}
use Rattle.wasm_module.proofs.name_maps.skip_name.Goals as goal

pub returns-in_err-take_sized-clause-none : goal.returns-in_err-take_sized-clause-none
returns-in_err-take_sized-clause-none c =
    rw c.from_residual.ensures (no_name c.args.input.now.now c.in_err-take_sized.ensures.none)

pub returns-clause-taken : goal.returns-clause-taken
returns-clause-taken c =
    name_taken c.in_ok-take_sized.field-0.now c.args.input.now.now c.take_sized.new.input.now
    c.in_ok-take_sized.ensures.taken
