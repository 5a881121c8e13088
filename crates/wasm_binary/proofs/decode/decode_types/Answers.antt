use Rattle.wasm_binary.proofs.Groups.{types_take}
use Rattle.wasm_binary.proofs.Sections.{error_within, error_refuses}
use Rattle.wasm_binary.proofs.decode.decode_types.Goals as goal

pub returns-in-Ok-clause-found : goal.returns-in-Ok-clause-found
returns-in-Ok-clause-found c = types_take c.args.bytes.now c.in-Ok.groups.items c.in-Ok.ensures

pub refusal-requires : goal.refusal-requires
refusal-requires c = error_within c.args.bytes.now c.read_types.new.input.now c.in-Err.error c.in-Err.ensures

pub returns-in-Err : goal.returns-in-Err
returns-in-Err c =
    let r = error_refuses c.args.bytes.now c.read_types.new.input.now c.in-Err.error c.in-Err.ensures in
    rw c.refusal.ensures (record {
      found = tt;
      refused = r.refused;
      place = r.place;
      stuck = r.stuck;
      begun = r.begun;
      unsupported = r.unsupported;
    })
