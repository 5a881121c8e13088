use Rattle.std.proofs.Common.{rules}
use Rattle.wasm_module.proofs.Taking.{u32_shorter}
use Rattle.wasm_module.proofs.framing.first_section.Goals as goal

pub overflow_sub-content_offset : goal.overflow_sub-content_offset
overflow_sub-content_offset c = u32_shorter _ c.in_ok-size.field-0 c.read_u32.new.input.now (search rules)
