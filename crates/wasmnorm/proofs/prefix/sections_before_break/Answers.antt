use Rattle.wasmnorm.proofs.Prefixes.{breaks_behind}
use Rattle.wasmnorm.proofs.prefix.sections_before_break.Goals as goal

pub returns : goal.returns
returns c =
    breaks_behind c.args.bytes.now c.bytes_before-prefix.result.now c.in-Err-Malformed.field-0
    c.in_ok-section.section.offset c.in-Err-Malformed.offset c.in_ok-section.section.id
    c.in-Err-Malformed.field-0-1 c.bytes_before-prefix.ensures c.in_ok-section.ensures.before
    c.in_ok-section.ensures.last c.in_ok-section.ensures.id c.in-Err-Malformed.ensures.refused
    c.in-Err-Malformed.field-0-is c.in-Err-Malformed.ensures.stuck
