use Rattle.std.proofs.Common.{arith, ap, map, List, ◌∙◌}
use Rattle.walrus_types.specs.{Table.Member, Steps.TableReads.member_definition}
use Rattle.walrus_types.proofs.Reading.ReaderCalls.{members_more}
use Rattle.walrus_types.proofs.section_reader.members.Goals as goal

pub loop-entry-preserved : goal.loop-entry-preserved
loop-entry-preserved c =
    ap (λ (ms : List Member). map member_definition ms) c.in_ok-push.ensures.items
    ∙ members_more c.args.ids.now.types c.loop-entry.members.items c.in_ok-sub.sub c.args.entries.now
    c.loop-entry.entry-index c.entry-item.result (omega arith) c.entry-item.is c.loop-entry.invariant
    c.in_ok-sub.ensures.renamed
