use Rattle.std.proofs.Common.{rules, ◌+◌, ◌<◌, length, arith, sym, ◌∙◌}
use Rattle.walrus_arena.proofs.ListingLemmas.{items_from-last_dead, items_from-last_live, longer-by_last}
use Rattle.walrus_arena.proofs.iter.IterDoubleEndedIterator.next_back.Goals as goal

pub returns-then-slot-clause-steps : goal.returns-then-slot-clause-steps
returns-then-slot-clause-steps g c =
    let last = items_from-last_live c.loop-slot.self-inside.first c.loop-slot.self-inside.slots.now c.in-Some.rest.now
    c.in-Some.slot.now c.from_index.result c.in-Some.ensures.cases.0 c.if-slot.true c.from_index.ensures in
    sym c.loop-slot.invariant.1 ∙ last

pub returns-then-slot-clause-goes : goal.returns-then-slot-clause-goes
returns-then-slot-clause-goes g c =
    let last = items_from-last_live c.loop-slot.self-inside.first c.loop-slot.self-inside.slots.now c.in-Some.rest.now
    c.in-Some.slot.now c.from_index.result c.in-Some.ensures.cases.0 c.if-slot.true c.from_index.ensures in
    let less = longer-by_last _ _ _ (sym c.loop-slot.invariant.1 ∙ last) in
    search (rules, less)

pub loop-slot-preserved : goal.loop-slot-preserved
loop-slot-preserved g c =
    let last = items_from-last_dead c.loop-slot.self-inside.first c.loop-slot.self-inside.slots.now c.in-Some.rest.now
    c.in-Some.slot.now c.in-Some.ensures.cases.0 c.if-slot.false in
    let fits : c.loop-slot.self-inside.first + length c.in-Some.rest.now < 18446744073709551616 =
    omega (arith, c.loop-slot.invariant.0, c.in-Some.ensures.cases.1) in
    (fits, sym last ∙ c.loop-slot.invariant.1)
