use Rattle.std.proofs.Common.{rules, ◌≡◌, [], ◌++◌, sym}
use Rattle.walrus_canonical.proofs.Output.OrderedQueues.{popped}
use Rattle.walrus_canonical.proofs.queue.ReadyQueue.pop_least.Goals as goal

pub invariant_of-self : goal.invariant_of-self
invariant_of-self c = c.put_in_order.ensures.falling c.self.invariant

pub invariant_of-self-2 : goal.invariant_of-self-2
invariant_of-self-2 c = c.take_least.ensures.falling (c.put_in_order.ensures.falling c.self.invariant)

pub returns : goal.returns
returns c =
    let gone : c.replace-fresh.new.dest.items ≡ [] = search rules in
    let groups : c.replace-fresh.result.items ≡ c.self.inside.fresh.items = search rules in
    popped c.args.self.now (c.self.inside.kept.entries ++ c.self.inside.falling.items)
    c.self.inside.fresh.items c.replace-fresh.result.items
    (c.put_in_order.new.kept.entries ++ c.put_in_order.new.falling.items)
    (c.take_least.new.kept.entries ++ c.take_least.new.falling.items) c.replace-fresh.new.dest.items
    c.take_least.result (sym c.self.view_is) groups gone c.in_ok-put_in_order.ensures.same
    (c.take_least.ensures.least (c.put_in_order.ensures.falling c.self.invariant))
