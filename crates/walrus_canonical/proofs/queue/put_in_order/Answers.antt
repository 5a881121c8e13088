use Rattle.std.proofs.lemmas.List.{nil_from_length}
use Rattle.std.proofs.lemmas.Result.{on_ok_weaker}
use Rattle.std.proofs.Common.{◌≡◌, [], ◌∙◌, sym, arith}
use Rattle.std.proofs.lemmas.Bool.Decides.{nat_tests}
use Rattle.walrus_canonical.proofs.Output.OrderedQueues.{put_in_batch, put_in_map}
use Rattle.walrus_canonical.proofs.queue.put_in_order.Goals as goal

pub returns-then-is_empty-clause-same : goal.returns-then-is_empty-clause-same
returns-then-is_empty-clause-same c =
    let none : c.args.falling.now.items ≡ [] =
    nil_from_length c.args.falling.now.items (sym c.args.falling.now.ok.0 ∙ grind (arith, nat_tests, c.is_empty.ensures, c.if-is_empty.true)) in
    λ apart. put_in_batch c.args.kept.now.entries c.args.falling.now.items c.args.groups.items
    c.in_falling_order-groups.result.items none c.in_falling_order-groups.ensures.same

pub returns-else-is_empty-clause-same : goal.returns-else-is_empty-clause-same
returns-else-is_empty-clause-same c =
    on_ok_weaker c.insert_all.result (λ put apart. put_in_map c.args.kept.now.entries
    c.args.falling.now.items c.args.groups.items c.in_falling_order-groups.result.items
    c.insert_all.new.kept.entries c.in_falling_order-groups.ensures.same put apart) c.insert_all.ensures
