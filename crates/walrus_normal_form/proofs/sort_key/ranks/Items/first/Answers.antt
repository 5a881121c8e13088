use Rattle.std.proofs.Common.{sym, ◌∙◌}
use Rattle.walrus_normal_form.proofs.Ordering.FirstRanks.{closed-val-after, end-after, end-rank, mark-after, mark-rank, open-val-after, first_val-rank}
use Rattle.walrus_normal_form.proofs.sort_key.ranks.Items.first.Goals as goal

pub returns-then-self-clause-first : goal.returns-then-self-clause-first
returns-then-self-clause-first g c =
    rw (← c.self.view_is)
    (mark-rank c.self.inside.vals.now c.self.inside.further.now c.self.inside.is_marked c.in-empty.len_below
    c.if-self.true)

pub returns-then-self-clause-after : goal.returns-then-self-clause-after
returns-then-self-clause-after g c =
    rw (← c.self.view_is) (c.new.ensures
    ∙ mark-after c.self.inside.vals.now c.self.inside.further.now c.self.inside.is_marked c.in-empty.len_below
    c.if-self.true)

pub returns-else-self-clause-first : goal.returns-else-self-clause-first
returns-else-self-clause-first g c =
    rw (← c.self.view_is)
    (end-rank c.self.inside.vals.now c.self.inside.further.now c.self.inside.is_marked c.in-empty.len_below
    c.if-self.false)

pub returns-else-self-clause-after : goal.returns-else-self-clause-after
returns-else-self-clause-after g c =
    rw (← c.self.view_is) (c.new-else-self.ensures
    ∙ end-after c.self.inside.vals.now c.self.inside.further.now c.self.inside.is_marked c.in-empty.len_below
    c.if-self.false)

pub returns-then-is_open-clause-first : goal.returns-then-is_open-clause-first
returns-then-is_open-clause-first g c =
    rw (← c.self.view_is)
    (first_val-rank c.self.inside.vals.now c.self.inside.further.now c.self.inside.is_marked c.val-item.result
    c.rank_of_val-rank.result c.in-len1-up.len_at_least c.val-item.is c.rank_of_val-rank.ensures)

pub returns-then-is_open-clause-after : goal.returns-then-is_open-clause-after
returns-then-is_open-clause-after g c =
    rw (← c.self.view_is) (c.new-then-is_open.ensures
    ∙ open-val-after c.self.inside.vals.now c.self.inside.further.now c.self.inside.is_marked
    c.val-item.result c.rank_of_val-rank.result c.in-len1-up.len_at_least c.val-item.is
    c.rank_of_val-rank.ensures
    (sym c.if-is_open.true ∙ c.is_open.ensures))

pub returns-else-is_open-clause-first : goal.returns-else-is_open-clause-first
returns-else-is_open-clause-first g c =
    rw (← c.self.view_is)
    (first_val-rank c.self.inside.vals.now c.self.inside.further.now c.self.inside.is_marked c.val-item.result
    c.rank_of_val-rank.result c.in-len1-up.len_at_least c.val-item.is c.rank_of_val-rank.ensures)

pub returns-else-is_open-clause-after : goal.returns-else-is_open-clause-after
returns-else-is_open-clause-after g c =
    rw (← c.self.view_is) (c.new-else-is_open.ensures
    ∙ closed-val-after c.self.inside.vals.now c.self.inside.further.now c.self.inside.is_marked
    c.val-item.result c.rank_of_val-rank.result c.in-len1-up.len_at_least c.val-item.is
    c.rank_of_val-rank.ensures
    (sym c.if-is_open.false ∙ c.is_open.ensures))
