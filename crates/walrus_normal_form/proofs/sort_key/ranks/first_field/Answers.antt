use Rattle.std.proofs.Common.{sym, ◌∙◌, ap}
use Rattle.walrus_normal_form.specs.SortKeys.{field_rank}
use Rattle.walrus_normal_form.proofs.Ordering.FirstRanks.{closed-after, empty-after, empty-rank, first-rank, open-after}
use Rattle.walrus_normal_form.proofs.sort_key.ranks.first_field.Goals.{then-is_open, else-is_open}
use Rattle.walrus_normal_form.proofs.sort_key.ranks.first_field.Goals as goal

pub returns-in-empty-clause-first : goal.returns-in-empty-clause-first
returns-in-empty-clause-first g c = empty-rank field_rank c.args.fields.now c.in-empty.len_below

pub returns-in-empty-clause-after : goal.returns-in-empty-clause-after
returns-in-empty-clause-after g c = empty-after field_rank c.args.fields.now c.in-empty.len_below

pub returns-after-is_open-clause-first : goal.returns-after-is_open-clause-first
returns-after-is_open-clause-first g c =
    first-rank field_rank c.args.fields.now c.field-item.result c.rank_of_field-rank.result
    c.in-len1-up.len_at_least c.field-item.is c.rank_of_field-rank.ensures

pub returns-after-is_open-clause-after : goal.returns-after-is_open-clause-after
returns-after-is_open-clause-after g c =
    elim c.if-is_open.branch [
      | then-is_open w ↦ ap (λ r. r.now) w.result-is
          ∙ open-after field_rank c.args.fields.now c.field-item.result c.rank_of_field-rank.result
          c.in-len1-up.len_at_least c.field-item.is c.rank_of_field-rank.ensures
          (sym w.if-is_open.true ∙ c.is_open.ensures)
      | else-is_open w ↦ ap (λ r. r.now) w.result-is
          ∙ closed-after field_rank c.args.fields.now c.field-item.result c.rank_of_field-rank.result
          c.in-len1-up.len_at_least c.field-item.is c.rank_of_field-rank.ensures
          (sym w.if-is_open.false ∙ c.is_open.ensures)
    ]
