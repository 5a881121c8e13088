use Rattle.walrus_text.specs.Steps.Bytes.{IsOneLine}
use Rattle.walrus_text.proofs.Basics.{if_none, no_items}
use Rattle.walrus_text.proofs.Lexing.LineFeeds.{one_line_before, feed_after, no_feed}
use Rattle.walrus_text.proofs.words.next_line.Goals as goal

pub returns-in_err-after-clause-none : goal.returns-in_err-after-clause-none
returns-in_err-after-clause-none c = if_none c.from_residual.result (IsOneLine c.args.bytes.now)
    (no_feed c.args.bytes.now c.split_at.result.0.now c.split_at.result.1.now c.len_before.result
    c.len_before.ensures.value c.split_at.ensures.front c.split_at.ensures.by_index.0
    (no_items c.split_at.result.1.now c.in_err-after.ensures.cases))

pub returns-clause-found : goal.returns-clause-found
returns-clause-found c = feed_after c.args.bytes.now c.split_at.result.0.now c.split_at.result.1.now
    c.in_ok-after.after.now c.len_before.result _
    c.len_before.ensures.value c.split_at.ensures.back c.split_at.ensures.by_index.0
    c.in_ok-after.ensures.cases.0

pub returns-clause-one_line : goal.returns-clause-one_line
returns-clause-one_line c = one_line_before c.args.bytes.now c.split_at.result.0.now c.len_before.result
    c.len_before.ensures.value c.split_at.ensures.front
