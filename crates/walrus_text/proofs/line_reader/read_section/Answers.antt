use Rattle.std.proofs.Common.{◌≡◌, ◌++◌, [], ◌<◌, ◌^◌, length, take, arith}
use Rattle.std.specs.Prelude.{IfSome}
use Rattle.std.proofs.KnownBytes.{Consumes-nil, Consumes-trans}
use Rattle.walrus_text.specs.Words.{lines_of}
use Rattle.walrus_text.specs.Text.{IsSectionText, section_lines}
use Rattle.walrus_text.specs.Errors.{IsFirstBadLine, bad_line}
use Rattle.walrus_text.proofs.Gathering.Bytes.{at_end, block_read, no_text_if_bad}
use Rattle.walrus_text.proofs.line_reader.read_section.Goals as goal
use Rattle.walrus_text.proofs.Basics.{if_ok, if_err}

pub loop-turn-init : goal.loop-turn-init
loop-turn-init g c =
    ([], c.new-lines.ensures, Consumes-nil (g.R.Read.remaining c.args.reader.now), omega arith)

pub returns-then-count-eq0-clause-read : goal.returns-then-count-eq0-clause-read
returns-then-count-eq0-clause-read g c =
    let left = g.R.Read.remaining in
    let room : 0 < length c.read.new.buf = grind arith in
    let (bytes, has, before, few) = c.loop-turn.invariant in
    if_ok c.finish.result _ _ (λ groups told. at_end (left c.args.reader.now) (left c.loop-turn.reader)
    (left c.read.new.self) bytes c.read.new.buf c.in-Ok.count (λ text.
    lines_of text ≡ section_lines groups.items) before c.in-Ok.ensures.bytes c.if-count-eq0.true room
    (told bytes has)) c.finish.ensures.read

pub returns-then-count-eq0-clause-refused : goal.returns-then-count-eq0-clause-refused
returns-then-count-eq0-clause-refused g c =
    let left = g.R.Read.remaining in
    let room : 0 < length c.read.new.buf = grind arith in
    let (bytes, has, before, few) = c.loop-turn.invariant in
    let short : length bytes < 2 ^ 63 = grind arith in
    if_err c.finish.result _ _ (λ e told. at_end (left c.args.reader.now) (left c.loop-turn.reader)
    (left c.read.new.self) bytes c.read.new.buf c.in-Ok.count (λ text.
    IfSome (bad_line e) (λ line. ¬ IsSectionText (lines_of text))) before c.in-Ok.ensures.bytes
    c.if-count-eq0.true room (no_text_if_bad bytes (bad_line e) (told bytes has short))) c.finish.ensures.refused

pub returns-then-count-eq0-clause-first : goal.returns-then-count-eq0-clause-first
returns-then-count-eq0-clause-first g c =
    let left = g.R.Read.remaining in
    let room : 0 < length c.read.new.buf = grind arith in
    let (bytes, has, before, few) = c.loop-turn.invariant in
    let short : length bytes < 2 ^ 63 = grind arith in
    if_err c.finish.result _ _ (λ e told. at_end (left c.args.reader.now) (left c.loop-turn.reader)
    (left c.read.new.self) bytes c.read.new.buf c.in-Ok.count (λ text.
    IfSome (bad_line e) (IsFirstBadLine text)) before c.in-Ok.ensures.bytes
    c.if-count-eq0.true room (told bytes has short)) c.finish.ensures.refused

pub loop-turn-preserved : goal.loop-turn-preserved
loop-turn-preserved g c =
    let left = g.R.Read.remaining in
    let room : length c.read.new.buf ≡ 8192 = grind arith in
    let (bytes, has, before, few) = c.loop-turn.invariant in (
      bytes ++ take c.in-Ok.count c.read.new.buf,
      c.in_ok-push_bytes.ensures bytes has,
      Consumes-trans (left c.args.reader.now) (left c.loop-turn.reader) (left c.read.new.self) bytes
          (take c.in-Ok.count c.read.new.buf) before c.in-Ok.ensures.bytes.0,
      block_read bytes c.read.new.buf c.in-Ok.count c.loop-turn.turn few room,
    )

pub returns-then-count-eq0-clause-fits : goal.returns-then-count-eq0-clause-fits
returns-then-count-eq0-clause-fits g c =
    let (bytes, has, before, few) = c.loop-turn.invariant in
    if_ok c.finish.result _ _ (λ groups told. told bytes has) c.finish.ensures.fits
