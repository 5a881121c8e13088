use Rattle.std.proofs.Common.{◌≡◌, ◌++◌, ◌∷◌, [], ◌<◌, length, arith}
use Rattle.walrus_text.proofs.Gathering.Bytes.{all_read, last_feed}
use Rattle.walrus_text.proofs.line_reader.LineReader.end_last_line.Goals as goal
use Rattle.walrus_text.proofs.Basics.{no_items}

pub returns-then-is_empty : goal.returns-then-is_empty
returns-then-is_empty c =
    let none : length c.args.self.now.line.items ≡ 0 = grind arith in
    λ bytes h. all_read c.args.self.now bytes (no_items c.args.self.now.line.items none) h

pub returns : goal.returns
returns c =
    let some : 0 < length c.args.self.now.line.items = grind arith in
    λ bytes h. last_feed c.args.self.now c.end_line.new.self bytes some h
    (all_read c.end_line.new.self (bytes ++ 10 ∷ []) c.in_ok-end_line.ensures.empty
    (c.in_ok-end_line.ensures.read bytes h))
