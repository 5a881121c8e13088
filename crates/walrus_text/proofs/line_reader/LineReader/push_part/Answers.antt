use Rattle.std.proofs.Common.{refl}
use Rattle.walrus_text.proofs.Gathering.Bytes.{part_read}
use Rattle.walrus_text.proofs.line_reader.LineReader.push_part.Goals as goal

pub returns : goal.returns
returns c = λ bytes h. part_read c.args.self.now _ c.args.part.now bytes c.requires
    c.in_ok-extend_from_slice.ensures.items refl refl refl h
