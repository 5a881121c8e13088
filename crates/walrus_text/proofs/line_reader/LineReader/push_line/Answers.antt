use Rattle.std.proofs.Common.{◌++◌, ◌∷◌, [], subst, append_assoc}
use Rattle.walrus_text.specs.Steps.Bytes.{HasReadBytes}
use Rattle.walrus_text.proofs.line_reader.LineReader.push_line.Goals as goal

pub returns : goal.returns
returns c = λ bytes h.
    subst (HasReadBytes c.end_line.new.self) (append_assoc bytes c.args.part.now (10 ∷ []))
    (c.in_ok-end_line.ensures.read (bytes ++ c.args.part.now) (c.in_ok-push_part.ensures bytes h))
