use Rattle.std.proofs.Common.{take}
use Rattle.std.specs.Fmt.{HasWritten, IsPlainFormatter}
use Rattle.walrus_ty.specs.Text.{vals_text}
use Rattle.walrus_ty.proofs.ty.display.write_part.Given as goal

abbrev pub invariant-loop-value : goal.invariant-loop-value
invariant-loop-value g l = IsPlainFormatter l.initial.f →
    HasWritten g.W.Write.write_str_gives l.initial.f (vals_text (take l.value-index l.values)) l.f
