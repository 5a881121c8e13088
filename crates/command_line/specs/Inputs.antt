-- Whether what a program reads is standard input.
use Rattle.std.specs.Prelude.{ℕ, List, codes}
use Rattle.command_line.specs.declared.input.Input.{Input}
use Rattle.command_line.specs.declared.input.Input.TheVariants as input

-- the name of standard input
abbrev pub standard_name : List ℕ
standard_name = codes "-"

abbrev pub IsStandard : Input → Type 0
IsStandard (input.Standard stdin) = Unit {0}
IsStandard (input.File file) = ⊥
