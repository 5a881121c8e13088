-- What a program writes to, if the output has this name.
use Rattle.std.specs.Prelude.{◌≡◌, ℕ, List, ◌++◌, ⊤}
use Rattle.command_line.specs.Inputs.{standard_name}
use Rattle.command_line.specs.declared.output.Output.{Output}
use Rattle.command_line.specs.declared.output.Output.TheVariants as output

-- standard output for the name `-`, and otherwise the file of that name, which is not opened yet
abbrev pub IsOutputNamed : List ℕ → List ℕ → Output → Type 0
IsOutputNamed name temporary (output.Standard stdout) = name ≡ standard_name
IsOutputNamed name temporary (output.Unopened names) =
    (names.name.now ≡ name) × (names.temporary.now ≡ temporary) × (¬ (name ≡ standard_name))
IsOutputNamed name temporary (output.File file) = ⊥

-- no file was opened
abbrev pub HasNoFile : Output → Type 0
HasNoFile (output.Standard stdout) = ⊤
HasNoFile (output.Unopened names) = ⊤
HasNoFile (output.File file) = ⊥

-- the name with more behind it
abbrev pub BeginsWith : List ℕ → List ℕ → Type 0
BeginsWith name longer = (rest : List ℕ) × (longer ≡ name ++ rest)
