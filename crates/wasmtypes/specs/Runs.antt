-- What a run does: `IsPrinted` where its bytes are a module whose types can be read.
use Rattle.std.specs.Prelude.{ℕ, List, Option}
use Rattle.std.specs.Io.KnownBytes.{Appends}
use Rattle.walrus_ty.specs.declared.records.GroupAt.{GroupAt}
use Rattle.wasm_binary.specs.ModuleSections.{HasTypes}
use Rattle.walrus_text.specs.Words.{text_of}
use Rattle.walrus_text.specs.Text.{section_lines}

-- the bytes are a module, and a writer gained the text of its types
pub record IsPrinted (bytes : List ℕ) (old new : Option (List ℕ)) : Type 0 where
  pub groups : List GroupAt
  pub read : HasTypes bytes groups
  pub written : Appends old new (text_of (section_lines groups))
