-- The name of a custom section as messages show it: its length, and its first bytes.
use Rattle.std.specs.Prelude.{◌≡◌, ℕ, min, List, length, take}
use Rattle.error_context.specs.declared.shown_name.ShownName.{ShownName}

-- how many bytes of a name are shown at most
abbrev pub most_shown : ℕ
most_shown = 64

pub record IsShown (shown : ShownName) (name : List ℕ) : Type 0 where
  pub whole : shown.length ≡ length name
  pub front : take (min most_shown shown.length) shown.bytes ≡ take most_shown name
