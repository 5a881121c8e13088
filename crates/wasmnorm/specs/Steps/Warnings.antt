-- Which warning a module needs, and what a writer gains for it.
use Rattle.std.specs.Prelude.{ℕ, List, Option, None, Some}
use Rattle.std.specs.Borrow.{Bor}
use Rattle.std.specs.Io.KnownBytes.{Keeps}
use Rattle.error_context.specs.Contexts.{IsContext}
use Rattle.error_context.specs.declared.context.Context.{Context}
use Rattle.wasm_normalise.specs.Hazards.{HasNoHazard, IsHazard}
use Rattle.wasm_normalise.specs.declared.hazards.Hazard.{Hazard}
use Rattle.wasm_normalise.specs.declared.hazards.Hazard.TheVariants as hazard
use Rattle.wasmnorm.specs.declared.warning.Warning.{Warning}
use Rattle.wasmnorm.specs.Runs.{Warns}

-- where a hazard names a section, this is known of it
abbrev pub IsSectionContext : List ℕ → Hazard → Context → Type 0
IsSectionContext bytes (hazard.UnknownSection offset) context = IsContext context bytes offset
IsSectionContext bytes (hazard.UnreadNames offset) context = IsContext context bytes offset

-- what a warning says of the bytes
abbrev pub IsWarning : List (Bor (List ℕ)) → List ℕ → Warning → Type 0
IsWarning allowed bytes w = IsHazard allowed bytes w.hazard × IsSectionContext bytes w.hazard w.context

-- the first warning of the bytes, or none
abbrev pub IsFirstWarning : List (Bor (List ℕ)) → List ℕ → Option Warning → Type 0
IsFirstWarning allowed bytes None = HasNoHazard allowed bytes
IsFirstWarning allowed bytes (Some w) = IsWarning allowed bytes w

-- a writer gained the line of a warning, or nothing where there is none
abbrev pub WarnsOf : Option Warning → Option (List ℕ) → Option (List ℕ) → Type 0
WarnsOf None old new = Keeps old new
WarnsOf (Some w) old new = Warns old new
