-- Custom sections `name` that can't be read, and modules without these.
-- WebAssembly core specification, "Name Section".
use Rattle.std.specs.Prelude.{◌≡◌, ℕ, List}
use Rattle.wasm_binary.specs.Modules.{Section}
use Rattle.wasm_module.specs.Customs.{HasName, HasNone, HasFirstAt}
use Rattle.wasm_module.specs.NameSections.{AreSubsections, name_bytes}

-- a section `name` that can't be read, in a module of this many types
pub record AreUnread (count : ℕ) (s : Section) : Type 0 where
  pub is_custom : s.id ≡ 0
  pub has_name : HasName name_bytes s.content
  pub unread : ¬ (AreSubsections count has_name.follows)

-- the names of the module can be read
abbrev pub HasNoUnreadNames : ℕ → List ℕ → Type 0
HasNoUnreadNames count = HasNone (AreUnread count)

-- the first section `name` that can't be read begins at this place of the module
abbrev pub HasUnreadNamesAt : ℕ → List ℕ → ℕ → Type 0
HasUnreadNamesAt count = HasFirstAt (AreUnread count)
