-- `Differ`, `KeepsAnchors` and `OrdersFree`: the laws of the normal form on two indices, as the
-- slow program tries them.
-- Of this crate's own working; it serves the normal form of a type section. WebAssembly core
-- specification, "Modules", types.
use Rattle.std.specs.Prelude.{◌≡◌, ℕ, ◌<◌, ◌↔◌, ◌⊎◌}
use Rattle.std.specs.declared.cmp.Ordering.TheVariants.{Less}
use Rattle.walrus_ty.specs.Definition.{definition_cmp}
use Rattle.walrus_sections.specs.Section.{IndexSpace, IsSingle}
use Rattle.walrus_sections.specs.NormalForm.{IsKept, IsAnchor, AreFree}

-- p and q are not two `Single`s of one definition
abbrev pub Differ : IndexSpace → ℕ → ℕ → Type 0
Differ n p q = IsSingle n p → IsSingle n q → ¬ (n.definition p ≡ n.definition q)

-- where both are kept and one is an anchor, i comes first
abbrev pub KeepsAnchors : IndexSpace → (ℕ → ℕ) → ℕ → ℕ → Type 0
KeepsAnchors s m i j = IsKept m i → IsKept m j → IsAnchor s m i ⊎ IsAnchor s m j → m i < m j

-- where both are kept and nothing from i to j is an anchor, i comes first exactly where it is less
abbrev pub OrdersFree : IndexSpace → (ℕ → ℕ) → ℕ → ℕ → Type 0
OrdersFree s m i j =
    IsKept m i → IsKept m j → AreFree s m i j →
    (m i < m j ↔ definition_cmp (s.definition i) (s.definition j) ≡ Less)
