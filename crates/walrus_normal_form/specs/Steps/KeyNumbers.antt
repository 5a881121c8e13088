-- A sort key as one number.
-- Of this crate's own working; it serves the order in which groups are written. WebAssembly core
-- specification, "Types", composite types.
use Rattle.std.specs.Prelude.{ℕ, ◌+◌, ◌*◌, ◌<◌}
use Rattle.walrus_normal_form.specs.SortKeys.{SortKey}

-- a byte for each part, of which the first counts most
abbrev pub number_of : SortKey → ℕ
number_of w = ((((w.0 * 256 + w.1) * 256 + w.2) * 256 + w.3) * 256 + w.4) * 256 + w.5

-- each part but the first is less than 256
abbrev pub AreBytes : SortKey → Type 0
AreBytes w = (w.1 < 256) × (w.2 < 256) × (w.3 < 256) × (w.4 < 256) × (w.5 < 256)
