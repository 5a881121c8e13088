-- The error that an error of a step becomes.
use Rattle.wasm_binary.specs.declared.error.DecodeError.{DecodeError}
use Rattle.wasm_binary.specs.declared.error.DecodeError.TheVariants as decode
use Rattle.wasm_binary.specs.declared.error.EncodeError.{EncodeError}
use Rattle.wasm_binary.specs.declared.error.EncodeError.TheVariants as encode
use Rattle.wasm_module.specs.declared.renaming.RenameError.{RenameError}
use Rattle.wasm_module.specs.declared.renaming.RenameError.TheVariants as rename
use Rattle.walrus_sections.specs.declared.error.ReadError.{ReadError}
use Rattle.walrus_sections.specs.declared.error.ReadError.TheVariants as read
use Rattle.wasm_module.specs.declared.scan.ScanError.{ScanError}
use Rattle.wasm_module.specs.declared.scan.ScanError.TheVariants as scan
use Rattle.walrus_canonical.specs.declared.error.CanonicalError.{CanonicalError}
use Rattle.walrus_canonical.specs.declared.error.CanonicalError.TheVariants as canonical
use Rattle.wasm_normalise.specs.declared.error.NormaliseModuleError.{NormaliseModuleError}
use Rattle.wasm_normalise.specs.declared.error.NormaliseModuleError.TheVariants as error
use Rattle.wasm_normalise.specs.declared.refusal.Refusal.{Refusal}
use Rattle.wasm_normalise.specs.declared.refusal.Refusal.TheVariants as refusal

abbrev pub types_failure : DecodeError → NormaliseModuleError
types_failure (decode.Malformed offset expected) = error.Types (decode.Malformed offset expected)
types_failure (decode.NotHeld offset what) = error.Types (decode.NotHeld offset what)
types_failure decode.Memory = error.Memory

abbrev pub read_failure : ReadError → NormaliseModuleError
read_failure (read.BadIndex entry index end) = error.BadIndex entry index end
read_failure read.TooMany = error.TooMany
read_failure read.Memory = error.Memory

abbrev pub encode_failure : EncodeError → NormaliseModuleError
encode_failure encode.TooMany = error.TooLong
encode_failure encode.Memory = error.Memory

-- ---- where the place of a fault is not known

abbrev pub types_refusal : DecodeError → Refusal
types_refusal e = refusal.Other (types_failure e)

abbrev pub encode_refusal : EncodeError → Refusal
encode_refusal e = refusal.Other (encode_failure e)

abbrev pub canonical_refusal : CanonicalError → Refusal
canonical_refusal (canonical.Section e) = refusal.Other (read_failure e)
canonical_refusal (canonical.UnknownRoot index) = refusal.Fault
canonical_refusal canonical.Memory = refusal.Other error.Memory

abbrev pub scan_refusal : ScanError → Refusal
scan_refusal (scan.Malformed place) = refusal.Fault
scan_refusal scan.Memory = refusal.Other error.Memory

abbrev pub rename_refusal : RenameError → Refusal
rename_refusal (rename.Malformed place) = refusal.Fault
rename_refusal (rename.UnknownType index place) = refusal.Fault
rename_refusal rename.TooLong = refusal.Other error.TooLong
rename_refusal rename.Memory = refusal.Other error.Memory
