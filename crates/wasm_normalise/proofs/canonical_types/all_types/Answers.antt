use Rattle.std.proofs.Common.{refl}
use Rattle.walrus_canonical.specs.Listing.{all_indices}
use Rattle.walrus_ty.specs.Records.{section_of}
use Rattle.wasm_normalise.specs.declared.options.UnusedTypes.TheVariants as kinds
use Rattle.wasm_normalise.proofs.Errors.{types_not_made}
use Rattle.wasm_normalise.proofs.canonical_types.all_types.Goals as goal

pub returns-in_err-canonical-clause-refused : goal.returns-in_err-canonical-clause-refused
returns-in_err-canonical-clause-refused c =
    types_not_made kinds.Kept c.args.bytes.now c.in_ok-groups.groups.items
    (all_indices (section_of c.in_ok-groups.groups.items)) c.from_residual-in_err-canonical.result
    c.in_err-canonical.field-0.0 c.from_residual-in_err-canonical.ensures.1 c.in_ok-groups.ensures.found refl
    c.in_err-canonical.ensures.refused
