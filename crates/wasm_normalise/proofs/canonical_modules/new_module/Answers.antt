use Rattle.wasm_normalise.specs.CanonicalModules.{malformed, unknown, no_text, renamed}
use Rattle.wasm_normalise.proofs.Errors.{encode_refused, rename_refused}
use Rattle.wasm_normalise.proofs.CanonicalForms.{lent_form, has_canonical_types, all_left, stripped_left, is_canonical_module, becomes_outdated}
use Rattle.wasm_normalise.proofs.canonical_modules.new_module.Goals as goal

pub returns-in_err-types-clause-refused : goal.returns-in_err-types-clause-refused
returns-in_err-types-clause-refused c =
    let form = lent_form c.args.options.unused c.args.bytes.now c.in_ok-canonical.canonical.items
    c.as_slice.result.now c.in_ok-canonical.new_indices.items c.in_ok-canonical.ensures.canonical
    c.as_slice.ensures.value in
    encode_refused c.args.options c.args.bytes.now c.from_residual-in_err-types.result
    c.in_err-types.field-0.0
    c.from_residual-in_err-types.ensures.1 (λ is. no_text c.as_slice.result.now
    c.in_ok-canonical.new_indices.items form (c.in_err-types.ensures.too_many is))

pub returns-in_err-new-in-Kept-clause-refused : goal.returns-in_err-new-in-Kept-clause-refused
returns-in_err-new-in-Kept-clause-refused c =
    let form = lent_form c.args.options.unused c.args.bytes.now c.in_ok-canonical.canonical.items
    c.as_slice.result.now c.in_ok-canonical.new_indices.items c.in_ok-canonical.ensures.canonical
    c.as_slice.ensures.value in
    let types = has_canonical_types c.args.options.unused c.args.bytes.now c.as_slice.result.now
    c.in_ok-canonical.new_indices.items c.deref-in-Kept.result.now
    c.in_ok-types.types.items c.deref.result.now form
    c.deref-in-Kept.ensures.value c.in_ok-types.ensures.text c.in_ok-types.ensures.shortest
    c.deref.ensures.value in
    let all = all_left c.args.options.descriptions c.args.bytes.now c.in-Kept.is in
    rename_refused c.args.options c.args.bytes.now c.from_residual-in_err-new-in-Kept.result
    c.in_err-new-in-Kept.field-0.0 c.from_residual-in_err-new-in-Kept.ensures.1
    (λ place is. malformed c.args.bytes.now all (c.in_err-new-in-Kept.ensures.malformed place is))
    (λ k place is. unknown c.deref.result.now c.args.bytes.now c.deref-in-Kept.result.now k types all
    (c.in_err-new-in-Kept.ensures.unknown k place is))
    (λ is. renamed c.deref.result.now c.args.bytes.now c.deref-in-Kept.result.now types all
    (c.in_err-new-in-Kept.ensures.too_long is))

pub returns-in_err-stripped-in-Stripped-clause-refused :
    goal.returns-in_err-stripped-in-Stripped-clause-refused
returns-in_err-stripped-in-Stripped-clause-refused c =
    let form = lent_form c.args.options.unused c.args.bytes.now c.in_ok-canonical.canonical.items
    c.as_slice.result.now c.in_ok-canonical.new_indices.items c.in_ok-canonical.ensures.canonical
    c.as_slice.ensures.value in
    let types = has_canonical_types c.args.options.unused c.args.bytes.now c.as_slice.result.now
    c.in_ok-canonical.new_indices.items c.deref-in-Stripped-3.result.now
    c.in_ok-types.types.items c.deref-in-Stripped-2.result.now form
    c.deref-in-Stripped-3.ensures.value c.in_ok-types.ensures.text c.in_ok-types.ensures.shortest
    c.deref-in-Stripped-2.ensures.value in
    let left = stripped_left c.args.options.descriptions c.args.bytes.now c.in-Ok.left.items
    c.deref-in-Stripped.result.now c.in-Stripped.is c.in-Ok.ensures.stripped
    c.deref-in-Stripped.ensures.value in
    rename_refused c.args.options c.args.bytes.now c.from_residual-in_err-stripped-in-Stripped.result
    c.in_err-stripped-in-Stripped.field-0.0 c.from_residual-in_err-stripped-in-Stripped.ensures.1
    (λ place is. malformed c.deref-in-Stripped.result.now left
    (c.in_err-stripped-in-Stripped.ensures.malformed place is))
    (λ k place is. unknown c.deref-in-Stripped-2.result.now c.deref-in-Stripped.result.now
    c.deref-in-Stripped-3.result.now k types left (c.in_err-stripped-in-Stripped.ensures.unknown k place is))
    (λ is. renamed c.deref-in-Stripped-2.result.now c.deref-in-Stripped.result.now
    c.deref-in-Stripped-3.result.now types left (c.in_err-stripped-in-Stripped.ensures.too_long is))

pub returns-clause-canonical : goal.returns-clause-canonical
returns-clause-canonical c =
    let form = lent_form c.args.options.unused c.args.bytes.now c.in_ok-canonical.canonical.items
    c.as_slice.result.now c.in_ok-canonical.new_indices.items c.in_ok-canonical.ensures.canonical
    c.as_slice.ensures.value in
    let types = has_canonical_types c.args.options.unused c.args.bytes.now c.as_slice.result.now
    c.in_ok-canonical.new_indices.items c.deref-in-Stripped-3.result.now c.in_ok-types.types.items
    c.deref-in-Stripped-2.result.now form c.deref-in-Stripped-3.ensures.value c.in_ok-types.ensures.text
    c.in_ok-types.ensures.shortest c.deref-in-Stripped-2.ensures.value in
    let left = stripped_left c.args.options.descriptions c.args.bytes.now c.in-Ok.left.items
    c.deref-in-Stripped.result.now c.in-Stripped.is c.in-Ok.ensures.stripped
    c.deref-in-Stripped.ensures.value in
    is_canonical_module c.args.options c.args.bytes.now c.deref-in-Stripped-2.result.now
    c.deref-in-Stripped-3.result.now c.deref-in-Stripped.result.now
    c.in_ok-stripped-in-Stripped.stripped.items types left c.in_ok-stripped-in-Stripped.ensures.renamed

pub returns-in-Kept-clause-canonical : goal.returns-in-Kept-clause-canonical
returns-in-Kept-clause-canonical c =
    let form = lent_form c.args.options.unused c.args.bytes.now c.in_ok-canonical.canonical.items
    c.as_slice.result.now c.in_ok-canonical.new_indices.items c.in_ok-canonical.ensures.canonical
    c.as_slice.ensures.value in
    let types = has_canonical_types c.args.options.unused c.args.bytes.now c.as_slice.result.now
    c.in_ok-canonical.new_indices.items c.deref-in-Kept.result.now c.in_ok-types.types.items
    c.deref.result.now form c.deref-in-Kept.ensures.value c.in_ok-types.ensures.text
    c.in_ok-types.ensures.shortest c.deref.ensures.value in
    is_canonical_module c.args.options c.args.bytes.now c.deref.result.now c.deref-in-Kept.result.now
    c.args.bytes.now c.in_ok-new-in-Kept.new.items types
    (all_left c.args.options.descriptions c.args.bytes.now c.in-Kept.is)
    c.in_ok-new-in-Kept.ensures.renamed

pub returns-in-Some-clause-refused : goal.returns-in-Some-clause-refused
returns-in-Some-clause-refused c =
    let form = lent_form c.args.options.unused c.args.bytes.now c.in_ok-canonical.canonical.items
    c.as_slice.result.now c.in_ok-canonical.new_indices.items c.in_ok-canonical.ensures.canonical
    c.as_slice.ensures.value in
    let types = has_canonical_types c.args.options.unused c.args.bytes.now c.as_slice.result.now
    c.in_ok-canonical.new_indices.items c.deref-in-Kept.result.now c.in_ok-types.types.items
    c.deref.result.now form c.deref-in-Kept.ensures.value c.in_ok-types.ensures.text
    c.in_ok-types.ensures.shortest c.deref.ensures.value in
    let made = is_canonical_module c.args.options c.args.bytes.now c.deref.result.now c.deref-in-Kept.result.now
    c.args.bytes.now c.in_ok-new-in-Kept.new.items types
    (all_left c.args.options.descriptions c.args.bytes.now c.in-Kept.is)
    c.in_ok-new-in-Kept.ensures.renamed in
    becomes_outdated c.args.options c.args.bytes.now c.in_ok-new-in-Kept.new.items
    c.as_slice-in-Kept.result.now c.in-Some.offset made c.in-Kept.is c.as_slice-in-Kept.ensures.value
    (rw c.in-Some.is at c.in_ok-offset-in-Kept.ensures.differs)
    (rw c.in-Some.is at c.in_ok-offset-in-Kept.ensures.found)
