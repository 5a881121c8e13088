use Rattle.std.proofs.Common.{◌≡◌, not, true, false, Err, ap, subst}
use Rattle.std.specs.Str.{bytes_eq}
use Rattle.wasm_module.specs.NameSections.{name_bytes}
use Rattle.wasm_module.proofs.NameSections.{same_bytes, other_bytes, as_name, custom_nameless, custom_other, custom_unread}
use Rattle.wasm_module.proofs.name_section.rename_custom.Goals as goal

pub returns-in_default-clause-malformed : goal.returns-in_default-clause-malformed
returns-in_default-clause-malformed c = λ place e. custom_nameless c.args.content.now c.in_default.ensures.none

pub returns-then-ne-clause-stays : goal.returns-then-ne-clause-stays
returns-then-ne-clause-stays c =
    custom_other c.args.new_indices.now c.args.widths c.args.content.now c.in-Some.name.now
    c.take_sized.new.input.now c.in-Some.ensures.taken (other_bytes c.in-Some.name.now name_bytes
    (subst (λ u. true ≡ not (bytes_eq c.in-Some.name.now u)) c.as_slice.ensures c.if-ne.ensures))

pub rename_subsections-requires : goal.rename_subsections-requires
rename_subsections-requires c =
    as_name c.in-Some.name.now c.args.content.now c.take_sized.new.input.now c.in-Some.ensures.taken
    (same_bytes c.in-Some.name.now name_bytes
    (subst (λ u. false ≡ not (bytes_eq c.in-Some.name.now u)) c.as_slice.ensures c.if-ne.ensures))

pub returns-in-Err-Unread-clause-stays : goal.returns-in-Err-Unread-clause-stays
returns-in-Err-Unread-clause-stays c =
    custom_unread c.args.new_indices.now c.args.widths c.args.content.now c.take_sized.new.input.now
    (as_name c.in-Some.name.now c.args.content.now c.take_sized.new.input.now c.in-Some.ensures.taken
    (same_bytes c.in-Some.name.now name_bytes
    (subst (λ u. false ≡ not (bytes_eq c.in-Some.name.now u)) c.as_slice.ensures c.if-ne.ensures)))
    (c.in-Err-Unread.ensures.unread (ap (λ x. Err x) c.in-Err-Unread.field-0-is))
