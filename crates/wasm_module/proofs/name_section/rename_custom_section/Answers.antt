use Rattle.wasm_module.specs.NameSections.{RenamesCustom}
use Rattle.wasm_module.proofs.Changing.{turns}
use Rattle.wasm_module.proofs.name_section.rename_custom_section.Goals as goal

pub returns-clause-renamed : goal.returns-clause-renamed
returns-clause-renamed c =
    turns c.in_ok-new.new (λ x. x.items)
    (RenamesCustom c.args.new_indices.now c.args.widths) c.args.content.now
    c.in_ok-new_or_copy.field-0.items c.in_ok-new.ensures.stays c.in_ok-new.ensures.changes
    c.in_ok-new_or_copy.ensures.new c.in_ok-new_or_copy.ensures.copy
