use Rattle.wasm_module.specs.Bodies.{body}
use Rattle.wasm_module.specs.RenamedSections.{RenamesTexts}
use Rattle.wasm_module.proofs.Changing.{turns}
use Rattle.wasm_module.proofs.renaming.rename_body.Goals as goal

pub returns-clause-renamed : goal.returns-clause-renamed
returns-clause-renamed c =
    let t = turns c.in_ok-new.new (λ x. x.items) (RenamesTexts c.args.new_indices.now c.args.widths body)
    c.args.content.now c.in_ok-new_or_copy.field-0.items c.in_ok-new.ensures.stays
    c.in_ok-new.ensures.changes c.in_ok-new_or_copy.ensures.new c.in_ok-new_or_copy.ensures.copy in
    t.becomes.renames
