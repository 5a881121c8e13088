use Rattle.wasm_binary.specs.Modules.{section}
use Rattle.wasm_module.proofs.Descriptions.{section_left_out, section_kept}
use Rattle.wasm_module.proofs.customs.copy_other.Goals as goal

pub returns-in-Some : goal.returns-in-Some
returns-in-Some c =
    section_left_out c.args.text.now c.args.out.now.items
    (section c.args.section.id c.args.section.content.now) c.requires
    (record { kind = c.in-Some.field-0; describes = c.in-Some.ensures.found })

pub returns-in_ok-extend_from_slice-in-None : goal.returns-in_ok-extend_from_slice-in-None
returns-in_ok-extend_from_slice-in-None c =
    section_kept c.args.text.now c.args.out.now.items c.extend_from_slice.new.self.items
    (section c.args.section.id c.args.section.content.now) c.requires
    (λ d. c.in-None.ensures.none d.kind d.describes) c.in_ok-extend_from_slice-in-None.ensures.items
