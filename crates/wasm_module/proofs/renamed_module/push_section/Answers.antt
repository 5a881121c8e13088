use Rattle.std.proofs.Common.{rules}
use Rattle.std.proofs.lemmas.Result.{IfOk-weaker}
use Rattle.wasm_module.proofs.RenamedSections.{section_pushed}
use Rattle.wasm_module.proofs.renamed_module.push_section.Goals as goal

pub returns-clause-written : goal.returns-clause-written
returns-clause-written c =
    IfOk-weaker c.push_sized.result _ _
    (λ u a. section_pushed c.args.least c.args.id c.args.content.now c.args.out.now.items
    c.extend_from_slice.new.self.items c.push_sized.new.out.items
    (search (rules, c.in_ok-extend_from_slice.ensures.items)) a)
    c.push_sized.ensures.written
