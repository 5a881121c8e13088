use Rattle.std.proofs.Common.{List, ℕ}
use Rattle.wasm_binary.specs.CustomSections.{BeginsCustom, IsNamed}
use Rattle.wasm_binary.proofs.Modules.CustomNames.{no_section_unsized, no_section_nameless, none_weaker}
use Rattle.wasm_binary.proofs.module.custom.custom_section_name.Goals as goal

pub returns-in_err-content-clause-none : goal.returns-in_err-content-clause-none
returns-in_err-content-clause-none c =
    let none : (name : List ℕ) → BeginsCustom name c.args.bytes.now → ⊥ =
    no_section_unsized c.args.bytes.now c.in_ok-behind.behind.now c.in_ok-behind.ensures.found
    c.in_err-content.ensures.none in
    rw c.from_residual-in_err-content.ensures none

pub returns-clause-none : goal.returns-clause-none
returns-clause-none c =
    none_weaker c.name_in.result ((name : List ℕ) → IsNamed name c.in_ok-content.content.now → ⊥)
    ((name : List ℕ) → BeginsCustom name c.args.bytes.now → ⊥)
    (no_section_nameless c.args.bytes.now c.in_ok-behind.behind.now c.in_ok-content.content.now
    c.in_ok-behind.ensures.found c.in_ok-content.ensures.found) c.name_in.ensures.none
