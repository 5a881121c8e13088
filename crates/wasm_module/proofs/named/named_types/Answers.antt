use Rattle.std.proofs.Common.{rules}
use Rattle.std.proofs.lemmas.Result.{err_from_is_err_and}
use Rattle.wasm_module.specs.Sections.{placed}
use Rattle.wasm_module.proofs.NamedTypes.{named_on, module_names, module_malformed}
use Rattle.wasm_module.proofs.named.named_types.Goals as goal

pub returns-in_err-types-clause-refused : goal.returns-in_err-types-clause-refused
returns-in_err-types-clause-refused c =
    let p = err_from_is_err_and c.from_residual.result c.from_residual.ensures.1 in
    let s = c.in-Some.section in
    rw (p.1, p.2) (module_malformed c.args.bytes.now c.in-Ok.found c.loop-section.left c.next.new.self
    (placed s.offset s.content_offset s.id s.content.now) c.loop-section.named.items
    c.in_err-types.field-0.0 c.in-Ok.ensures.module c.loop-section.invariant.2 c.in-Some.ensures.steps
    c.in_err-types.ensures.refused)

pub loop-section-preserved : goal.loop-section-preserved
loop-section-preserved c =
    let s = c.in-Some.section in (
      tt,
      tt,
      named_on c.in-Ok.found c.loop-section.left c.next.new.self
          (placed s.offset s.content_offset s.id s.content.now) c.loop-section.named.items
          c.in_ok-types.types.items c.extend_from_slice.new.self.items c.loop-section.invariant.2
          c.in-Some.ensures.steps c.in_ok-types.ensures.found
          (search (rules, c.in_ok-extend_from_slice.ensures.items, c.deref.ensures.value)),
    )

pub returns-clause-found : goal.returns-clause-found
returns-clause-found c =
    module_names c.args.bytes.now c.in-Ok.found c.loop-section.left c.loop-section.named.items
    c.in-Ok.ensures.module c.loop-section.invariant.2 c.in_default.ensures.steps.0
