use Rattle.std.proofs.Common.{arith, sym, ◌∙◌, length}
use Rattle.wasm_module.specs.Sections.{placed}
use Rattle.wasm_module.proofs.Taking.{is_first, none_taken, takes, goes}
use Rattle.wasm_module.proofs.framing.SectionIterIterator.next.Goals as goal

pub overflow_add-self : goal.overflow_add-self
overflow_add-self c =
    let s = c.in-Some.section in
    let f = is_first c.self.inside.offset c.self.inside.rest.now
    (placed s.offset s.content_offset s.id s.content.now) c.in-Some.rest.now c.in-Some.ensures in
    omega (arith, f.sum, c.self.invariant)

pub invariant_of-self : goal.invariant_of-self
invariant_of-self c =
    let s = c.in-Some.section in
    let f = is_first c.self.inside.offset c.self.inside.rest.now
    (placed s.offset s.content_offset s.id s.content.now) c.in-Some.rest.now c.in-Some.ensures in
    omega (arith, f.sum, c.self.invariant)

pub returns-in-Some-clause-steps : goal.returns-in-Some-clause-steps
returns-in-Some-clause-steps c =
    let s = c.in-Some.section in
    sym c.self.view_is ∙ takes c.self.inside.offset c.self.inside.rest.now
    (placed s.offset s.content_offset s.id s.content.now) c.in-Some.rest.now c.in-Some.ensures

pub returns-in-Some-clause-goes : goal.returns-in-Some-clause-goes
returns-in-Some-clause-goes c =
    let s = c.in-Some.section in
    goes _ c.args.self.now _ c.in-Some.section (placed s.offset s.content_offset s.id s.content.now) tt
    (sym c.self.view_is ∙ takes c.self.inside.offset c.self.inside.rest.now
    (placed s.offset s.content_offset s.id s.content.now) c.in-Some.rest.now c.in-Some.ensures)

pub returns-in-None-clause-steps : goal.returns-in-None-clause-steps
returns-in-None-clause-steps c =
    let e = none_taken (length c.self.inside.rest.now) c.self.inside.offset c.self.inside.rest.now
    c.in-None.ensures in
    (sym c.self.view_is ∙ e, sym c.self.view_is ∙ e)
