use Rattle.std.proofs.Common.{sym, subst, rules}
use Rattle.std.proofs.lemmas.Result.{err_from_is_err_and}
use Rattle.wasm_binary.specs.Modules.{IsTypeSectionAt, HasNoTypeSection}
use Rattle.wasm_binary.specs.ModuleSections.{HasTypes, in_section, without_section}
use Rattle.wasm_binary.proofs.Modules.BadTypes.{stuck_framing, framing_bad, content_bad, refused_if, place_if, stuck_if, place_fits}
use Rattle.wasm_binary.proofs.module.types.module_types.Goals as goal

pub returns-in_default-clause-found : goal.returns-in_default-clause-found
returns-in_default-clause-found c =
    let none : HasNoTypeSection c.args.bytes.now = rw c.in_default.is at c.in_ok-range.ensures.none in
    subst (HasTypes c.args.bytes.now) (sym c.new.ensures.items) (without_section none)

pub returns-in-Ok-clause-found : goal.returns-in-Ok-clause-found
returns-in-Ok-clause-found c =
    let there : IsTypeSectionAt c.args.bytes.now c.in-Some.range.start c.in-Some.range.end =
    rw c.in-Some.is at c.in_ok-range.ensures.found in
    in_section c.in-Some.range.start c.in-Some.range.end c.in-Ok.groups.items there c.in-Ok.ensures.found

pub returns-in_err-range-clause-stuck : goal.returns-in_err-range-clause-stuck
returns-in_err-range-clause-stuck c =
    let p = err_from_is_err_and c.from_residual.result c.from_residual.ensures.1 in
    rw (p.1, p.2) (stuck_framing c.args.bytes.now c.in_err-range.field-0.0 c.in_err-range.ensures.stuck)

pub returns-in_err-range-clause-reason : goal.returns-in_err-range-clause-reason
returns-in_err-range-clause-reason c =
    let p = err_from_is_err_and c.from_residual.result c.from_residual.ensures.1 in
    rw (p.1, p.2) (framing_bad c.args.bytes.now c.in_err-range.field-0.0 c.in_err-range.ensures.refused
    c.in_err-range.ensures.place c.in_err-range.ensures.stuck c.in_err-range.ensures.begun)

pub shift_offset-requires : goal.shift_offset-requires
shift_offset-requires c =
    let there : IsTypeSectionAt c.args.bytes.now c.in-Some.range.start c.in-Some.range.end =
    rw c.in-Some.is at c.in_ok-range.ensures.found in
    place_fits c.args.bytes.now c.in-Some.range.start c.in-Some.range.end c.in-Err.error there (search rules)
    c.in-Err.ensures.place

pub returns-in-Err-clause-reason : goal.returns-in-Err-clause-reason
returns-in-Err-clause-reason c =
    let there : IsTypeSectionAt c.args.bytes.now c.in-Some.range.start c.in-Some.range.end =
    rw c.in-Some.is at c.in_ok-range.ensures.found in
    let says = c.in-Err.ensures in
    rw c.shift_offset.ensures (content_bad c.args.bytes.now c.in-Some.range.start c.in-Some.range.end
    c.in-Err.error there says.refused says.place says.stuck says.begun says.unsupported)

pub returns-in-Err-clause-refused : goal.returns-in-Err-clause-refused
returns-in-Err-clause-refused c = refused_if c.args.bytes.now _ (returns-in-Err-clause-reason c)

pub returns-in-Err-clause-place : goal.returns-in-Err-clause-place
returns-in-Err-clause-place c =
    let there : IsTypeSectionAt c.args.bytes.now c.in-Some.range.start c.in-Some.range.end =
    rw c.in-Some.is at c.in_ok-range.ensures.found in
    let says = c.in-Err.ensures in
    rw c.shift_offset.ensures (place_if c.args.bytes.now _
    (content_bad c.args.bytes.now c.in-Some.range.start c.in-Some.range.end c.in-Err.error there
    says.refused says.place says.stuck says.begun says.unsupported))

pub returns-in-Err-clause-stuck : goal.returns-in-Err-clause-stuck
returns-in-Err-clause-stuck c = stuck_if c.args.bytes.now _ (returns-in-Err-clause-reason c)
