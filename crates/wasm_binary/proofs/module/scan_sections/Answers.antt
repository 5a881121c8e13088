use Rattle.std.proofs.Common.{refl}
use Rattle.std.proofs.lemmas.Result.{err_from_is_err_and}
use Rattle.wasm_binary.proofs.Modules.Framing.{begun, passes, meets, shorter, all_found, some_if, none_if}
use Rattle.wasm_binary.proofs.Modules.Faulting.{header_faulty, section_faulty}
use Rattle.wasm_binary.proofs.module.scan_sections.Goals.{then-id-eq-TYPE, else-id-eq-TYPE}
use Rattle.wasm_binary.proofs.module.scan_sections.Goals as goal

pub returns-in_err-rest : goal.returns-in_err-rest
returns-in_err-rest c =
    let p = err_from_is_err_and c.from_residual.result c.from_residual.ensures.1 in
    let f = header_faulty c.args.bytes.now c.in_err-rest.field-0.0 c.in_err-rest.ensures in
    rw (p.1, p.2) (record {
      found = tt;
      none = tt;
      refused = f.refused;
      place = f.place;
      stuck = f.stuck;
      begun = f.begun;
    })

pub loop-rest-init : goal.loop-rest-init
loop-rest-init c = begun _ _ c.args.bytes.now c.in_ok-rest.rest.now c.in_ok-rest.ensures

pub returns-in_err-id : goal.returns-in_err-id
returns-in_err-id c =
    let p = err_from_is_err_and c.from_residual-in_err-id.result c.from_residual-in_err-id.ensures.1 in
    let f = section_faulty c.args.bytes.now c.loop-rest.rest.now c.loop-rest.last c.in_err-id.field-0.0
    c.loop-rest.invariant.passed c.loop-rest-test.ensures c.in_err-id.ensures in
    rw (p.1, p.2) (record {
      found = tt;
      none = tt;
      refused = f.refused;
      place = f.place;
      stuck = f.stuck;
      begun = f.begun;
    })

pub overflow_sub-end : goal.overflow_sub-end
overflow_sub-end c =
    (shorter c.args.bytes.now c.loop-rest.rest.now c.in_ok-id.after.now c.in_ok-id.content.now
    c.loop-rest.last c.in_ok-id.id c.loop-rest.invariant.passed c.in_ok-id.ensures).end

pub overflow_sub-found : goal.overflow_sub-found
overflow_sub-found c =
    (shorter c.args.bytes.now c.loop-rest.rest.now c.in_ok-id.after.now c.in_ok-id.content.now
    c.loop-rest.last c.in_ok-id.id c.loop-rest.invariant.passed c.in_ok-id.ensures).start

pub loop-rest-smaller : goal.loop-rest-smaller
loop-rest-smaller c =
    (shorter c.args.bytes.now c.loop-rest.rest.now c.in_ok-id.after.now c.in_ok-id.content.now
    c.loop-rest.last c.in_ok-id.id c.loop-rest.invariant.passed c.in_ok-id.ensures).smaller

pub loop-rest-preserved : goal.loop-rest-preserved
loop-rest-preserved c =
    elim c.if-id-eq-TYPE.branch [
      | then-id-eq-TYPE w ↦
          rw (c.place_after-last.ensures, w.found-is)
          (meets _ _ c.args.bytes.now c.loop-rest.rest.now c.in_ok-id.after.now c.in_ok-id.content.now
          c.loop-rest.last c.in_ok-id.id c.loop-rest.found _ c.loop-rest.invariant c.in_ok-id.ensures
          w.if-id-eq-TYPE.true refl refl)
      | else-id-eq-TYPE w ↦
          rw (c.place_after-last.ensures, w.found-is)
          (passes _ _ c.args.bytes.now c.loop-rest.rest.now c.in_ok-id.after.now c.in_ok-id.content.now
          c.loop-rest.last c.in_ok-id.id c.loop-rest.found c.loop-rest.invariant c.in_ok-id.ensures
          w.if-id-eq-TYPE.false)
    ]

pub returns-clause-found : goal.returns-clause-found
returns-clause-found c =
    some_if c.loop-rest.found _ _ (all_found _ _ c.args.bytes.now c.loop-rest.rest.now c.loop-rest.last
    c.loop-rest.found c.loop-rest.invariant c.loop-rest-test.ensures)

pub returns-clause-none : goal.returns-clause-none
returns-clause-none c =
    none_if c.loop-rest.found _ _ (all_found _ _ c.args.bytes.now c.loop-rest.rest.now c.loop-rest.last
    c.loop-rest.found c.loop-rest.invariant c.loop-rest-test.ensures)
