use Rattle.std.proofs.Common.{◌∙◌, ℕ, subst, sym, ◌⊎◌, arith, drop, inl, inr}
use Rattle.std.specs.Prelude.{IfSome, IfNone}
use Rattle.wasm_binary.specs.Sections.{IsSizeAt, HasNoHeaderBy, EndsBy}
use Rattle.wasm_binary.proofs.Modules.Around.{passed_module, all_passed, left_passed, left_behind_id, first_there}
use Rattle.wasm_binary.proofs.Modules.NoFurther.{no_further, no_header_by}
use Rattle.wasm_binary.proofs.module.around.section_around.Goals as goal

pub returns-in_err-rest-clause-none : goal.returns-in_err-rest-clause-none
returns-in_err-rest-clause-none c =
    let none : HasNoHeaderBy c.args.place c.args.bytes.now ⊎ EndsBy c.args.place c.args.bytes.now =
    inl (no_header_by c.args.bytes.now c.args.place c.in_err-rest.ensures.none) in
    rw c.from_residual.ensures none

pub returns-in_default-clause-none : goal.returns-in_default-clause-none
returns-in_default-clause-none c =
    let p = c.in_ok-rest.ensures.passed in
    let m = all_passed c.args.bytes.now c.in_ok-rest.rest.now p.0 p.1
    (omega (arith, c.in_default.len_below)) in
    inr (m.0, m.1, omega (arith, c.in_default.len_below, c.in_ok-rest.ensures.place))

pub returns-clause-before : goal.returns-clause-before
returns-clause-before c =
    let p = c.in_ok-rest.ensures.passed in
    passed_module c.args.bytes.now c.in_ok-rest.rest.now p.0 p.1

pub returns-clause-last : goal.returns-clause-last
returns-clause-last c =
    let p = c.in_ok-rest.ensures.passed in
    no_further c.args.bytes.now c.in_ok-rest.rest.now p.0 c.args.place p.1 c.in-len1-up.len_at_least p.2

pub returns-clause-id : goal.returns-clause-id
returns-clause-id c =
    let p = c.in_ok-rest.ensures.passed in (
      drop 1 c.in_ok-rest.rest.now,
      left_passed c.args.bytes.now c.in_ok-rest.rest.now p.0 p.1
          ∙ first_there c.in_ok-rest.rest.now c.in-len1-up.len_at_least,
    )

pub returns-clause-size : goal.returns-clause-size
returns-clause-size c =
    let p = c.in_ok-rest.ensures.passed in
    subst (λ u. IfSome c.size_at.result (λ size. IsSizeAt size u))
    (sym (left_behind_id c.args.bytes.now c.in_ok-rest.rest.now p.0 p.1)) c.size_at.ensures.size

pub returns-clause-no_size : goal.returns-clause-no_size
returns-clause-no_size c =
    let p = c.in_ok-rest.ensures.passed in
    subst (λ u. IfNone c.size_at.result ((size : ℕ) → IsSizeAt size u → ⊥))
    (sym (left_behind_id c.args.bytes.now c.in_ok-rest.rest.now p.0 p.1)) c.size_at.ensures.none
