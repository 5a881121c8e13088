use Rattle.std.proofs.Common.{◌≡◌, ◌+◌, ◌-◌, ◌%◌, ◌<◌, refl, arith, append-nil, append_assoc, length-set}
use Rattle.std.proofs.lemmas.Fmt.{decimal_digit, decimal_step}
use Rattle.std.proofs.lemmas.List.{drop-set, drop_all}
use Rattle.walrus_text.proofs.Texts.Decimals.{one_digit, more_digits, ten_digits}
use Rattle.walrus_text.proofs.numbers.put_digits.Goals as goal

pub loop-left-init : goal.loop-left-init
loop-left-init c = (
  omega arith,
  omega arith,
  refl,
  rw (drop_all 11 c.args.bytes.now (omega arith), append-nil),
)

pub overflow_sub-at : goal.overflow_sub-at
overflow_sub-at c = omega (
  arith,
  ten_digits c.args.number (omega arith),
  more_digits c.loop-left.left (omega arith) (omega arith),
)

pub loop-left-preserved : goal.loop-left-preserved
loop-left-preserved c =
    let l = c.loop-left in
    let long = ten_digits c.args.number (omega arith) in
    let step = more_digits l.left (omega arith) (omega arith) in
    let e : l.at - 1 + 1 ≡ l.at = omega arith in (
      omega arith,
      omega (arith, length-set l.bytes (l.at - 1) (48 + l.left % 10)),
      omega arith,
      rw (drop-set l.bytes (l.at - 1) _ (omega arith), e)
          (rw (decimal_step l.left (omega arith) (omega arith), append_assoc) at l.invariant.3),
    )

pub overflow_sub-at-2 : goal.overflow_sub-at-2
overflow_sub-at-2 c = omega (arith, ten_digits c.args.number (omega arith))

pub returns-clause-some : goal.returns-clause-some
returns-clause-some c =
    let small : c.loop-left.left < 10 = omega arith in
    omega (arith, ten_digits c.args.number (omega arith), one_digit c.loop-left.left small)

pub returns-clause-value : goal.returns-clause-value
returns-clause-value c =
    let l = c.loop-left in
    let small : l.left < 10 = omega arith in
    let long = ten_digits c.args.number (omega arith) in
    let one = one_digit l.left small in
    let e : l.at - 1 + 1 ≡ l.at = omega arith in
    rw (drop-set l.bytes (l.at - 1) _ (omega arith), e) (rw (decimal_digit l.left small) at l.invariant.3)
