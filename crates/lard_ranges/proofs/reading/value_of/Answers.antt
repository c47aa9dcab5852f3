-- One digit more: 18 digits fit, and so do fewer.
use Rattle.std.proofs.Common.{arith}
use Rattle.lard_ranges.proofs.Numbers.{one-more}
use Rattle.lard_ranges.proofs.reading.value_of.Goals as goal

pub overflow_mul-value : goal.overflow_mul-value
overflow_mul-value c =
    let m = one-more c.args.digits.now c.loop-digit.digit-index c.requires.few c.requires.digits c.loop-digit-test.true in
    omega (arith, m, c.loop-digit.invariant)

pub overflow_add-value : goal.overflow_add-value
overflow_add-value c =
    let m = one-more c.args.digits.now c.loop-digit.digit-index c.requires.few c.requires.digits c.loop-digit-test.true in
    omega (arith, m, c.loop-digit.invariant, c.from.ensures)

pub loop-digit-preserved : goal.loop-digit-preserved
loop-digit-preserved c =
    let m = one-more c.args.digits.now c.loop-digit.digit-index c.requires.few c.requires.digits c.loop-digit-test.true in
    omega (arith, m, c.loop-digit.invariant, c.from.ensures)
