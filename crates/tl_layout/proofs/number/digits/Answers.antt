-- There are fewer than nineteen digits before a digit, so it fits with them.
use Rattle.tl_layout.proofs.Common.{arith}
use Rattle.tl_layout.proofs.NumberLemmas.{digit_fits}
use Rattle.tl_layout.proofs.number.digits.Goals as goal

pub overflow_mul-value : goal.overflow_mul-value
overflow_mul-value c =
    let fits = digit_fits c.loop-i.value 0 c.loop-i.i c.loop-i.invariant.fits (omega arith) (omega arith) in omega arith

pub overflow_add-value : goal.overflow_add-value
overflow_add-value c =
    let fits = digit_fits c.loop-i.value c.from.result c.loop-i.i c.loop-i.invariant.fits (omega arith) (omega arith) in
    omega arith
