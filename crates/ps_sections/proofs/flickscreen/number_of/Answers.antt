use Rattle.std.proofs.Common.{arith}
use Rattle.ps_sections.proofs.FewDigits.{digit-range, still-small}
use Rattle.ps_sections.proofs.flickscreen.number_of.Goals as goal

pub overflow_mul-number : goal.overflow_mul-number
overflow_mul-number c = omega (
  arith,
  still-small c.loop-digit.number c.args.digits.now c.loop-digit.digit-index
      c.requires.digits c.requires.short c.loop-digit.invariant,
)

pub overflow_sub-digit : goal.overflow_sub-digit
overflow_sub-digit c = omega (
  arith,
  digit-range c.args.digits.now c.loop-digit.digit-index c.requires.digits
      c.loop-digit-test.true,
)

pub overflow_add-number : goal.overflow_add-number
overflow_add-number c =
    let small = still-small c.loop-digit.number c.args.digits.now c.loop-digit.digit-index c.requires.digits
    c.requires.short c.loop-digit.invariant in
    let range = digit-range c.args.digits.now c.loop-digit.digit-index c.requires.digits c.loop-digit-test.true in
    omega (arith, range, c.from.ensures)
