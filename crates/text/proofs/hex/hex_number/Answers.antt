use Rattle.std.proofs.Common.{◌∙◌, sym, arith}
use Rattle.text.proofs.HexReading.{reading_none, reading_more, next_fits, no_digit, all_read}
use Rattle.text.proofs.hex.hex_number.Goals as goal

pub loop-byte-init : goal.loop-byte-init
loop-byte-init c = reading_none _

pub loop-byte-preserved : goal.loop-byte-preserved
loop-byte-preserved c = reading_more _ _ _ c.loop-byte.invariant c.from.result c.loop-byte-test.true (rw (← c.from.ensures) at (sym c.in_ok-digit.ensures.value))

pub returns-in_err-digit-clause-value : goal.returns-in_err-digit-clause-value
returns-in_err-digit-clause-value c = c.from_residual.ensures ∙ no_digit _ _ _ c.loop-byte.invariant c.loop-byte-test.true (sym c.in_err-digit.ensures.value)

pub returns-clause-value : goal.returns-clause-value
returns-clause-value c = all_read _ _ _ c.loop-byte.invariant c.loop-byte-test.false

pub overflow_add-number : goal.overflow_add-number
overflow_add-number c = omega (arith, next_fits _ _ _ c.loop-byte.invariant _ c.loop-byte-test.true (sym c.in_ok-digit.ensures.value) c.requires)
