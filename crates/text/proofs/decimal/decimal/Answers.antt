use Rattle.std.proofs.Common.{◌∙◌, sym, arith, true-eqb, false-eqb}
use Rattle.text.proofs.DecimalReading.{nothing_read, reading_more, no_digit, outgrown, all_read}
use Rattle.text.proofs.decimal.decimal.Goals as goal

pub returns-then-is_empty : goal.returns-then-is_empty
returns-then-is_empty c = record { value = nothing_read _ (true-eqb _ 0 c.if-is_empty.ensures) }

pub returns-in_err-digit : goal.returns-in_err-digit
returns-in_err-digit c = record { value = c.from_residual.ensures ∙ no_digit _ _ _ c.loop-byte.invariant c.loop-byte-test.true (sym c.in_err-digit.ensures.value) }

pub returns-in_err-checked_mul : goal.returns-in_err-checked_mul
returns-in_err-checked_mul c = record { value = c.from_residual-in_err-checked_mul.ensures ∙ outgrown _ _ _ c.loop-byte.invariant _ c.loop-byte-test.true (sym c.in_ok-digit.ensures.value) (omega (arith, c.in_err-checked_mul.ensures)) }

pub returns-in_err-number : goal.returns-in_err-number
returns-in_err-number c = record { value = c.from_residual-in_err-number.ensures ∙ outgrown _ _ _ c.loop-byte.invariant _ c.loop-byte-test.true (sym c.in_ok-digit.ensures.value) (omega (arith, c.in_err-number.ensures, c.in_ok-checked_mul.ensures)) }

pub loop-byte-preserved : goal.loop-byte-preserved
loop-byte-preserved c = reading_more _ _ _ c.loop-byte.invariant c.in_ok-digit.digit _ c.loop-byte-test.true (sym c.in_ok-digit.ensures.value) (omega (arith, c.in_ok-number.ensures, c.in_ok-checked_mul.ensures)) (omega (arith, c.in_ok-number.ensures))

pub returns : goal.returns
returns c = record { value = all_read _ _ _ c.loop-byte.invariant (omega (arith, false-eqb _ 0 c.if-is_empty.ensures)) c.loop-byte-test.false }
