-- The seven steps of a multiplication, as the value that they give. Assumes nothing.
use Rattle.std.specs.Prelude.{ℕ, zero, suc, List, ℤ, pos, negsuc}
use Rattle.groups.specs.Groups.{Group, added, doubled, negated}
use Rattle.inputs.specs.declared.sign.Sign.{Sign}
use Rattle.inputs.specs.declared.sign.Sign.TheVariants.{Plus, Minus}
use Rattle.inputs.specs.Signs.{signed}
use Rattle.recoding.specs.declared.digit.Digit.{Digit}
use Rattle.steps.specs.Corrections.{correction_windows}
use Rattle.steps.specs.Operations.{doublings, additions, chosen, climbed, gathered}

module _ {E : Type 0} (g : Group E) where
  -- the table's entry for h: from sA, so many additions of unitA upward, or of its negative downward
  abbrev pub window_entry : (unitA sA : E) → ℤ → E
  window_entry unitA sA (pos h) = additions g h unitA sA
  window_entry unitA sA (negsuc h) = additions g (suc h) (negated g unitA) sA

  -- the table's entry for 0A, 1A, 2A and so on: neutral, the base, and additions of the base from it on
  abbrev pub small_entry : (base : E) → ℕ → E
  small_entry base zero = g.neutral
  small_entry base (suc n) = additions g n base base

  -- an element for a plus, its negative for a minus
  abbrev pub turned : Sign → E → E
  turned Plus a = a
  turned Minus a = negated g a

  -- what a digit adds: the entry of the digit with its sign, turned by the sign
  abbrev pub digit_addend : (unitA sA : E) → Digit → E
  digit_addend unitA sA d = turned d.sign (window_entry unitA sA (signed d.sign d.value))

  -- what a window of the correction adds: its entry, and below 0 the negative of the entry
  abbrev pub small_addend : (base : E) → ℤ → E
  small_addend base (pos n) = small_entry base n
  small_addend base (negsuc n) = negated g (small_entry base (suc n))

  -- the value by the windows' digits, on the left, and by the windows of the correction
  abbrev pub both_sums : (k b : ℕ) → (base : E) → (s : ℕ) → List Digit → ℤ → E
  both_sums k b base s digits c =
      added g (gathered g k (digit_addend (doublings g b base) (climbed g base b s)) digits) (gathered g k (small_addend base) (correction_windows k b c))

  -- what the steps answer: both sums, doubled, and the base or neutral by the key's lowest bit
  abbrev pub multiplied : (k b : ℕ) → (base : E) → (s : ℕ) → List Digit → ℤ → (bit : ℕ) → E
  multiplied k b base s digits c bit = added g (doubled g (both_sums k b base s digits c)) (chosen g base bit)
