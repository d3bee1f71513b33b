-- The cells of a table: how the steps fill them, and what a word reads there. Assumes nothing.
use Rattle.std.specs.Prelude.{[], ◌∷◌, ◌++◌, reverse, ℕ, zero, suc, ◌-◌, ◌<◌, List, map, ℤ, pos, negsuc, ◌+ℤ◌, neg_ℤ, slice_index_or, unsigned_abs}
use Rattle.groups.specs.Groups.{Group, added, doubled, negated}
use Rattle.inputs.specs.declared.sign.Sign.TheVariants.{Plus, Minus}
use Rattle.inputs.specs.Signs.{signed}
use Rattle.recoding.specs.declared.digit.Digit.{Digit}
use Rattle.recoding.specs.Digits.{decoded}
use Rattle.steps.specs.Corrections.{correction_windows}
use Rattle.steps.specs.Operations.{additions, chosen, gathered}
use Rattle.steps.specs.Steps.{turned}

-- a digit stands for itself
abbrev pub itself : Digit → Digit
itself d = d

-- a window of a correction as a digit: itself, with its sign, so that its entry is that of its size
abbrev pub window_digit : ℤ → Digit
window_digit (pos n) = record { value = pos n; sign = Plus }
window_digit (negsuc n) = record { value = negsuc n; sign = Minus }

-- a window with the sign of the correction
abbrev pub turned_by : (correction : ℤ) → ℤ → ℤ
turned_by (pos x) w = w
turned_by (negsuc x) w = neg_ℤ w

-- the digit's entry stands in a table of so many cells, of which `origin` is that of 0
abbrev pub Reaches : (cells origin : ℕ) → Digit → Type 0
Reaches cells origin d = unsigned_abs (pos origin +ℤ signed d.sign d.value) < cells

module _ {E : Type 0} (g : Group E) where
  -- n elements, each the one before it and the step, the first the step after `value`
  abbrev pub risen : (n : ℕ) → (step value : E) → List E
  risen zero step value = []
  risen (suc n) step value = risen n step value ++ additions g (suc n) step value ∷ []

  -- the part for the windows: sA where the entry for 0 stands, upward by unitA, downward by its negative
  abbrev pub window_cells : (down up : ℕ) → (unitA sA : E) → List E
  window_cells down up unitA sA = reverse (risen down (negated g unitA) sA) ++ sA ∷ risen up unitA sA

  -- the part for the correction: neutral, the base, and so many more upward by the base
  abbrev pub small_cells : (count : ℕ) → (base : E) → List E
  small_cells count base = g.neutral ∷ base ∷ risen count base base

  -- both parts, with the multiples of the base up to top
  abbrev pub table_cells : (down up top : ℕ) → (unitA sA base : E) → List E
  table_cells down up top unitA sA base = window_cells down up unitA sA ++ small_cells (top - 1) base

  -- what a digit reads in a part of the table, of which `origin` is the cell for 0: the entry of the digit with its sign, turned by the sign
  abbrev pub read_digit : List E → (origin : ℕ) → Digit → E
  read_digit cells origin d = turned g d.sign (slice_index_or cells (unsigned_abs (pos origin +ℤ signed d.sign d.value)) g.neutral)

  -- steps 5 to 7 by what the digits and the windows of the correction read
  abbrev pub evaluated : List E → (middle small k b : ℕ) → (base : E) → List ℤ → (correction : ℤ) → (bit : ℕ) → E
  evaluated cells middle small k b base words c bit =
      added g (doubled g (added g (gathered g k (read_digit cells middle) (map decoded words)) (gathered g k (read_digit cells small) (map window_digit (correction_windows k b c))))) (chosen g base bit)
