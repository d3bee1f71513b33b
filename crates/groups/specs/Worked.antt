-- Worked multiples, each from the definitions of its group. Assumes nothing.
use Rattle.std.specs.Prelude.{◌≡◌, ℕ, [], ◌∷◌}
use Rattle.groups.specs.declared.clock.ClockPoint.{ClockPoint}
use Rattle.groups.specs.declared.curve.CurvePoint.TheVariants.{Affine}
use Rattle.groups.specs.declared.multiples.WorkedMultiples.{WorkedMultiples}
use Rattle.groups.specs.Clock.{clock}
use Rattle.groups.specs.Curve.{curve}
use Rattle.groups.specs.Multiples.{times}
use Rattle.groups.specs.Sums.{sums}

-- a pair of coordinates on a clock
abbrev pub place : (x y : ℕ) → ClockPoint
place x y = record { x = x; y = y }

-- the results of the table
abbrev pub written : WorkedMultiples
written = record { curve = Affine 8 3 ∷ Affine 3 6 ∷ Affine 5 9 ∷ []; clock = place 5 5; sums = 725 }

-- the table, from the definitions of the groups, and a call's result that shows it
pub record Worked (r : WorkedMultiples) : Type 0 where
  pub curve_3 : times curve 3 (Affine 2 7) ≡ Affine 8 3
  pub curve_5 : times curve 5 (Affine 2 7) ≡ Affine 3 6
  pub curve_25725 : times curve 25725 (Affine 2 7) ≡ Affine 5 9
  pub clock_25725 : times (clock 7) 25725 (place 2 2) ≡ place 5 5
  pub sums_25725 : times (sums 1000) 25725 1 ≡ 725
  pub shown : r ≡ written
