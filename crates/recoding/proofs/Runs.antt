-- The worked runs compute.
use Rattle.std.proofs.Common.{refl}
use Rattle.recoding.specs.Worked.{WorkedRuns}

pub worked_runs_lem : WorkedRuns
worked_runs_lem = record {
  centered = refl;
  nonzero = refl;
  words = refl;
  shifted = refl;
  nothing = refl;
  lowest_choice = refl;
  lowest_remainder = refl;
  lowest_digit = refl;
  lowest_rest = refl;
}
