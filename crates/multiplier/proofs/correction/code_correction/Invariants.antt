use Rattle.std.proofs.Common.{◌≡◌, ◌-◌, ◌≤◌, ◌++◌, map, length, take, nat_abs}
use Rattle.steps.specs.Corrections.{low_windows}
use Rattle.multiplier.specs.Tables.{turned_by, window_digit}
use Rattle.multiplier.proofs.correction.code_correction.Given as goal

abbrev pub invariant-loop-digit : goal.invariant-loop-digit
invariant-loop-digit l =
    (l.gained ≤ 1)
    × (take l.digit-index l.digits ++ map (λ w. window_digit (turned_by l.correction w)) (low_windows l.sizes.k (length l.initial.digits - l.digit-index) l.rest l.gained)
    ≡ map (λ w. window_digit (turned_by l.correction w)) (low_windows l.sizes.k (length l.initial.digits) (nat_abs l.correction) 0))
