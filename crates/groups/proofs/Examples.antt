-- Worked multiples, computed from the definitions. Assumes nothing.
use Rattle.std.proofs.Common.{◌≡◌, refl}
use Rattle.groups.specs.Clock.{clock}
use Rattle.groups.specs.Curve.{curve, inverse}
use Rattle.groups.specs.Multiples.{times}
use Rattle.groups.specs.Residues.{minus}
use Rattle.groups.specs.Sums.{sums}
use Rattle.groups.specs.Worked.{place}
use Rattle.groups.specs.declared.curve.CurvePoint.TheVariants.{Affine}

pub curve_3 : times curve 3 (Affine 2 7) ≡ Affine 8 3
unfolding minus inverse
curve_3 = refl

pub curve_5 : times curve 5 (Affine 2 7) ≡ Affine 3 6
unfolding minus inverse
curve_5 = refl

pub sums_25725 : times (sums 1000) 25725 1 ≡ 725
sums_25725 = refl

pub clock_25725 : times (clock 7) 25725 (place 2 2) ≡ place 5 5
unfolding minus
clock_25725 = refl

pub curve_25725 : times curve 25725 (Affine 2 7) ≡ Affine 5 9
unfolding minus inverse
curve_25725 = refl
