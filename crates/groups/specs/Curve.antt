-- The points of y² = x³ + x + 6 modulo 11 and a point at infinity, added by the affine rules, and what a device of the curve means. Assumes nothing.
use Rattle.std.specs.Prelude.{ℕ, ◌+◌, ◌-◌, ◌*◌, ◌%◌, ◌^◌, Bool, true, cond, ◌&&◌, List, [], ◌∷◌, ◌==◌, nat_lt}
use Rattle.groups.specs.declared.counted.Counted.{Counted}
use Rattle.groups.specs.declared.curve.CurveArithmetic.{CurveArithmetic}
use Rattle.groups.specs.declared.curve.CurvePoint.{CurvePoint}
use Rattle.groups.specs.declared.curve.CurvePoint.TheVariants.{Infinity, Affine}
use Rattle.groups.specs.declared.tally.Tally.{Tally}
use Rattle.groups.specs.Groups.{Group}
use Rattle.groups.specs.Residues.{minus}

-- infinity, and x and y below 11 with y² ≡ x³ + x + 6 modulo 11
abbrev pub on_curve : CurvePoint → Bool
on_curve Infinity = true
on_curve (Affine x y) = nat_lt x 11 && (nat_lt y 11 && (y * y) % 11 == (x * x * x + x + 6) % 11)

-- infinity has the code (11, 11), which is that of no pair on the curve
abbrev pub coded : CurvePoint → List ℕ
coded Infinity = 11 ∷ 11 ∷ []
coded (Affine x y) = x ∷ y ∷ []

-- the inverse modulo 11 of what is not 0 modulo 11: its ninth power, since the tenth is 1
unfoldable pub inverse : ℕ → ℕ
inverse a = a ^ 9 % 11

-- a / b modulo 11
abbrev pub over : (a b : ℕ) → ℕ
over a b = (a * inverse b) % 11

-- the point at x of the mirrored line with slope k through (x₁, y₁): y = k (x₁ - x) - y₁
abbrev pub mirrored_at : (k x₁ y₁ x : ℕ) → CurvePoint
mirrored_at k x₁ y₁ x = Affine x (minus 11 (k * minus 11 x₁ x) y₁)

-- a line with slope k through two points of the curve meets it once more at x = k² - x₁ - x₂, and the mirrored point is their sum
abbrev pub third : (k x₁ y₁ x₂ : ℕ) → CurvePoint
third k x₁ y₁ x₂ = mirrored_at k x₁ y₁ (minus 11 (k * k) (x₁ + x₂))

-- the chord of two points has the slope (y₂ - y₁) / (x₂ - x₁)
abbrev pub chord : (x₁ y₁ x₂ y₂ : ℕ) → CurvePoint
chord x₁ y₁ x₂ y₂ = third (over (minus 11 y₂ y₁) (minus 11 x₂ x₁)) x₁ y₁ x₂

-- the tangent at a point has the slope (3 x² + 1) / (2 y)
abbrev pub tangent : (x y : ℕ) → CurvePoint
tangent x y = third (over (3 * x * x + 1) (2 * y)) x y x

-- the affine rules: infinity on either side changes nothing; different x add by the chord; of equal x, opposite points add to infinity, and a point adds to itself by the tangent
abbrev pub affine_sum : CurvePoint → CurvePoint → CurvePoint
affine_sum Infinity q = q
affine_sum (Affine x₁ y₁) Infinity = Affine x₁ y₁
affine_sum (Affine x₁ y₁) (Affine x₂ y₂) =
    cond (x₁ == x₂) (cond ((y₁ + y₂) % 11 == 0) Infinity (tangent x₁ y₁)) (chord x₁ y₁ x₂ y₂)

-- (x, -y) modulo 11
abbrev pub curve_negative : CurvePoint → CurvePoint
curve_negative Infinity = Infinity
curve_negative (Affine x y) = Affine x ((11 - y) % 11)

-- members are the points on the curve; infinity is neutral
abbrev pub curve : Group CurvePoint
curve = record {
  member = on_curve;
  code = coded;
  neutral = Infinity;
  sum = affine_sum;
  double = λ p. affine_sum p p;
  negative = curve_negative;
}

-- the points on the curve, written out
abbrev pub curve_points : List CurvePoint
curve_points = Infinity ∷ Affine 2 4 ∷ Affine 2 7 ∷ Affine 3 5 ∷ Affine 3 6 ∷ Affine 5 2 ∷ Affine 5 9 ∷ Affine 7 2 ∷ Affine 7 9 ∷ Affine 8 3 ∷ Affine 8 8 ∷ Affine 10 2 ∷ Affine 10 9 ∷ []

-- the group of a device of the curve
abbrev pub group_of : Counted CurveArithmetic → Group CurvePoint
group_of s = curve

-- what a device of the curve has counted
abbrev pub tally_of : Counted CurveArithmetic → Tally
tally_of s = s.tally
