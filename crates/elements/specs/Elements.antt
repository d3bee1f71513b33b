-- Elements by two numbers. Assumes nothing.
use Rattle.std.specs.Prelude.{true, cond, ◌&&◌, List, [], ◌∷◌, ◌++◌, ◌≡◌, ℕ, codes, decimal, eqb}
use Rattle.elements.specs.declared.element.Pair.{Pair}
use Rattle.groups.specs.Groups.{Group}
use Rattle.groups.specs.declared.clock.ClockPoint.{ClockPoint}
use Rattle.groups.specs.declared.curve.CurvePoint.{CurvePoint}
use Rattle.groups.specs.declared.curve.CurvePoint.TheVariants.{Infinity, Affine}

-- two numbers
abbrev pub pair_of : (x y : ℕ) → Pair
pair_of x y = record { x = x; y = y }

-- both numbers in decimal, with a space between them
abbrev pub pair_text : Pair → List ℕ
pair_text at = decimal at.x ++ codes " " ++ decimal at.y

-- a code as two numbers, with 0 for what it does not have; the codes of the three groups have one or two
abbrev pub coordinates : List ℕ → Pair
coordinates [] = pair_of 0 0
coordinates (x ∷ []) = pair_of x 0
coordinates (x ∷ y ∷ more) = pair_of x y

-- e is the element for two numbers: a member has them for its code, and where any member has, e is one
pub record Placed {E : Type 0} (g : Group E) (at : Pair) (e : E) : Type 0 where
  pub code : g.member e ≡ true → coordinates (g.code e) ≡ at
  pub member : (a : E) → g.member a ≡ true → coordinates (g.code a) ≡ at → g.member e ≡ true

-- x for a y of 0, and else the greatest number of 32 bits, which is below no modulus
abbrev pub sums_element : Pair → ℕ
sums_element at = cond (eqb at.y 0) at.x 4294967295

-- the point of the clock at x and y
abbrev pub clock_element : Pair → ClockPoint
clock_element at = record { x = at.x; y = at.y }

-- the point at x and y, infinity for 11 and 11
abbrev pub curve_element : Pair → CurvePoint
curve_element at = cond (eqb at.x 11 && eqb at.y 11) Infinity (Affine at.x at.y)
