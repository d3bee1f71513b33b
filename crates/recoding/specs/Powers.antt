-- Exact quotients.
use Rattle.std.specs.Prelude.{◌≡◌, ◌^◌, ℤ, pos, ◌*ℤ◌, neg_ℤ, ◌≤ℤ◌, Some, None, Option, ◌≢◌}

-- the number that x is a multiple of the divisor by, or none where x is no multiple
abbrev pub Divided : (divisor x : ℤ) → Option ℤ → Type 0
Divided divisor x (Some q) = divisor *ℤ q ≡ x
Divided divisor x None = (q : ℤ) → divisor *ℤ q ≢ x

-- a quotient of a word by 4 or more is small
abbrev pub Small : Option ℤ → Type 0
Small (Some q) = (neg_ℤ (pos (2 ^ 61)) ≤ℤ q) × (q ≤ℤ pos (2 ^ 61))
Small None = Unit {0}
