-- What runs of a device's operations give. Assumes nothing.
use Rattle.std.specs.Prelude.{ℕ, zero, suc, ◌/◌, ◌%◌, cond, List, [], ◌∷◌, ◌==◌}
use Rattle.groups.specs.Groups.{Group, added, doubled}

module _ {E : Type 0} (g : Group E) where
  -- n doublings of a
  abbrev pub doublings : (n : ℕ) → E → E
  doublings zero a = a
  doublings (suc n) a = doubled g (doublings n a)

  -- n additions of x, from a on
  abbrev pub additions : (n : ℕ) → (x a : E) → E
  additions zero x a = a
  additions (suc n) x a = added g (additions n x a) x

  -- a for the bit 1, neutral for the bit 0
  abbrev pub chosen : E → (bit : ℕ) → E
  chosen a bit = cond (bit == 1) a g.neutral

  -- from neutral, by the n low bits of s, the highest first: a doubling, and an addition of a or neutral
  abbrev pub climbed : E → (n s : ℕ) → E
  climbed a zero s = g.neutral
  climbed a (suc n) s = added g (doubled g (climbed a n (s / 2))) (chosen a (s % 2))

  -- from neutral, by the windows, the highest last in the list and first at work: k doublings, and an addition of what the window stands for
  abbrev pub gathered : {W : Type 0} → (k : ℕ) → (W → E) → List W → E
  gathered k addend [] = g.neutral
  gathered k addend (w ∷ ws) = added g (doublings k (gathered k addend ws)) (addend w)
