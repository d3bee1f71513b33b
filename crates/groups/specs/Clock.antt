-- The clock: the points of the unit circle x² + y² = 1 modulo n, added as angles from (0, 1), and what a device of it means. Assumes nothing.
use Rattle.std.specs.Prelude.{ℕ, ◌+◌, ◌-◌, ◌*◌, ◌%◌, Bool, ◌&&◌, [], ◌∷◌, ◌==◌, nat_lt}
use Rattle.groups.specs.declared.clock.ClockArithmetic.{ClockArithmetic}
use Rattle.groups.specs.declared.clock.ClockPoint.{ClockPoint}
use Rattle.groups.specs.declared.counted.Counted.{Counted}
use Rattle.groups.specs.declared.tally.Tally.{Tally}
use Rattle.groups.specs.Groups.{Group}
use Rattle.groups.specs.Residues.{minus}

-- x and y are below n, with x² + y² ≡ 1 modulo n
abbrev pub on_clock : ℕ → ClockPoint → Bool
on_clock n p = nat_lt p.x n && (nat_lt p.y n && (p.x * p.x + p.y * p.y) % n == 1)

-- (x₁ y₂ + y₁ x₂, y₁ y₂ - x₁ x₂) modulo n
abbrev pub clock_sum : ℕ → ClockPoint → ClockPoint → ClockPoint
clock_sum n p q = record {
  x = (p.x * q.y + p.y * q.x) % n;
  y = minus n (p.y * q.y) (p.x * q.x);
}

-- (-x, y) modulo n
abbrev pub clock_negative : ℕ → ClockPoint → ClockPoint
clock_negative n p = record { x = (n - p.x) % n; y = p.y }

-- members are the points on the clock, with code (x, y); neutral is (0, 1)
abbrev pub clock : ℕ → Group ClockPoint
clock n = record {
  member = on_clock n;
  code = λ p. p.x ∷ p.y ∷ [];
  neutral = record { x = 0; y = 1 };
  sum = clock_sum n;
  double = λ p. clock_sum n p p;
  negative = clock_negative n;
}

-- the group of a device of the clock
abbrev pub group_of : Counted ClockArithmetic → Group ClockPoint
group_of s = clock s.arithmetic.modulus.value

-- what a device of the clock has counted
abbrev pub tally_of : Counted ClockArithmetic → Tally
tally_of s = s.tally
