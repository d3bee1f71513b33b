-- The numbers below n, added modulo n, and what a device of sums means. Assumes nothing.
use Rattle.std.specs.Prelude.{ℕ, ◌+◌, ◌-◌, ◌%◌, [], ◌∷◌, nat_lt}
use Rattle.groups.specs.declared.counted.Counted.{Counted}
use Rattle.groups.specs.declared.sums.SumArithmetic.{SumArithmetic}
use Rattle.groups.specs.declared.tally.Tally.{Tally}
use Rattle.groups.specs.Groups.{Group}

-- members x below n with code (x); the negative of x is n - x modulo n
abbrev pub sums : ℕ → Group ℕ
sums n = record {
  member = λ x. nat_lt x n;
  code = λ x. x ∷ [];
  neutral = 0;
  sum = λ a b. (a + b) % n;
  double = λ a. (a + a) % n;
  negative = λ a. (n - a) % n;
}

-- the group of a device of sums
abbrev pub group_of : Counted SumArithmetic → Group ℕ
group_of s = sums s.arithmetic.modulus.value

-- what a device of sums has counted
abbrev pub tally_of : Counted SumArithmetic → Tally
tally_of s = s.tally
