-- The plain tally of a multiplication: the operations of the seven steps, in their order, by the rule's limits and the sizes alone. Assumes nothing.
use Rattle.std.specs.Prelude.{◌≡◌, ℕ, zero, suc, ◌+◌, ◌-◌, ◌*◌, ◌%◌, ◌^◌, ℤ, ◌-ℤ◌, unsigned_abs}
use Rattle.groups.specs.declared.tally.Tally.{Tally}
use Rattle.groups.specs.Tally.{one_addition, one_doubling}
use Rattle.steps.specs.Corrections.{correction_count}

-- n doublings
abbrev pub many_doublings : ℕ → Tally → Tally
many_doublings zero t = t
many_doublings (suc n) t = one_doubling (many_doublings n t)

-- n additions
abbrev pub many_additions : ℕ → Tally → Tally
many_additions zero t = t
many_additions (suc n) t = one_addition (many_additions n t)

-- n rounds, each of k doublings and an addition
abbrev pub many_rounds : (n k : ℕ) → Tally → Tally
many_rounds zero k t = t
many_rounds (suc n) k t = one_addition (many_doublings k (many_rounds n k t))

-- steps 1 to 4, which build the table: the doublings for unitA, the climb to sA, the entries upward and downward, the multiples of the base
abbrev pub table_work : (lo hi : ℤ) (k b : ℕ) → Tally → Tally
table_work lo hi k b t = many_additions (2 ^ (k - 1) - 1) (many_additions (unsigned_abs lo) (many_additions (unsigned_abs hi) (many_rounds b 1 (many_doublings b t))))

-- steps 5 to 7, which evaluate: a round for each window, a round for each window of the correction, both sums, their double, the lowest bit
abbrev pub sums_work : (k b m : ℕ) → Tally → Tally
sums_work k b m t = one_addition (one_doubling (one_addition (many_rounds (correction_count k b) k (many_rounds m k t))))

-- all seven
abbrev pub work : (lo hi : ℤ) (k b m : ℕ) → Tally → Tally
work lo hi k b m t = sums_work k b m (table_work lo hi k b t)

-- how many operations that is, as a law above the steps: 2b + k(m + n) + 1 doublings and b + hi - lo + 2 ^ (k - 1) + m + n + 1 additions, n windows of the correction
pub record Counts (lo hi : ℤ) (k b m : ℕ) (t t' : Tally) : Type 0 where
  pub doublings : t'.doublings ≡ (t.doublings + (2 * b + k * (m + correction_count k b) + 1)) % 2 ^ 64
  pub additions : t'.additions ≡ (t.additions + (b + unsigned_abs (hi -ℤ lo) + 2 ^ (k - 1) + m + correction_count k b + 1)) % 2 ^ 64
