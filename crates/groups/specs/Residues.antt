-- Differences modulo n. Assumes nothing.
use Rattle.std.specs.Prelude.{ℕ, ◌+◌, ◌-◌, ◌%◌}

-- a - b modulo n
unfoldable pub minus : (n a b : ℕ) → ℕ
minus n a b = (a % n + (n - b % n)) % n
