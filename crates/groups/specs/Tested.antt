-- A test that passes at each number below n, computed once, and read off at any of them. Assumes nothing.
use Rattle.std.specs.Prelude.{◌≡◌, ℕ, zero, suc, ◌<◌, Bool, true, ◌&&◌}
use Rattle.std.proofs.Common.{ap, ◌∙◌, ⊎_elim, eq-or-lt_of_le, le_of_suc-le-suc, arith}
use Rattle.std.proofs.lemmas.Bool.{and_parts}

unfoldable pub below : (ℕ → Bool) → ℕ → Bool
below f zero = true
below f (suc n) = f n && below f n

pub below_at : (f : ℕ → Bool) (n : ℕ) → below f n ≡ true → (k : ℕ) → k < n → f k ≡ true
unfolding below
below_at f zero t k h = absurd (omega arith)
below_at f (suc n) t k h =
    let parts = and_parts (f n) (below f n) t in
    ⊎_elim (λ e. ap f e ∙ parts.0) (below_at f n parts.1 k) (eq-or-lt_of_le (le_of_suc-le-suc h))
