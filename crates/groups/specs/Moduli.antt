-- Which numbers are moduli of sums and of the clock. Assumes nothing.
use Rattle.std.specs.Prelude.{◌≡◌, ℕ, true, false, Result, MatchResult}
use Rattle.common.specs.declared.refusal.Refusal.{Refusal}
use Rattle.common.specs.declared.refusal.Refusal.TheVariants as refusals
use Rattle.groups.specs.SetUp.{in_range}
use Rattle.groups.specs.declared.modulus.Modulus.{Modulus}

-- n itself where it is in the range, and else the refusal of a modulus
abbrev pub Bounds : ℕ → Result Modulus Refusal → Type 0
Bounds n r = MatchResult r (λ m. (m.value ≡ n) × (in_range n ≡ true)) (λ e. (e ≡ refusals.Modulus) × (in_range n ≡ false))
