-- The limits of a lawful rule as counts of cells. Assumes nothing.
use Rattle.std.proofs.Common.{◌≡◌, ℕ, ◌+◌, ◌-◌, ◌^◌, ◌≤◌, ℤ, pos, negsuc, ◌-ℤ◌, neg_ℤ, nat_abs, ◌≤ℤ◌, ap, arith, pow_mono}
use Rattle.std.proofs.lemmas.Int.{ints}
use Rattle.inputs.specs.declared.sizes.Sizes.{Sizes}
use Rattle.inputs.specs.Rules.{Rule, Lawful}
use Rattle.inputs.specs.Sizes.{Widths}

pub widths : (z : Sizes) → Widths z.k z.b
widths z = (z.k_least, z.k_most, z.b_least, z.b_most)

counts : (lo hi : ℤ) (top : ℕ) → negsuc 3 ≤ℤ lo → lo ≤ℤ negsuc 0 → pos 1 ≤ℤ hi → hi ≤ℤ pos top → top ≤ 64 →
    (nat_abs lo ≤ 4) × (nat_abs hi ≤ 64) × (nat_abs lo + nat_abs hi ≡ nat_abs (hi -ℤ lo))
counts (pos l) hi top a b c d e = absurd (omega (arith, ints))
counts (negsuc l) (pos h) top a b c d e = (omega (arith, ints), omega (arith, ints), omega arith)
counts (negsuc l) (negsuc h) top a b c d e = absurd (omega (arith, ints))

limits_are : (lo hi : ℤ) (down up : ℕ) → lo ≤ℤ negsuc 0 → pos 1 ≤ℤ hi → down ≡ nat_abs lo → up ≡ nat_abs hi → (neg_ℤ (pos down) ≡ lo) × (pos up ≡ hi)
limits_are (pos l) hi down up a b d u = absurd (omega (arith, ints))
limits_are (negsuc l) (negsuc h) down up a b d u = absurd (omega (arith, ints))
limits_are (negsuc l) (pos h) down up a b d u = (ap (λ (n : ℕ). neg_ℤ (pos n)) d, ap pos u)

-- the limits are the counts again
pub limits_back : (R : Rule) (z : Sizes) → Lawful R → (down up : ℕ) → down ≡ nat_abs (R.lo z.k z.b) → up ≡ nat_abs (R.hi z.k z.b) → (neg_ℤ (pos down) ≡ R.lo z.k z.b) × (pos up ≡ R.hi z.k z.b)
limits_back R z L down up d u = limits_are (R.lo z.k z.b) (R.hi z.k z.b) down up (L.lo_most z.k z.b (widths z)) (L.hi_least z.k z.b (widths z)) d u
