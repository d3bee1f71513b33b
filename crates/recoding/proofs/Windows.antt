-- One window: its equation, and the range of its number.
use Rattle.std.proofs.Common.{◌≡◌, ℕ, suc, ◌+◌, ◌*◌, ◌^◌, ◌<◌, ◌≤◌, ℤ, pos, negsuc, ◌+ℤ◌, ◌-ℤ◌, ◌*ℤ◌, neg_ℤ, ◌≤ℤ◌, ◌<ℤ◌, sym, subst, mul-le-mul_right, arith, pow_pos, pow_mono}
use lib.Signed.{rem_z}
use Rattle.std.proofs.lemmas.Nat.{mul-le}
use Rattle.std.proofs.lemmas.Int.{ints}
use Rattle.inputs.specs.declared.sign.Choice.{Choice}
use Rattle.inputs.specs.declared.sign.Carry.{Carry}
use Rattle.inputs.specs.declared.sign.Carry.TheVariants.{Down, Zero, Up}
use Rattle.inputs.specs.declared.sign.Sign.{Sign}
use Rattle.inputs.specs.declared.sign.Sign.TheVariants.{Plus, Minus}
use Rattle.inputs.specs.Signs.{signed, carry_value}
use Rattle.inputs.specs.Sizes.{Widths}
use Rattle.inputs.specs.Rules.{Rule, Lawful, Admitted, Reached, remainder, digit, rest}
use Rattle.inputs.specs.Quotients.{quot_rem, rem_small}

-- what is left of r by its quotient is its remainder
left_is : (r p x : ℤ) → r ≡ p +ℤ x → r -ℤ p ≡ x
left_is r p x e = omega (arith, ints)

pub rest_is : (k b s : ℕ) (h : ℤ) (c : Choice) → rest k b h s c ≡ rem_z (remainder k b h s c) (pos (2 ^ b))
rest_is k b s h c = left_is (remainder k b h s c) (pos (2 ^ b) *ℤ digit k b h s c) (rem_z (remainder k b h s c) (pos (2 ^ b))) (quot_rem (remainder k b h s c) (2 ^ b))

pub rest_small : (k b s : ℕ) (h : ℤ) (c : Choice) → (neg_ℤ (pos (2 ^ b)) <ℤ rest k b h s c) × (rest k b h s c <ℤ pos (2 ^ b))
rest_small k b s h c = subst (λ (z : ℤ). (neg_ℤ (pos (2 ^ b)) <ℤ z) × (z <ℤ pos (2 ^ b))) (sym (rest_is k b s h c)) (rem_small (remainder k b h s c) (2 ^ b) (pow_pos b))

-- a window's number by its digit, what it leaves, the signed draw and the carry
pub split : (k b s : ℕ) (h : ℤ) (c : Choice) →
    h ≡ pos (2 ^ b) *ℤ digit k b h s c +ℤ rest k b h s c +ℤ signed c.sign (pos s) +ℤ pos (2 ^ (k + b)) *ℤ carry_value c.carry
split k b s h c = line h (signed c.sign (pos s)) (pos (2 ^ (k + b)) *ℤ carry_value c.carry) (pos (2 ^ b) *ℤ digit k b h s c)
  where
    line : (h g t p : ℤ) → h ≡ p +ℤ (h -ℤ g -ℤ t -ℤ p) +ℤ g +ℤ t
    line h g t p = omega (arith, ints)

-- the number of the next window
pub below_range : (u K bits : ℕ) (left : ℤ) → bits < K → neg_ℤ (pos u) <ℤ left → left <ℤ pos u →
    let h : ℤ = pos K *ℤ left +ℤ pos bits in
    ((neg_ℤ (pos (u * K)) +ℤ pos K) ≤ℤ h) × (h <ℤ pos (u * K))
below_range u K bits (pos a) p lo hi =
    let q : suc a * K ≤ u * K = mul-le-mul_right K (omega (arith, ints)) in (omega (arith, ints), omega (arith, ints))
below_range u K bits (negsuc a) p lo hi =
    let q : suc (suc a) * K ≤ u * K = mul-le-mul_right K (omega (arith, ints)) in (omega (arith, ints), omega (arith, ints))

-- a carry is from -1 to 1
pub carry_small : (t : Carry) → (negsuc 0 ≤ℤ carry_value t) × (carry_value t ≤ℤ pos 1)
carry_small Down = (omega (arith, ints), omega (arith, ints))
carry_small Zero = (omega (arith, ints), omega (arith, ints))
carry_small Up = (omega (arith, ints), omega (arith, ints))

-- a digit that is small with its sign is small
pub signed_out : (g : Sign) (w lo hi : ℤ) → lo ≤ℤ signed g w → signed g w ≤ℤ hi → negsuc 3 ≤ℤ lo → hi ≤ℤ pos 64 → (neg_ℤ (pos (2 ^ 20)) ≤ℤ w) × (w ≤ℤ pos (2 ^ 20))
signed_out Plus w lo hi a b c d = (omega (arith, ints), omega (arith, ints))
signed_out Minus w lo hi a b c d = (omega (arith, ints), omega (arith, ints))

pub hi_small : (R : Rule) (k b : ℕ) → Lawful R → Widths k b → R.hi k b ≤ℤ pos 64
hi_small R k b L z = let p : 2 ^ k ≤ 2 ^ 6 = pow_mono z.1 in omega (arith, ints, L.hi_most k b z)

pub digit_small : (R : Rule) (k b s : ℕ) (h : ℤ) → Lawful R → Widths k b → Admitted R k b s → Reached k b h →
    (neg_ℤ (pos (2 ^ 20)) ≤ℤ digit k b h s (R.choose k b h s)) × (digit k b h s (R.choose k b h s) ≤ℤ pos (2 ^ 20))
digit_small R k b s h L z a r =
    signed_out (R.choose k b h s).sign (digit k b h s (R.choose k b h s)) (R.lo k b) (R.hi k b)
    (omega (arith, ints, L.above k b s h z a r)) (omega (arith, ints, L.below k b s h z a r)) (L.lo_least k b z) (hi_small R k b L z)

-- a product with a carry, and one with a sign
times_carry_lem : (n : ℕ) (t : Carry) → (neg_ℤ (pos n) ≤ℤ (pos n *ℤ carry_value t)) × ((pos n *ℤ carry_value t) ≤ℤ pos n)
times_carry_lem n Down = (omega (arith, ints), omega (arith, ints))
times_carry_lem n Zero = (omega (arith, ints), omega (arith, ints))
times_carry_lem n Up = (omega (arith, ints), omega (arith, ints))

pub signed_small : (g : Sign) (n : ℕ) → (neg_ℤ (pos n) ≤ℤ signed g (pos n)) × (signed g (pos n) ≤ℤ pos n)
signed_small Plus n = (omega (arith, ints), omega (arith, ints))
signed_small Minus n = (omega (arith, ints), omega (arith, ints))

-- the parts of a remainder, and the remainder itself, are small
pub record Small (k b s : ℕ) (h : ℤ) (c : Choice) : Type 0 where
  pub power_most : 2 ^ (k + b) ≤ 2 ^ 36
  pub shift_least : neg_ℤ (pos (2 ^ 32)) ≤ℤ signed c.sign (pos s)
  pub shift_most : signed c.sign (pos s) ≤ℤ pos (2 ^ 32)
  pub carry_least : neg_ℤ (pos (2 ^ 36)) ≤ℤ (pos (2 ^ (k + b)) *ℤ carry_value c.carry)
  pub carry_most : (pos (2 ^ (k + b)) *ℤ carry_value c.carry) ≤ℤ pos (2 ^ 36)
  pub number_least : neg_ℤ (pos (2 ^ 36)) ≤ℤ h
  pub number_most : h ≤ℤ pos (2 ^ 36)

pub remainder_small : (k b s : ℕ) (h : ℤ) (c : Choice) → Widths k b → s < 2 ^ 32 → Reached k b h → Small k b s h c
remainder_small k b s h c z hs r =
    let x : k + b ≤ 36 = omega arith in
    let p : 2 ^ (k + b) ≤ 2 ^ 36 = pow_mono x in
    let g = signed_small c.sign s in
    let t = times_carry_lem (2 ^ (k + b)) c.carry in
    record {
      power_most = p;
      shift_least = omega (arith, ints);
      shift_most = omega (arith, ints);
      carry_least = omega (arith, ints);
      carry_most = omega (arith, ints);
      number_least = omega (arith, ints, r.0);
      number_most = omega (arith, ints, r.1);
    }

-- a product of a power and a number that is small
pub times_bound : (n m r : ℕ) (z : ℤ) → n ≤ m → neg_ℤ (pos r) ≤ℤ z → z ≤ℤ pos r → (neg_ℤ (pos (m * r)) ≤ℤ (pos n *ℤ z)) × ((pos n *ℤ z) ≤ℤ pos (m * r))
times_bound n m r (pos a) p l h = let q : n * a ≤ m * r = mul-le n a m r p (omega (arith, ints)) in (omega (arith, ints), omega (arith, ints))
times_bound n m r (negsuc a) p l h = let q : n * suc a ≤ m * r = mul-le n (suc a) m r p (omega (arith, ints)) in (omega (arith, ints), omega (arith, ints))
