-- Quotients rounded toward zero, and their remainders.
use Rattle.std.specs.Prelude.{◌≡◌, ℕ, zero, suc, ◌*◌, ◌/◌, ◌%◌, ◌^◌, ◌<◌, ◌≤◌, ℤ, pos, negsuc, ◌+ℤ◌, ◌*ℤ◌, neg_ℤ, ◌≤ℤ◌, ◌<ℤ◌, FitsSigned, ◌≢◌, int_div, int_rem, refl}
use Rattle.std.proofs.Common.{sym, ap, ◌∙◌, mul-le-mul_left, arith}
use Rattle.std.specs.Int.{w64}
use Rattle.std.proofs.Math.Nat.{mul-mod_right}
use Rattle.std.proofs.lemmas.Nat.{div_below}
use Rattle.std.proofs.lemmas.Int.{ints}

pub times_neg : (u n : ℕ) → pos u *ℤ neg_ℤ (pos n) ≡ neg_ℤ (pos (u * n))
times_neg u zero = omega (arith, ints)
times_neg u (suc n) = refl

pub quot_rem : (r : ℤ) (u : ℕ) → r ≡ pos u *ℤ int_div r (pos u) +ℤ int_rem r (pos u)
quot_rem (pos a) u = omega (arith, ints)
quot_rem (negsuc a) u = rw (times_neg u (suc a / u)) (omega (arith, ints))

pub rem_small : (r : ℤ) (u : ℕ) → 0 < u → (neg_ℤ (pos u) <ℤ int_rem r (pos u)) × (int_rem r (pos u) <ℤ pos u)
rem_small (pos a) u p = omega (arith, ints)
rem_small (negsuc a) u p = omega (arith, ints)

quot_most : (r : ℤ) (u a : ℕ) → 0 < u → r <ℤ pos (suc a * u) → int_div r (pos u) ≤ℤ pos a
quot_most (pos n) u a p h = omega (arith, ints, div_below n u (suc a) p (omega (arith, ints)))
quot_most (negsuc n) u a p h = omega (arith, ints)

quot_least : (r : ℤ) (u a : ℕ) → 0 < u → neg_ℤ (pos (suc a * u)) <ℤ r → neg_ℤ (pos a) ≤ℤ int_div r (pos u)
quot_least (pos n) u a p h = omega (arith, ints)
quot_least (negsuc n) u a p h = omega (arith, ints, div_below (suc n) u (suc a) p (omega (arith, ints)))

-- the bounds of a quotient by those of what is divided
pub quot_bounds : (r : ℤ) (u a c : ℕ) → 0 < u → neg_ℤ (pos (suc a * u)) <ℤ r → r <ℤ pos (suc c * u) → (neg_ℤ (pos a) ≤ℤ int_div r (pos u)) × (int_div r (pos u) ≤ℤ pos c)
quot_bounds r u a c p l h = (quot_least r u a p l, quot_most r u c p h)

-- a number that is divided without remainder, and one that is not
pub exact : (x : ℤ) (u : ℕ) → int_rem x (pos u) ≡ pos 0 → pos u *ℤ int_div x (pos u) ≡ x
exact x u e = let t = quot_rem x u in omega (arith, ints)

rem_neg : (n u : ℕ) → int_rem (neg_ℤ (pos n)) (pos u) ≡ neg_ℤ (pos (n % u))
rem_neg zero u = omega (arith, ints)
rem_neg (suc n) u = refl

rem_multiple : (q : ℤ) (u : ℕ) → int_rem (pos u *ℤ q) (pos u) ≡ pos 0
rem_multiple (pos a) u = ap pos (mul-mod_right u a)
rem_multiple (negsuc a) u = ap (λ (z : ℤ). int_rem z (pos u)) (times_neg u (suc a)) ∙ rem_neg (u * suc a) u ∙ ap (λ (n : ℕ). neg_ℤ (pos n)) (mul-mod_right u (suc a))

pub inexact : (x : ℤ) (u : ℕ) → (int_rem x (pos u) ≢ pos 0) → (q : ℤ) → pos u *ℤ q ≢ x
inexact x u n q e = n (ap (λ (z : ℤ). int_rem z (pos u)) (sym e) ∙ rem_multiple q u)

-- the quotient of a word by 4 or more
pub quot_quarter : (x : ℤ) (u : ℕ) → 4 ≤ u → FitsSigned w64 x → (neg_ℤ (pos (2 ^ 61)) ≤ℤ int_div x (pos u)) × (int_div x (pos u) ≤ℤ pos (2 ^ 61))
quot_quarter x u p f =
    let l : suc (2 ^ 61) * 4 ≤ suc (2 ^ 61) * u = mul-le-mul_left (suc (2 ^ 61)) p in
    quot_bounds x u (2 ^ 61) (2 ^ 61) (omega arith) (omega (arith, ints)) (omega (arith, ints))
