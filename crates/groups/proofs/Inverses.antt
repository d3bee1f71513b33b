-- Arithmetic modulo 11, partly by tests that antt computes. Assumes nothing.
use Rattle.std.proofs.Common.{◌≡◌, ℕ, ◌+◌, ◌-◌, ◌*◌, ◌%◌, ◌<◌, Bool, true, cond, eqb, ltb, refl, arith, lt-ltb, eqb-true}
use Rattle.std.proofs.Math.Nat.{mod-mod}
use Rattle.std.proofs.lemmas.Bool.{cond-true}
use Rattle.groups.specs.Curve.{inverse, over}
use Rattle.groups.specs.Residues.{minus}
use Rattle.groups.specs.Tested.{below, below_at}

-- a difference of reduced numbers, and one that reads only the rests
pub minus_reduced : (a b : ℕ) → a < 11 → b < 11 → (a + (11 - b)) % 11 ≡ minus 11 a b
unfolding minus
minus_reduced a b h k = omega arith

pub minus_left : (a b : ℕ) → minus 11 (a % 11) b ≡ minus 11 a b
unfolding minus
minus_left a b = rw (mod-mod a 11) refl

pub minus_rests : (a b : ℕ) → minus 11 (a % 11) (b % 11) ≡ minus 11 a b
unfolding minus
minus_rests a b = rw (mod-mod a 11, mod-mod b 11) refl

-- the ninth power by two squarings, each of them reduced
abbrev fourth : ℕ → ℕ
fourth a = ((a * a) % 11 * ((a * a) % 11)) % 11

abbrev by_squares : ℕ → ℕ
by_squares a = ((fourth a * fourth a) % 11 * a) % 11

squares_test : below (λ a. eqb (by_squares (a % 11)) (inverse a)) 22 ≡ true
unfolding below inverse
squares_test = refl

-- also of the double of a reduced number, as it stands below a tangent's slope
pub ninth_power : (a : ℕ) → a < 22 → by_squares (a % 11) ≡ inverse a
ninth_power a h = eqb-true _ _ (below_at (λ a. eqb (by_squares (a % 11)) (inverse a)) 22 squares_test a h)

-- nothing is asked where a is 0 modulo 11
inverts_at : ℕ → Bool
inverts_at a = cond (ltb 0 (a % 11)) (eqb ((a * inverse a) % 11) 1) true

inverts_test : below inverts_at 22 ≡ true
unfolding below inverse inverts_at
inverts_test = refl

pub inverts : (a : ℕ) → a < 22 → 0 < a % 11 → (a * inverse a) % 11 ≡ 1
unfolding inverts_at
inverts a h some =
    let passed = below_at inverts_at 22 inverts_test a h in
    eqb-true _ 1 (rw (cond-true (ltb 0 (a % 11)) (eqb ((a * inverse a) % 11) 1) true (lt-ltb 0 (a % 11) some)) at passed)

-- the slope of a tangent, each step reduced
abbrev slope_by_steps : (x y : ℕ) → ℕ
slope_by_steps x y = over (((3 % 11 * x) % 11 * x % 11 + 1 % 11) % 11) ((y + y) % 11)

slope_test : below (λ x. below (λ y. eqb (slope_by_steps x y) (over (3 * x * x + 1) (2 * y))) 11) 11 ≡ true
unfolding below inverse
slope_test = refl

pub slope : (x y : ℕ) → x < 11 → y < 11 → slope_by_steps x y ≡ over (3 * x * x + 1) (2 * y)
slope x y h k =
    let row = below_at (λ x. below (λ y. eqb (slope_by_steps x y) (over (3 * x * x + 1) (2 * y))) 11) 11 slope_test x h in
    eqb-true _ _ (below_at (λ y. eqb (slope_by_steps x y) (over (3 * x * x + 1) (2 * y))) 11 row y k)
