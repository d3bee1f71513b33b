-- Bits of a number in words of 32 bits.
use Rattle.std.proofs.Common.{◌≡◌, ℕ, zero, suc, ◌+◌, ◌-◌, ◌*◌, ◌/◌, ◌%◌, ◌^◌, ◌<◌, ◌≤◌, List, [], ◌∷◌, length, get_or, take, drop, Some, sym, refl, ap, ◌∙◌, add-suc, mul-le-mul_right, mul_assoc, mul_comm, add_comm, div-one, add-one, arith, lit<, pow_pos, pow-add}
use lib.Arith.{digits_div}
use native.Mathlib.Nat.{zero-div, add-mul-div_right, mul-add-mod_self_right}
use Rattle.std.proofs.lemmas.Nat.{shr-shr}
use Rattle.inputs.specs.Keys.{scalar, bits_at, Highest}

front : (ws : List ℕ) (j : ℕ) → scalar (drop j ws) ≡ scalar (drop (suc j) ws) * 2 ^ 32 + get_or ws j 0
front [] zero = refl
front [] (suc j) = refl
front (w ∷ ws) zero = refl
front (w ∷ ws) (suc j) = front ws j

from_word : (ws : List ℕ) (j : ℕ) → ((i : ℕ) → get_or ws i 0 < 2 ^ 32) → scalar ws / 2 ^ (32 * j) ≡ scalar (drop j ws)
from_word ws zero h = div-one (scalar ws)
from_word [] (suc j) h = zero-div (2 ^ (32 * suc j))
from_word (w ∷ ws) (suc j) h =
    let e : 32 * suc j ≡ 32 + 32 * j = omega arith in
    rw e (rw (← (shr-shr (scalar ws * 2 ^ 32 + w) 32 (32 * j))) (rw (digits_div (scalar ws) {m = 2 ^ 32} {r = w} (h 0)) (from_word ws j (λ i. h (suc i)))))

regroup : (x y w a c d : ℕ) → w ≡ a * c * d → y * w + x ≡ x + y * a * c * d
regroup x y w a c d e = rw e (omega arith)

-- what is below bit i + k is not changed by what is above 64
low_field : (x y i k : ℕ) → i + k ≤ 64 → (y * 2 ^ 64 + x) / 2 ^ i % 2 ^ k ≡ x / 2 ^ i % 2 ^ k
low_field x y i k h =
    let e : 64 ≡ (64 - (i + k)) + k + i = omega arith in
    let p : 2 ^ 64 ≡ 2 ^ (64 - (i + k)) * 2 ^ k * 2 ^ i = ap (λ (n : ℕ). 2 ^ n) e ∙ pow-add 2 ((64 - (i + k)) + k) i ∙ ap (λ (n : ℕ). n * 2 ^ i) (pow-add 2 (64 - (i + k)) k) in
    let q : y * 2 ^ 64 + x ≡ x + (y * 2 ^ (64 - (i + k)) * 2 ^ k) * 2 ^ i = regroup x y (2 ^ 64) (2 ^ (64 - (i + k))) (2 ^ k) (2 ^ i) p in
    ap (λ (n : ℕ). n / 2 ^ i % 2 ^ k) q ∙ ap (λ (n : ℕ). n % 2 ^ k) (add-mul-div_right x (y * 2 ^ (64 - (i + k)) * 2 ^ k) (pow_pos i) ∙ add_comm (x / 2 ^ i) (y * 2 ^ (64 - (i + k)) * 2 ^ k))
    ∙ mul-add-mod_self_right (y * 2 ^ (64 - (i + k))) (2 ^ k) (x / 2 ^ i)

-- k bits from bit p up stand in two words
pub two_words : (ws : List ℕ) (p k : ℕ) → ((i : ℕ) → get_or ws i 0 < 2 ^ 32) → k ≤ 32 →
    (get_or ws (p / 32 + 1) 0 * 2 ^ 32 + get_or ws (p / 32) 0) / 2 ^ (p % 32) % 2 ^ k ≡ scalar ws / 2 ^ p % 2 ^ k
two_words ws p k h l =
    let e : 32 * (p / 32) + p % 32 ≡ p = omega arith in
    let m : p % 32 + k ≤ 64 = omega arith in
    let n : scalar (drop (p / 32) ws) ≡ scalar (drop (suc (suc (p / 32))) ws) * 2 ^ 64 + (get_or ws (suc (p / 32)) 0 * 2 ^ 32 + get_or ws (p / 32) 0) =
    omega (arith, front ws (p / 32), front ws (suc (p / 32))) in
    rw add-one (sym
    (ap (λ (x : ℕ). scalar ws / 2 ^ x % 2 ^ k) (sym e)
    ∙ ap (λ (x : ℕ). x % 2 ^ k) (sym (shr-shr (scalar ws) (32 * (p / 32)) (p % 32)))
    ∙ ap (λ (x : ℕ). x / 2 ^ (p % 32) % 2 ^ k) (from_word ws (p / 32) h ∙ n)
    ∙ low_field (get_or ws (suc (p / 32)) 0 * 2 ^ 32 + get_or ws (p / 32) 0) (scalar (drop (suc (suc (p / 32))) ws)) (p % 32) k m))

-- the bits of d from bit p + 1 up are those of its half from bit p up
pub half_field : (d p k : ℕ) → d / 2 ^ (p + 1) % 2 ^ k ≡ bits_at (d / 2) k p
half_field d p k =
    let e : p + 1 ≡ 1 + p = omega arith in
    rw e (ap (λ (x : ℕ). x % 2 ^ k) (sym (shr-shr d 1 p)))

-- one word more
pub scalar_more : (ws : List ℕ) (i : ℕ) → i < length ws → scalar (take (suc i) ws) ≡ scalar (take i ws) + get_or ws i 0 * 2 ^ (32 * i)
scalar_more [] i h = elim h [ ]
scalar_more (w ∷ ws) zero h = omega arith
scalar_more (w ∷ ws) (suc i) h =
    let e : 32 * suc i ≡ 32 * i + 32 = omega arith in
    let p : 2 ^ (32 * suc i) ≡ 2 ^ (32 * i) * 2 ^ 32 = ap (λ (n : ℕ). 2 ^ n) e ∙ pow-add 2 (32 * i) 32 in
    let q : get_or ws i 0 * 2 ^ (32 * suc i) ≡ get_or ws i 0 * 2 ^ (32 * i) * 2 ^ 32 = ap (λ (n : ℕ). get_or ws i 0 * n) p ∙ sym (mul_assoc (get_or ws i 0) (2 ^ (32 * i)) (2 ^ 32)) in
    omega (arith, scalar_more ws i (omega arith))

pub scalar_below : (ws : List ℕ) (i : ℕ) → ((j : ℕ) → get_or ws j 0 < 2 ^ 32) → scalar (take i ws) < 2 ^ (32 * i)
scalar_below ws zero h = lit< tt
scalar_below [] (suc i) h = pow_pos (32 * suc i)
scalar_below (w ∷ ws) (suc i) h =
    let e : 32 * suc i ≡ 32 * i + 32 = omega arith in
    let p : 2 ^ (32 * suc i) ≡ 2 ^ (32 * i) * 2 ^ 32 = ap (λ (n : ℕ). 2 ^ n) e ∙ pow-add 2 (32 * i) 32 in
    omega (arith, scalar_below ws i (λ j. h (suc j)), h 0)

-- where all words are 0, and where all above one are
pub no_words : (ws : List ℕ) → ((j : ℕ) → j < length ws → get_or ws j 0 ≡ 0) → scalar ws ≡ 0
no_words [] h = refl
no_words (w ∷ ws) h = let e = no_words ws (λ j p. h (suc j) (omega arith)) in let f = h 0 (omega arith) in omega arith

pub none_above : (ws : List ℕ) (i : ℕ) → ((j : ℕ) → i < j → j < length ws → get_or ws j 0 ≡ 0) → scalar (take (suc i) ws) ≡ scalar ws
none_above [] i h = refl
none_above (w ∷ ws) zero h = let e = no_words ws (λ j p. h (suc j) (omega arith) (omega arith)) in omega arith
none_above (w ∷ ws) (suc i) h = ap (λ (n : ℕ). n * 2 ^ 32 + w) (none_above ws i (λ j p q. h (suc j) (omega arith) (omega arith)))

shifted : (i j P : ℕ) → P ≡ 2 ^ i → 2 ^ (i + j) ≡ 2 ^ j * P
shifted i j P e = pow-add 2 i j ∙ mul_comm (2 ^ i) (2 ^ j) ∙ ap (λ (n : ℕ). 2 ^ j * n) (sym e)

-- the highest bit of a word is the highest of the number that ends with it
pub highest_more : (low a P i j : ℕ) → P ≡ 2 ^ i → low < P → 2 ^ j ≤ a → a < 2 ^ suc j → Highest (low + a * P) (Some (i + j))
highest_more low a P i j e l p q =
    let x = shifted i j P e in
    let y : 2 ^ j * P ≤ a * P = mul-le-mul_right P p in
    let z : suc a * P ≤ 2 ^ suc j * P = mul-le-mul_right P q in
    let v : 2 ^ suc (i + j) ≡ 2 ^ suc j * P = ap (λ (n : ℕ). 2 ^ n) (sym (add-suc i j)) ∙ shifted i (suc j) P e in
    (omega arith, omega arith)
