-- Congruence modulo n of natural numbers, as a small algebra. Assumes nothing.
-- There is no subtraction: n - 1 stands for -1, so that a law is an equation of sums and products, which omega multiplies out.
use Rattle.std.specs.Prelude.{◌≡◌, ℕ, ◌+◌, ◌-◌, ◌*◌, ◌/◌, ◌%◌, ◌<◌, ◌≤◌, refl}
use Rattle.std.proofs.Common.{ap, sym, subst, ◌∙◌, mod-lt, mod-eq_of_lt, arith}
use Rattle.std.proofs.Math.Nat.{mod-mod, add-mod, add-mul-mod_self_left, div-add-mod}
use Rattle.groups.specs.Residues.{minus}

infixr 30 ◌⟫◌
infixl 50 ◌⊕◌
infixl 60 ◌⊗◌
-- a ≡ b (mod n)
pub record Same (n a b : ℕ) : Type 0 where
  pub rests : a % n ≡ b % n

pub it : {n a : ℕ} → Same n a a
it = record { rests = refl }

pub back : {n a b : ℕ} → Same n a b → Same n b a
back p = record { rests = sym p.rests }

pub ◌⟫◌ : {n a b c : ℕ} → Same n a b → Same n b c → Same n a c
p ⟫ q = record { rests = p.rests ∙ q.rests }

pub equal : {n a b : ℕ} → a ≡ b → Same n a b
equal {n} e = record { rests = ap (λ k. k % n) e }

-- numbers that multiples of n make equal
pub multiples : {n a b : ℕ} (k l : ℕ) → a + n * k ≡ b + n * l → Same n a b
multiples {n} {a} {b} k l e =
    record { rests = sym (add-mul-mod_self_left a n k) ∙ ap (λ i. i % n) e ∙ add-mul-mod_self_left b n l }

pub rest : {n : ℕ} (a : ℕ) → Same n (a % n) a
rest {n} a = record { rests = mod-mod a n }

pub below : {n a b : ℕ} → a < n → b < n → Same n a b → a ≡ b
below p q e = sym (mod-eq_of_lt p) ∙ e.rests ∙ mod-eq_of_lt q

pub ◌⊕◌ : {n a b c d : ℕ} → Same n a b → Same n c d → Same n (a + c) (b + d)
◌⊕◌ {n} {a} {b} {c} {d} p q =
    record { rests = add-mod a c n ∙ ap (λ k. (k + c % n) % n) p.rests ∙ ap (λ k. (b % n + k) % n) q.rests ∙ sym (add-mod b d n) }

product_rests : (n a c : ℕ) → Same n ((a % n) * (c % n)) (a * c)
product_rests n a c =
    let r : ℕ = a % n in
    let s : ℕ = c % n in
    let i : ℕ = a / n in
    let j : ℕ = c / n in
    let p : n * i + r ≡ a = div-add-mod a n in
    let q : n * j + s ≡ c = div-add-mod c n in
    multiples (i * (n * j + s) + r * j) 0 (omega arith) ⟫ equal (ap (λ k. k * (n * j + s)) p ∙ ap (λ k. a * k) q)

pub ◌⊗◌ : {n a b c d : ℕ} → Same n a b → Same n c d → Same n (a * c) (b * d)
◌⊗◌ {n} {a} {b} {c} {d} p q =
    back (product_rests n a c) ⟫ equal (ap (λ k. k * (c % n)) p.rests ∙ ap (λ k. (b % n) * k) q.rests) ⟫ product_rests n b d

pub rest_in : {n : ℕ} → 0 < n → (a : ℕ) → a % n < n
rest_in h a = mod-lt a h

pub one_rest : {n : ℕ} → 2 ≤ n → 1 % n ≡ 1
one_rest {n} two = let h : 1 < n = omega arith in mod-eq_of_lt h

-- -1 modulo n
pub neg1 : ℕ → ℕ
neg1 n = n - 1

pub neg1_is : {n : ℕ} → 0 < n → n ≡ neg1 n + 1
unfolding neg1
neg1_is h = omega arith

-- what holds modulo m + 1 with a variable m, where omega multiplies out, holds modulo n with -1
pub at : {n a b : ℕ} → 0 < n → Same (neg1 n + 1) a b → Same n a b
at {n} {a} {b} h e = subst (λ k. Same k a b) (sym (neg1_is h)) e

-- -a is n - a
pub negative : {n a : ℕ} → a < n → Same n (n - a) (neg1 n * a)
negative {n} {a} h = let p : 0 < n = omega arith in multiples a 1 (omega (arith, ap (λ k. k * a) (neg1_is p)))

-- (-a) (-b) = a b
pub signs : {n : ℕ} → 0 < n → (a b : ℕ) → Same n ((neg1 n * a) * (neg1 n * b)) (a * b)
signs {n} h a b = let m : ℕ = neg1 n in at h (multiples (a * b) (m * a * b) (omega arith))

-- the difference is below n, and stands for a + (-1) b
pub minus_in : {n : ℕ} → 0 < n → (a b : ℕ) → minus n a b < n
unfolding minus
minus_in h a b = rest_in h _

pub minus_is : {n : ℕ} → 0 < n → (a b : ℕ) → Same n (minus n a b) (a + neg1 n * b)
unfolding minus
minus_is h a b = rest _ ⟫ rest a ⊕ (negative (rest_in h b) ⟫ it ⊗ rest b)

-- -a + a = 0
pub opposite : {n : ℕ} → 0 < n → (a : ℕ) → Same n (neg1 n * a + a) 0
opposite {n} h a = at h (multiples 0 a (omega arith))
