-- Multiples of an element by the group alone, and the laws that they keep. Assumes nothing.
use Rattle.std.specs.Prelude.{◌≡◌, ℕ, zero, suc, ◌+◌, ◌*◌, true, ℤ, pos, negsuc, ◌+ℤ◌, ◌*ℤ◌, neg_ℤ}
use Rattle.groups.specs.Groups.{Group}

-- 0 times a is neutral, and n + 1 times a is n times a plus a
abbrev pub times : {E : Type 0} → Group E → ℕ → E → E
times g zero a = g.neutral
times g (suc n) a = g.sum (times g n a) a

-- an integer times a: n times a, and for -n the negative of n times a
abbrev pub multiple : {E : Type 0} → Group E → ℤ → E → E
multiple g (pos n) a = times g n a
multiple g (negsuc n) a = g.negative (times g (suc n) a)

-- for members and by codes: multiples are members, factors add up and multiply, subtract and change sign, and members of equal code have multiples of equal code
pub record MultipleLaws {E : Type 0} (g : Group E) : Type 0 where
  pub times_in : (a : E) → g.member a ≡ true → (n : ℕ) → g.member (times g n a) ≡ true
  pub times_sum : (a : E) → g.member a ≡ true → (m n : ℕ) → g.code (g.sum (times g m a) (times g n a)) ≡ g.code (times g (m + n) a)
  pub times_product : (a : E) → g.member a ≡ true → (m n : ℕ) → g.code (times g m (times g n a)) ≡ g.code (times g (m * n) a)
  pub times_difference : (a : E) → g.member a ≡ true → (m n : ℕ) → g.code (g.sum (times g (m + n) a) (g.negative (times g n a))) ≡ g.code (times g m a)
  pub times_negative : (a : E) → g.member a ≡ true → (n : ℕ) → g.code (g.negative (times g n a)) ≡ g.code (times g n (g.negative a))
  pub times_same : (a b : E) → g.member a ≡ true → g.member b ≡ true → g.code a ≡ g.code b → (n : ℕ) → g.code (times g n a) ≡ g.code (times g n b)
  pub multiple_in : (a : E) → g.member a ≡ true → (z : ℤ) → g.member (multiple g z a) ≡ true
  pub multiple_sum : (a : E) → g.member a ≡ true → (y z : ℤ) → g.code (g.sum (multiple g y a) (multiple g z a)) ≡ g.code (multiple g (y +ℤ z) a)
  pub multiple_product : (a : E) → g.member a ≡ true → (y z : ℤ) → g.code (multiple g y (multiple g z a)) ≡ g.code (multiple g (y *ℤ z) a)
  pub multiple_negative : (a : E) → g.member a ≡ true → (z : ℤ) → g.code (g.negative (multiple g z a)) ≡ g.code (multiple g (neg_ℤ z) a)
  pub multiple_double : (a : E) → g.member a ≡ true → (z : ℤ) → g.code (g.double (multiple g z a)) ≡ g.code (multiple g (z +ℤ z) a)
  pub multiple_same : (a b : E) → g.member a ≡ true → g.member b ≡ true → g.code a ≡ g.code b → (z : ℤ) → g.code (multiple g z a) ≡ g.code (multiple g z b)
