-- The windows of a correction: k bits each, lowest first. Assumes nothing.
use Rattle.std.specs.Prelude.{ℕ, zero, suc, ◌+◌, ◌-◌, ◌/◌, ◌%◌, ◌^◌, cond, List, [], ◌∷◌, map, ℤ, pos, negsuc, ◌-ℤ◌, neg_ℤ, nat_lt}

-- how many windows a correction of b bits has
abbrev pub correction_count : (k b : ℕ) → ℕ
correction_count k b = b / k + 1

-- a window that comes to w: one above 2 ^ (k - 1) loses 2 ^ k
abbrev pub lessened : (k w : ℕ) → ℤ
lessened k w = cond (nat_lt (2 ^ (k - 1)) w) (pos w -ℤ pos (2 ^ k)) (pos w)

-- and then the next window gains 1
abbrev pub gain : (k w : ℕ) → ℕ
gain k w = cond (nat_lt (2 ^ (k - 1)) w) 1 0

-- the n lowest windows of x, of which the first gains so much
abbrev pub low_windows : (k n x gained : ℕ) → List ℤ
low_windows k zero x gained = []
low_windows k (suc n) x gained = lessened k (x % 2 ^ k + gained) ∷ low_windows k n (x / 2 ^ k) (gain k (x % 2 ^ k + gained))

-- the windows of the correction c: those of its magnitude, all signs turned where it is negative
abbrev pub correction_windows : (k b : ℕ) → ℤ → List ℤ
correction_windows k b (pos x) = low_windows k (correction_count k b) x 0
correction_windows k b (negsuc x) = map neg_ℤ (low_windows k (correction_count k b) (suc x) 0)
