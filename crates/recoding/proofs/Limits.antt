-- Digits within their limits, tested one by one.
use Rattle.std.proofs.Common.{◌≡◌, ℕ, zero, suc, ◌+◌, ◌<◌, true, false, List, [], ◌∷◌, map, length, get_or, take, ℤ, pos, ◌≤ℤ◌, add-one, arith}
use Rattle.recoding.specs.Codings.{Within}
use Rattle.recoding.specs.Digits.{decoded}
use Rattle.inputs.specs.Signs.{signed}

-- the digit in a word, with its sign, is from lo to hi
abbrev pub One : (lo hi word : ℤ) → Type 0
One lo hi word = (lo ≤ℤ signed (decoded word).sign (decoded word).value) × (signed (decoded word).sign (decoded word).value ≤ℤ hi)

-- one more is within
pub within_more : (lo hi : ℤ) (ws : List ℤ) (i : ℕ) → i < length ws → Within lo hi (map decoded (take i ws)) → One lo hi (get_or ws i (pos 0)) → Within lo hi (map decoded (take (i + 1) ws))
within_more lo hi ws i h p q = rw add-one (go ws i h p q)
  where
    go : (ws : List ℤ) (i : ℕ) → i < length ws → Within lo hi (map decoded (take i ws)) → One lo hi (get_or ws i (pos 0)) → Within lo hi (map decoded (take (suc i) ws))
    go [] i h p q = elim h [ ]
    go (w ∷ ws) zero h p q = (q.0, q.1, tt)
    go (w ∷ ws) (suc i) h p q = (p.0, p.1, go ws i (omega arith) p.2 q)

-- each of them is
pub within_at : (lo hi : ℤ) (ws : List ℤ) (i : ℕ) → i < length ws → Within lo hi (map decoded ws) → One lo hi (get_or ws i (pos 0))
within_at lo hi [] i h p = elim h [ ]
within_at lo hi (w ∷ ws) zero h p = (p.0, p.1)
within_at lo hi (w ∷ ws) (suc i) h p = within_at lo hi ws i (omega arith) p.2

pub not_true : {P : Type 0} → false ≡ true → P
not_true e = absurd (let z : ◌≡◌ {A = ℕ} 0 1 = cc in omega arith)
