-- The number that a text of digits spells in a base. Assumes nothing.
use Rattle.std.specs.Prelude.{ℕ, ◌+◌, ◌*◌, List, [], ◌∷◌, Some, None, Option}

-- f of the value, if there is one
abbrev pub and_then : {X Y : Type 0} → Option X → (X → Option Y) → Option Y
and_then None f = None
and_then (Some x) f = f x

-- the number that n and then the digits of a text spell; none where a byte is no digit
unfoldable pub spelled_after : (ℕ → Option ℕ) → ℕ → ℕ → List ℕ → Option ℕ
spelled_after digit base n [] = Some n
spelled_after digit base n (c ∷ cs) = and_then (digit c) (λ d. spelled_after digit base (base * n + d) cs)
