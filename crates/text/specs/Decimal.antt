-- What a decimal text is read as. Assumes nothing.
use Rattle.std.specs.Prelude.{ℕ, ◌-◌, ◌^◌, cond, List, [], ◌∷◌, Some, None, Option, nat_lt}
use Rattle.std.specs.Char.{is_ascii_digit}
use Rattle.text.specs.Numerals.{and_then, spelled_after}

-- the value of a decimal digit
abbrev pub decimal_digit : ℕ → Option ℕ
decimal_digit c = cond (is_ascii_digit c) (Some (c - 48)) None

-- n, if 32 bits hold it
abbrev pub fits32 : ℕ → Option ℕ
fits32 n = cond (nat_lt n (2 ^ 32)) (Some n) None

-- the number that one or more decimal digits spell, if 32 bits hold it
unfoldable pub decimal_of : List ℕ → Option ℕ
decimal_of [] = None
decimal_of (c ∷ cs) = and_then (spelled_after decimal_digit 10 0 (c ∷ cs)) fits32
