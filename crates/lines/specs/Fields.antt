-- Fields of a line. Assumes nothing.
use Rattle.std.specs.Prelude.{ℕ, cond, List, [], ◌∷◌, Some, None, Option, ◌==◌}
use Rattle.std.specs.Borrow.{Bor}
use Rattle.text.specs.Decimal.{decimal_of}
use Rattle.text.specs.Fields.{before, behind}
use Rattle.text.specs.Hex.{bytes_of, words_of}
use Rattle.text.specs.Numerals.{and_then}

-- a decimal number and a space, and what comes behind it
pub record NumberThen : Type 0 where
  pub number : ℕ
  pub rest : List ℕ

-- such a number at the beginning of a text, if there is one
abbrev pub number_then : List ℕ → Option NumberThen
number_then text = and_then (behind 32 text) (λ rest. and_then (decimal_of (before 32 text)) (λ n. Some (record { number = n; rest = rest })))

-- a number and a rest that a function returned
abbrev pub paired : ℕ × Bor (List ℕ) → NumberThen
paired p = record { number = p.0; rest = p.1.now }

-- a key is one or more hexadecimal digits
abbrev pub key_text : List ℕ → Option (List ℕ)
key_text [] = None
key_text (c ∷ cs) = words_of (c ∷ cs)

-- random bytes are one or more pairs of hexadecimal digits, or a hyphen for none
abbrev pub draws_text : List ℕ → Option (List ℕ)
draws_text [] = None
draws_text (c ∷ []) = cond (c == 45) (Some []) (bytes_of (c ∷ []))
draws_text (c ∷ d ∷ cs) = bytes_of (c ∷ d ∷ cs)
