-- What hexadecimal digits are read as: bytes, words and the number that they spell. Assumes nothing.
use Rattle.std.specs.Prelude.{ℕ, zero, suc, ◌+◌, ◌-◌, ◌*◌, ◌/◌, ◌^◌, cond, List, [], ◌∷◌, length, take, drop, Some, None, Option}
use Rattle.std.specs.Option.{option_map}
use Rattle.std.specs.Int.{is_in_range}
use Rattle.text.specs.Numerals.{and_then, spelled_after}

-- the value of a hexadecimal digit: 0 to 9, a to f, A to F
abbrev pub hex_digit : ℕ → Option ℕ
hex_digit c =
    cond (is_in_range 48 57 c) (Some (c - 48))
    (cond (is_in_range 97 102 c) (Some (c - 97 + 10))
    (cond (is_in_range 65 70 c) (Some (c - 65 + 10)) None))

-- the number that hexadecimal digits spell, the most significant first
unfoldable pub hex_number : List ℕ → Option ℕ
hex_number cs = spelled_after hex_digit 16 0 cs

-- the bytes that pairs of digits spell, in reading order; none where one digit is left over
unfoldable pub bytes_of : List ℕ → Option (List ℕ)
bytes_of [] = Some []
bytes_of (c ∷ []) = None
bytes_of (c ∷ d ∷ cs) = and_then (hex_number (c ∷ d ∷ [])) (λ b. option_map (λ bs. b ∷ bs) (bytes_of cs))

-- n words, lowest first: the last eight digits, or all where there are fewer, and then the words of those before them
unfoldable pub words_in : ℕ → List ℕ → Option (List ℕ)
words_in zero cs = Some []
words_in (suc n) cs = and_then (hex_number (drop (length cs - 8) cs)) (λ w. option_map (λ ws. w ∷ ws) (words_in n (take (length cs - 8) cs)))

-- the words that digits spell, eight digits to a word from the right, so that leading zeros count
unfoldable pub words_of : List ℕ → Option (List ℕ)
words_of cs = words_in ((length cs + 7) / 8) cs

-- the number that words of 32 bits hold, the lowest first
unfoldable pub words_number : List ℕ → ℕ
words_number [] = 0
words_number (w ∷ ws) = w + 2 ^ 32 * words_number ws
