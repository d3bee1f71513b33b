-- A text of hexadecimal digits of which the first i have been read. Assumes nothing.
use Rattle.std.proofs.Common.{◌≡◌, ℕ, ◌+◌, ◌*◌, ◌^◌, ◌<◌, ◌≤◌, List, length, get_or, drop, Some, None, sym, refl, ap, ◌∙◌, pow-suc, add-one, arith}
use native.Mathlib.Nat.{pow-le-pow_right}
use Rattle.std.proofs.lemmas.Bool.Decides.{nat_tests}
use Rattle.text.proofs.Spelling.{spelled_more, spelled_none, spelled_all}
use Rattle.text.specs.Hex.{hex_digit, hex_number}
use Rattle.text.specs.Numerals.{spelled_after}

hex_digit_small : (c d : ℕ) → hex_digit c ≡ Some d → d < 16
hex_digit_small c d e = grind (arith, nat_tests)

-- the digits so far spell n, and the others decide
pub record Reading (xs : List ℕ) (i n : ℕ) : Type 0 where
  pub small : n < 16 ^ i
  pub spelled : spelled_after hex_digit 16 n (drop i xs) ≡ hex_number xs

pub reading_none : (xs : List ℕ) → Reading xs 0 0
unfolding hex_number
reading_none xs = record { small = omega arith; spelled = refl }

module _ (xs : List ℕ) (i n : ℕ) (p : Reading xs i n) where
  pub no_digit : i < length xs → hex_digit (get_or xs i 0) ≡ None → None ≡ hex_number xs
  unfolding hex_number
  no_digit h e = sym (spelled_none hex_digit 16 n xs i h e) ∙ p.spelled

  pub all_read : length xs ≤ i → Some n ≡ hex_number xs
  unfolding hex_number
  all_read h = sym (spelled_all hex_digit 16 n xs i h) ∙ p.spelled

  module _ (d : ℕ) (h : i < length xs) (e : hex_digit (get_or xs i 0) ≡ Some d) where
    next_small : 16 * n + d < 16 ^ (i + 1)
    next_small =
        let one_more : 16 ^ (i + 1) ≡ 16 ^ i * 16 = ap (λ k. 16 ^ k) (add-one i) ∙ pow-suc 16 i in
        omega (arith, hex_digit_small (get_or xs i 0) d e, p.small)

    pub reading_more : Reading xs (i + 1) (16 * n + d)
    unfolding hex_number
    reading_more = record { small = next_small; spelled = sym (spelled_more hex_digit 16 n xs i d h e) ∙ p.spelled }

    pub next_fits : length xs ≤ 8 → 16 * n + d < 2 ^ 32
    next_fits short = omega (arith, next_small, pow-le-pow_right {n = 16} (omega arith) {i = i + 1} {j = 8} (omega arith))
