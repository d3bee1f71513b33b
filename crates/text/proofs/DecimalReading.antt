-- A decimal text of which the first i digits have been read. Assumes nothing.
use Rattle.std.proofs.Common.{◌≡◌, ℕ, ◌+◌, ◌*◌, ◌^◌, ◌<◌, ◌≤◌, List, [], ◌∷◌, length, get_or, drop, Some, None, Option, sym, refl, ap, ◌∙◌, arith}
use Rattle.std.proofs.lemmas.Bool.{cond-true, cond-false, lt-ltb, le-ltb}
use Rattle.text.proofs.Spelling.{spelled_more, spelled_none, spelled_all}
use Rattle.text.specs.Decimal.{decimal_digit, decimal_of, fits32}
use Rattle.text.specs.Numerals.{and_then, spelled_after}

-- more digits do not make a number fit that is too large
too_large : (n : ℕ) (cs : List ℕ) → 2 ^ 32 ≤ n → and_then (spelled_after decimal_digit 10 n cs) fits32 ≡ None
unfolding spelled_after
too_large n [] h = cond-false _ _ _ (le-ltb n (2 ^ 32) h)
too_large n (c ∷ cs) h =
    elim (decimal_digit c) as (λ o. and_then (and_then o (λ d. spelled_after decimal_digit 10 (10 * n + d) cs)) fits32 ≡ None) [ None ↦ refl | Some d ↦ too_large (10 * n + d) cs (omega arith) ]

pub nothing_read : (xs : List ℕ) → length xs ≡ 0 → None ≡ decimal_of xs
unfolding decimal_of
nothing_read [] e = refl
nothing_read (c ∷ cs) e = absurd (omega arith)

-- the digits so far spell n, which fits, and the others decide
pub record Reading (xs : List ℕ) (i n : ℕ) : Type 0 where
  pub fits : n < 2 ^ 32
  pub spelled : spelled_after decimal_digit 10 n (drop i xs) ≡ spelled_after decimal_digit 10 0 xs

module _ (xs : List ℕ) (i n : ℕ) (p : Reading xs i n) where
  from_rest : (o : Option ℕ) → 0 < length xs → spelled_after decimal_digit 10 n (drop i xs) ≡ o → and_then o fits32 ≡ decimal_of xs
  unfolding decimal_of
  from_rest o h e = ap (λ o. and_then o fits32) (sym e ∙ p.spelled) ∙ some xs h
    where
      some : (xs : List ℕ) → 0 < length xs → and_then (spelled_after decimal_digit 10 0 xs) fits32 ≡ decimal_of xs
      some [] h = absurd (omega arith)
      some (c ∷ cs) h = refl

  pub reading_more : (d m : ℕ) → i < length xs → decimal_digit (get_or xs i 0) ≡ Some d → m ≡ n * 10 + d → m < 2 ^ 32 → Reading xs (i + 1) m
  reading_more d m h e is small =
      let next : m ≡ 10 * n + d = omega arith in
      record { fits = small; spelled = ap (λ m. spelled_after decimal_digit 10 m (drop (i + 1) xs)) next ∙ sym (spelled_more decimal_digit 10 n xs i d h e) ∙ p.spelled }

  pub no_digit : i < length xs → decimal_digit (get_or xs i 0) ≡ None → None ≡ decimal_of xs
  no_digit h e = from_rest None (omega arith) (spelled_none decimal_digit 10 n xs i h e)

  pub outgrown : (d : ℕ) → i < length xs → decimal_digit (get_or xs i 0) ≡ Some d → 2 ^ 32 ≤ n * 10 + d → None ≡ decimal_of xs
  outgrown d h e large = sym (too_large (10 * n + d) (drop (i + 1) xs) (omega arith)) ∙ from_rest _ (omega arith) (spelled_more decimal_digit 10 n xs i d h e)

  pub all_read : 0 < length xs → length xs ≤ i → Some n ≡ decimal_of xs
  all_read some h = sym (cond-true _ _ _ (lt-ltb n (2 ^ 32) p.fits)) ∙ from_rest (Some n) some (spelled_all decimal_digit 10 n xs i h)
