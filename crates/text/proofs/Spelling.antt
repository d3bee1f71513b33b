-- The number that digits spell, read from the left. Assumes nothing.
use Rattle.std.proofs.Common.{◌≡◌, ℕ, ◌+◌, ◌*◌, ◌<◌, ◌≤◌, List, length, get_or, drop, Some, None, Option, ap, ◌∙◌}
use Rattle.std.proofs.lemmas.List.{drop_more, drop_all}
use Rattle.text.specs.Numerals.{and_then, spelled_after}

module _ (digit : ℕ → Option ℕ) (base n : ℕ) (xs : List ℕ) (i : ℕ) where
  spelled_next : (o : Option ℕ) → i < length xs → digit (get_or xs i 0) ≡ o → spelled_after digit base n (drop i xs) ≡ and_then o (λ d. spelled_after digit base (base * n + d) (drop (i + 1) xs))
  unfolding spelled_after
  spelled_next o h e =
      ap (spelled_after digit base n) (drop_more xs i 0 h) ∙ ap (λ o. and_then o (λ d. spelled_after digit base (base * n + d) (drop (i + 1) xs))) e

  pub spelled_more : (d : ℕ) → i < length xs → digit (get_or xs i 0) ≡ Some d → spelled_after digit base n (drop i xs) ≡ spelled_after digit base (base * n + d) (drop (i + 1) xs)
  spelled_more d h e = spelled_next (Some d) h e

  pub spelled_none : i < length xs → digit (get_or xs i 0) ≡ None → spelled_after digit base n (drop i xs) ≡ None
  spelled_none h e = spelled_next None h e

  pub spelled_all : length xs ≤ i → spelled_after digit base n (drop i xs) ≡ Some n
  unfolding spelled_after
  spelled_all h = ap (spelled_after digit base n) (drop_all i xs h)
