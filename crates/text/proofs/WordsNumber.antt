-- The words of a text of hexadecimal digits hold the number that the digits spell. Assumes nothing.
use Rattle.std.proofs.Common.{◌≡◌, ℕ, zero, suc, ◌+◌, ◌-◌, ◌*◌, ◌/◌, ◌^◌, List, [], ◌∷◌, ◌++◌, length, take, drop, Some, None, Option, sym, refl, ap, ◌∙◌, ⊎_elim, add-zero, add_assoc, mul_assoc, mul_comm, zero-mul, mul-one, mul-add, arith}
use native.Mathlib.Nat.{pow-zero, pow-succ'}
use Rattle.std.specs.Option.{option_map}
use Rattle.std.proofs.lemmas.List.{take-append-drop, length-take-le, length-drop, nil_from_length}
use Rattle.std.proofs.lemmas.Bool.{cases_lt}
use Rattle.text.specs.Hex.{hex_digit, hex_number, words_in, words_of, words_number}
use Rattle.text.specs.Numerals.{and_then, spelled_after}

module _ (digit : ℕ → Option ℕ) (base : ℕ) where
  spelled_append : (n : ℕ) (xs ys : List ℕ) → spelled_after digit base n (xs ++ ys) ≡ and_then (spelled_after digit base n xs) (λ a. spelled_after digit base a ys)
  unfolding spelled_after
  spelled_append n [] ys = refl
  spelled_append n (c ∷ xs) ys =
      elim (digit c) as (λ o. and_then o (λ d. spelled_after digit base (base * n + d) (xs ++ ys)) ≡ and_then (and_then o (λ d. spelled_after digit base (base * n + d) xs)) (λ a. spelled_after digit base a ys)) [ None ↦ refl | Some d ↦ spelled_append (base * n + d) xs ys ]

  -- what stands before some digits counts as often as their places say
  spelled_before : (a n : ℕ) (xs : List ℕ) → spelled_after digit base (a + n) xs ≡ option_map (λ b. a * base ^ length xs + b) (spelled_after digit base n xs)
  unfolding spelled_after
  spelled_before a n [] = ap Some (simp (pow-zero, mul-one))
  spelled_before a n (c ∷ xs) =
      elim (digit c) as (λ o. and_then o (λ d. spelled_after digit base (base * (a + n) + d) xs) ≡ option_map (λ b. a * base ^ suc (length xs) + b) (and_then o (λ d. spelled_after digit base (base * n + d) xs))) [
        | None ↦ refl
        | Some d ↦
            let split : base * (a + n) + d ≡ base * a + (base * n + d) = ap (λ m. m + d) (mul-add base a n) ∙ add_assoc (base * a) (base * n) d in
            let weight : base * a * base ^ length xs ≡ a * base ^ suc (length xs) = ap (λ m. m * base ^ length xs) (mul_comm base a) ∙ mul_assoc a base (base ^ length xs) ∙ ap (λ m. a * m) (sym (pow-succ' base (length xs))) in
            ap (λ m. spelled_after digit base m xs) split ∙ spelled_before (base * a) (base * n + d) xs ∙ ap (λ m. option_map (λ b. m + b) (spelled_after digit base (base * n + d) xs)) weight
      ]

-- the number of one more word below
number_below : (o : Option ℕ) (p : Option (List ℕ)) → option_map words_number (and_then o (λ w. option_map (λ ws. w ∷ ws) p)) ≡ and_then o (λ w. option_map (λ m. w + 2 ^ 32 * m) (option_map words_number p))
unfolding words_number
number_below None p = refl
number_below (Some w) None = refl
number_below (Some w) (Some ws) = refl

-- either part may be read first
either_first : (k : ℕ) (o p : Option ℕ) → ((a : ℕ) → p ≡ Some a → 2 ^ 32 * a ≡ a * k) → and_then o (λ w. option_map (λ m. w + 2 ^ 32 * m) p) ≡ and_then p (λ a. option_map (λ b. a * k + b) o)
either_first k None None same = refl
either_first k None (Some a) same = refl
either_first k (Some w) None same = refl
either_first k (Some w) (Some a) same = ap Some (omega (arith, same a refl))

module _ (cs front last : List ℕ) (f : front ≡ take (length cs - 8) cs) (l : last ≡ drop (length cs - 8) cs) where
  -- a full last word has eight digits, and before any other there are none
  weight : (a : ℕ) → hex_number front ≡ Some a → 2 ^ 32 * a ≡ a * 16 ^ length last
  unfolding hex_number spelled_after
  weight a e =
      let long = ap length l ∙ length-drop (length cs - 8) cs in
      let short = ap length f ∙ length-take-le (length cs - 8) cs (omega arith) in
      ⊎_elim
      (λ few.
      let none : front ≡ [] = nil_from_length front (omega arith) in
      let nought : Some 0 ≡ Some a = ap hex_number (sym none) ∙ e in
      let is : 0 ≡ a = cc in
      ap (λ m. 2 ^ 32 * m) (sym is) ∙ sym (zero-mul (16 ^ length last)) ∙ ap (λ m. m * 16 ^ length last) is)
      (λ full.
      let eight : length last ≡ 8 = omega arith in
      mul_comm (2 ^ 32) a ∙ ap (λ k. a * 16 ^ k) (sym eight))
      (cases_lt (length cs) 8)

  split_number : hex_number cs ≡ and_then (hex_number front) (λ a. option_map (λ b. a * 16 ^ length last + b) (hex_number last))
  unfolding hex_number
  split_number =
      let joined : cs ≡ front ++ last = sym (take-append-drop (length cs - 8) cs) ∙ (λ i. sym f i ++ sym l i) in
      let shifted : (o : Option ℕ) → and_then o (λ a. spelled_after hex_digit 16 a last) ≡ and_then o (λ a. option_map (λ b. a * 16 ^ length last + b) (hex_number last)) = λ o. elim o as (λ o. and_then o (λ a. spelled_after hex_digit 16 a last) ≡ and_then o (λ a. option_map (λ b. a * 16 ^ length last + b) (hex_number last))) [ None ↦ refl | Some a ↦ ap (λ m. spelled_after hex_digit 16 m last) (sym (add-zero a)) ∙ spelled_before hex_digit 16 a 0 last ] in
      ap hex_number joined ∙ spelled_append hex_digit 16 0 front last ∙ shifted (hex_number front)

number_in : (n : ℕ) (cs : List ℕ) → n ≡ (length cs + 7) / 8 → option_map words_number (words_in n cs) ≡ hex_number cs
unfolding words_in words_number hex_number spelled_after
number_in zero [] e = refl
number_in zero (c ∷ cs) e = absurd (omega arith)
number_in (suc n) cs e =
    let front = take (length cs - 8) cs in
    let last = drop (length cs - 8) cs in
    let short = length-take-le (length cs - 8) cs (omega arith) in
    let others : option_map words_number (words_in n front) ≡ hex_number front = number_in n front (omega arith) in
    number_below (hex_number last) (words_in n front) ∙ ap (λ p. and_then (hex_number last) (λ w. option_map (λ m. w + 2 ^ 32 * m) p)) others ∙ either_first (16 ^ length last) (hex_number last) (hex_number front) (weight cs front last refl refl) ∙ sym (split_number cs front last refl refl)

pub words_number_lem : (cs : List ℕ) → option_map words_number (words_of cs) ≡ hex_number cs
unfolding words_of
words_number_lem cs = number_in ((length cs + 7) / 8) cs refl
