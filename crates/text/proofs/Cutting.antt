-- What stands before and behind the first c of a text, by its place. Assumes nothing.
use Rattle.std.proofs.Common.{◌≡◌, ℕ, suc, ◌+◌, ◌-◌, ◌<◌, ◌≤◌, Bool, true, false, cond, eqb, not, List, [], ◌∷◌, length, take, drop, Some, None, sym, refl, ap, ◌∙◌, arith, ⊎_elim}
use Rattle.std.specs.List.{position, position_or_len}
use Rattle.std.proofs.lemmas.List.{take_all, take_rest}
use Rattle.std.proofs.lemmas.Bool.{cases_lt, cond-true, cond-false, lt-ltb, le-ltb}
use Rattle.text.specs.Fields.{before, behind}

module _ (c : ℕ) where
  -- where the first c stands, or the length
  abbrev place : List ℕ → ℕ
  place = position_or_len (λ x. eqb x c)

  front : (xs : List ℕ) → take (place xs) xs ≡ before c xs
  unfolding before
  front [] = refl
  front (x ∷ xs) = by (eqb x c) (front xs)
    where
      by : (t : Bool) → take (place xs) xs ≡ before c xs → take (cond (not t) (1 + place xs) 0) (x ∷ xs) ≡ cond t [] (x ∷ before c xs)
      by true further = refl
      by false further = let next : 1 + place xs ≡ suc (place xs) = omega arith in ap (λ n. take n (x ∷ xs)) next ∙ ap (λ l. x ∷ l) further

  rest : (xs : List ℕ) → place xs < length xs → Some (drop (place xs + 1) xs) ≡ behind c xs
  unfolding behind
  rest [] h = absurd (omega arith)
  rest (x ∷ xs) h = by (eqb x c) h (rest xs)
    where
      by : (t : Bool) → cond (not t) (1 + place xs) 0 < length (x ∷ xs) → (place xs < length xs → Some (drop (place xs + 1) xs) ≡ behind c xs) → Some (drop (cond (not t) (1 + place xs) 0 + 1) (x ∷ xs)) ≡ cond t (Some xs) (behind c xs)
      by true h further = refl
      by false h further = let next : 1 + place xs + 1 ≡ suc (place xs + 1) = omega arith in ap (λ n. Some (drop n (x ∷ xs))) next ∙ further (omega arith)

  none : (xs : List ℕ) → length xs ≤ place xs → None ≡ behind c xs
  unfolding behind
  none [] h = refl
  none (x ∷ xs) h = by (eqb x c) h (none xs)
    where
      by : (t : Bool) → length (x ∷ xs) ≤ cond (not t) (1 + place xs) 0 → (length xs ≤ place xs → None ≡ behind c xs) → None ≡ cond t (Some xs) (behind c xs)
      by true h further = absurd (omega arith)
      by false h further = further (omega arith)

  module _ (xs : List ℕ) where
    found : (i : ℕ) → position (λ x. eqb x c) xs ≡ Some i → (place xs < length xs) × (place xs ≡ i)
    found i e =
        ⊎_elim
        (λ h. let same : Some (place xs) ≡ Some i = sym (cond-true _ _ _ (lt-ltb _ _ h)) ∙ e in (h, cc))
        (λ h. let other : None ≡ Some i = sym (cond-false _ _ _ (le-ltb _ _ h)) ∙ e in cc)
        (cases_lt (place xs) (length xs))

    not_found : position (λ x. eqb x c) xs ≡ None → length xs ≤ place xs
    not_found e =
        ⊎_elim
        (λ h. let other : Some (place xs) ≡ None = sym (cond-true _ _ _ (lt-ltb _ _ h)) ∙ e in cc)
        (λ h. h)
        (cases_lt (place xs) (length xs))

    -- the parts, by what a search for c answers
    pub cut_front : (i : ℕ) → position (λ x. eqb x c) xs ≡ Some i → take i xs ≡ before c xs
    cut_front i e = ap (λ n. take n xs) (sym (found i e).1) ∙ front xs

    pub cut_rest : (i : ℕ) → position (λ x. eqb x c) xs ≡ Some i → Some (take (length xs - (i + 1)) (drop (i + 1) xs)) ≡ behind c xs
    cut_rest i e = ap Some (take_rest xs (i + 1)) ∙ ap (λ n. Some (drop (n + 1) xs)) (sym (found i e).1) ∙ rest xs (found i e).0

    pub uncut_front : position (λ x. eqb x c) xs ≡ None → xs ≡ before c xs
    uncut_front e = sym (take_all (place xs) xs (not_found e)) ∙ front xs

    pub uncut_rest : position (λ x. eqb x c) xs ≡ None → None ≡ behind c xs
    uncut_rest e = none xs (not_found e)

-- what a cut needs of the search
pub ruleset cutting = (cut_front, cut_rest, uncut_front, uncut_rest)
