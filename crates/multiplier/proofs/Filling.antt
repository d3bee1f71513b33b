-- Cells that rise by a step, and what is read in them. Assumes nothing.
use Rattle.std.proofs.Common.{◌≡◌, ℕ, zero, suc, ◌<◌, ◌⊎◌, List, [], ◌∷◌, ◌++◌, length, get_or, set, take, sym, refl, ap, ◌∙◌, add-one, inl, inr, ⊎_elim, ap₂, arith}
use Rattle.std.proofs.lemmas.List.{get_or_append_left, get_or_at, length_push, take_more_set}
use Rattle.groups.specs.Groups.{Group, added}
use Rattle.steps.specs.Operations.{additions}
use Rattle.multiplier.specs.Tables.{risen}

-- the last one, or one before it
apart : (j n : ℕ) → j < suc n → (j ≡ n) ⊎ (j < n)
apart zero zero h = inl refl
apart zero (suc n) h = inr (omega arith)
apart (suc j) zero h = absurd (omega arith)
apart (suc j) (suc n) h = ⊎_elim (λ e. inl (ap suc e)) (λ l. inr (omega (arith, l))) (apart j n (omega arith))

module _ {E : Type 0} (g : Group E) where
  pub risen_long : (n : ℕ) (step value : E) → length (risen g n step value) ≡ n
  risen_long zero step value = refl
  risen_long (suc n) step value = omega (arith, length_push (risen g n step value) (additions g (suc n) step value), risen_long n step value)

  -- each is so many additions from the value
  pub risen_at : (n j : ℕ) (step value d : E) → j < n → get_or (risen g n step value) j d ≡ additions g (suc j) step value
  risen_at zero j step value d lt = absurd (omega arith)
  risen_at (suc n) j step value d lt = ⊎_elim last (λ h. before h (risen_at n j step value d h)) (apart j n lt)
    where
      rest : List E
      rest = risen g n step value

      last : j ≡ n → get_or (risen g (suc n) step value) j d ≡ additions g (suc j) step value
      last e = get_or_at rest (additions g (suc n) step value) [] d j (risen_long n step value ∙ sym e) ∙ ap (λ (i : ℕ). additions g (suc i) step value) (sym e)

      before : j < n → get_or rest j d ≡ additions g (suc j) step value → get_or (risen g (suc n) step value) j d ≡ additions g (suc j) step value
      before h all = get_or_append_left rest _ d j (omega (arith, h, risen_long n step value)) ∙ all

  -- one cell more
  pub risen_more : (cells : List E) (i : ℕ) (step value x y : E) → i < length cells → take i cells ≡ risen g i step value → x ≡ additions g i step value → y ≡ added g x step → take (suc i) (set cells i y) ≡ risen g (suc i) step value
  risen_more cells i step value x y lt done sum new =
      ap (λ (n : ℕ). take n (set cells i y)) (sym (add-one i)) ∙ take_more_set cells i y lt ∙ ap₂ (λ (l : List E) z. l ++ z ∷ []) done (new ∙ ap (λ z. added g z step) sum)
