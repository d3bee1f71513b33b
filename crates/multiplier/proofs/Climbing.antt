-- One round more of the climb by the bits of a number. Assumes nothing.
use Rattle.std.proofs.Common.{◌≡◌, ℕ, suc, ◌/◌, ◌%◌, ◌^◌, sym, ap, ◌∙◌, add-one}
use Rattle.std.proofs.lemmas.Nat.{shr-shr}
use Rattle.groups.specs.Groups.{Group, added, doubled}
use Rattle.steps.specs.Operations.{chosen, climbed}

pub climbed_more : {E : Type 0} (g : Group E) (a x y z : E) (n s j : ℕ) → x ≡ climbed g a n (s / 2 ^ suc j) → y ≡ chosen g a (s / 2 ^ j % 2) → z ≡ added g (doubled g x) y → z ≡ climbed g a (suc n) (s / 2 ^ j)
climbed_more g a x y z n s j p q r =
    let half : s / 2 ^ suc j ≡ s / 2 ^ j / 2 = ap (λ k. s / 2 ^ k) (sym (add-one j)) ∙ sym (shr-shr s j 1) in
    r ∙ ap (λ v. added g (doubled g v) y) (p ∙ ap (climbed g a n) half) ∙ ap (added g (doubled g (climbed g a n (s / 2 ^ j / 2)))) q
