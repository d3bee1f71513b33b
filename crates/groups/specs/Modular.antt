-- The numbers below n are a group. Assumes nothing.
use Rattle.std.specs.Prelude.{◌≡◌, ℕ, ◌+◌, ◌-◌, ◌%◌, ◌≤◌, true, List, [], ◌∷◌, nat_lt, refl}
use Rattle.std.proofs.Common.{ap, sym, ◌∙◌, mod-lt, mod-eq_of_lt, add_assoc, add-zero, zero-add, arith, ltb-true, lt-ltb}
use Rattle.std.proofs.Math.Nat.{mod_self, mod-add-mod, add-mod-mod}
use Rattle.groups.specs.Groups.{Lawful}
use Rattle.groups.specs.Sums.{sums}

module _ (n : ℕ) (two : 2 ≤ n) where
  rest_in : (x : ℕ) → nat_lt (x % n) n ≡ true
  rest_in x = lt-ltb (x % n) n (mod-lt x (omega arith))

  one : {x y : ℕ} → x ≡ y → ◌≡◌ {A = List ℕ} (x ∷ []) (y ∷ [])
  one e = ap (λ x. x ∷ []) e

  pub sums_lawful : Lawful (sums n)
  sums_lawful = record {
    neutral_in = lt-ltb 0 n (omega arith);
    sum_in = λ a b _ _. rest_in (a + b);
    double_in = λ a _. rest_in (a + a);
    negative_in = λ a _. rest_in (n - a);
    sum_same = λ a b c d _ _ _ _ p q. cc;
    double_same = λ a b _ _ p. cc;
    negative_same = λ a b _ _ p. cc;
    assoc = λ a b c _ _ _. one (mod-add-mod (a + b) n c ∙ ap (λ x. x % n) (add_assoc a b c) ∙ sym (add-mod-mod a (b + c) n));
    left = λ a h. one (ap (λ x. x % n) (zero-add a) ∙ mod-eq_of_lt (ltb-true a n h));
    right = λ a h. one (ap (λ x. x % n) (add-zero a) ∙ mod-eq_of_lt (ltb-true a n h));
    left_inverse = λ a h.
        let below = ltb-true a n h in
        let whole : (n - a) + a ≡ n = omega arith in
        one (mod-add-mod (n - a) n a ∙ ap (λ x. x % n) whole ∙ mod_self n);
    right_inverse = λ a h.
        let below = ltb-true a n h in
        let whole : a + (n - a) ≡ n = omega arith in
        one (add-mod-mod a (n - a) n ∙ ap (λ x. x % n) whole ∙ mod_self n);
    twice = λ a _. refl;
  }
