-- The clock modulo n is a lawful group, for every n from 2 on. Assumes nothing.
use Rattle.std.specs.Prelude.{◌≡◌, ℕ, ◌+◌, ◌-◌, ◌*◌, ◌%◌, ◌<◌, ◌≤◌, true, List, [], ◌∷◌, nat_lt, refl}
use Rattle.std.proofs.Common.{sym, ◌∙◌, arith, ltb-true, lt-ltb, eqb-true, eq-eqb}
use Rattle.std.proofs.lemmas.Bool.{and_parts, and_from}
use Rattle.groups.specs.Clock.{clock, clock_negative, clock_sum, on_clock}
use Rattle.groups.specs.Groups.{Lawful}
use Rattle.groups.specs.declared.clock.ClockPoint.{ClockPoint}
use Rattle.groups.specs.Remainders.{Same, it, back, ◌⟫◌, ◌⊕◌, ◌⊗◌, equal, multiples, rest, below, rest_in, one_rest, neg1, at, negative, minus_in, minus_is, signs, opposite}

-- the coordinates of a sum, over numbers where m is -1
abbrev sum_x : (a b c d : ℕ) → ℕ
sum_x a b c d = a * d + b * c

abbrev sum_y : (m a b c d : ℕ) → ℕ
sum_y m a b c d = b * d + m * (a * c)

-- (a d + b c)² + (b d - a c)² = (a² + b²) (c² + d²)
circle : (m a b c d : ℕ) → Same (m + 1) (sum_x a b c d * sum_x a b c d + sum_y m a b c d * sum_y m a b c d) ((a * a + b * b) * (c * c + d * d))
circle m a b c d = multiples (a * a * c * c) (2 * a * b * c * d + m * a * a * c * c) (omega arith)

assoc_x : (m a b c d e f : ℕ) → sum_x (sum_x a b c d) (sum_y m a b c d) e f ≡ sum_x a b (sum_x c d e f) (sum_y m c d e f)
assoc_x m a b c d e f = omega arith

assoc_y : (m a b c d e f : ℕ) → sum_y m (sum_x a b c d) (sum_y m a b c d) e f ≡ sum_y m a b (sum_x c d e f) (sum_y m c d e f)
assoc_y m a b c d e f = omega arith

-- what makes a pair a member
record On (n : ℕ) (p : ClockPoint) : Type 0 where
  pub x_in : p.x < n
  pub y_in : p.y < n
  pub round : Same n (p.x * p.x + p.y * p.y) 1

coded : {a b c d : ℕ} → a ≡ c → b ≡ d → ◌≡◌ {A = List ℕ} (a ∷ b ∷ []) (c ∷ d ∷ [])
coded p q = cc

-- y₁ y₂ - x₁ x₂ by one division, with n - x₂ for -x₂
pub one_division : (n : ℕ) (p q : ClockPoint) → on_clock n q ≡ true → (p.y * q.y + p.x * (n - q.x)) % n ≡ (clock_sum n p q).y
one_division n p q q-on =
    let x_in = ltb-true _ n (and_parts (nat_lt q.x n) _ q-on).0 in
    let some : 0 < n = omega arith in
    let m : ℕ = neg1 n in
    below (rest_in some _) (minus_in some _ _)
    (rest _ ⟫ it ⊕ it ⊗ negative x_in ⟫ equal (omega arith) ⟫ back (minus_is some (p.y * q.y) (p.x * q.x)))

module _ (n : ℕ) (two : 2 ≤ n) where
  abbrev m : ℕ
  m = neg1 n

  some : 0 < n
  some = omega arith

  on : (p : ClockPoint) → on_clock n p ≡ true → On n p
  on p h =
      let a = and_parts (nat_lt p.x n) _ h in
      let b = and_parts (nat_lt p.y n) _ a.1 in
      record { x_in = ltb-true _ n a.0; y_in = ltb-true _ n b.0; round = record { rests = eqb-true _ 1 b.1 ∙ sym (one_rest two) } }

  off : (p : ClockPoint) → On n p → on_clock n p ≡ true
  off p h = and_from _ _ (lt-ltb _ n h.x_in) (and_from _ _ (lt-ltb _ n h.y_in) (eq-eqb _ 1 (h.round.rests ∙ one_rest two)))

  x_of : (p q : ClockPoint) → Same n (clock_sum n p q).x (sum_x p.x p.y q.x q.y)
  x_of p q = rest _

  y_of : (p q : ClockPoint) → Same n (clock_sum n p q).y (sum_y m p.x p.y q.x q.y)
  y_of p q = minus_is some (p.y * q.y) (p.x * q.x)

  negative_x : (p : ClockPoint) → p.x < n → Same n (clock_negative n p).x (m * p.x)
  negative_x p h = rest _ ⟫ negative h

  sum_on : (p q : ClockPoint) → On n p → On n q → On n (clock_sum n p q)
  sum_on p q g h =
      let sx = x_of p q in
      let sy = y_of p q in
      record {
        x_in = rest_in some _;
        y_in = minus_in some _ _;
        round = sx ⊗ sx ⊕ sy ⊗ sy ⟫ at some (circle m p.x p.y q.x q.y) ⟫ g.round ⊗ h.round;
      }

  negative_on : (p : ClockPoint) → On n p → On n (clock_negative n p)
  negative_on p h =
      let s = negative_x p h.x_in in
      record { x_in = rest_in some _; y_in = h.y_in; round = s ⊗ s ⊕ it ⟫ signs some p.x p.x ⊕ it ⟫ h.round }

  -- a sum has the code (a, b) of numbers below n that its coordinates come to
  comes_to : (p q : ClockPoint) (a b : ℕ) → a < n → b < n → Same n (sum_x p.x p.y q.x q.y) a → Same n (sum_y m p.x p.y q.x q.y) b → (clock n).code (clock_sum n p q) ≡ a ∷ b ∷ []
  comes_to p q a b a_in b-in X Y = coded (below (rest_in some _) a_in (x_of p q ⟫ X)) (below (minus_in some _ _) b-in (y_of p q ⟫ Y))

  assoc : (p q r : ClockPoint) → (clock n).code (clock_sum n (clock_sum n p q) r) ≡ (clock n).code (clock_sum n p (clock_sum n q r))
  assoc p q r =
      let sx = x_of p q in
      let sy = y_of p q in
      let tx = x_of q r in
      let ty = y_of q r in
      comes_to (clock_sum n p q) r _ _ (rest_in some _) (minus_in some _ _)
      (sx ⊗ it ⊕ sy ⊗ it ⟫ equal (assoc_x m p.x p.y q.x q.y r.x r.y) ⟫ back (x_of p (clock_sum n q r) ⟫ it ⊗ ty ⊕ it ⊗ tx))
      (sy ⊗ it ⊕ it ⊗ (sx ⊗ it) ⟫ equal (assoc_y m p.x p.y q.x q.y r.x r.y) ⟫ back (y_of p (clock_sum n q r) ⟫ it ⊗ ty ⊕ it ⊗ (it ⊗ tx)))

  left : (p : ClockPoint) → On n p → (clock n).code (clock_sum n (clock n).neutral p) ≡ (clock n).code p
  left p h = comes_to (clock n).neutral p _ _ h.x_in h.y_in (equal (omega arith)) (equal (omega arith))

  right : (p : ClockPoint) → On n p → (clock n).code (clock_sum n p (clock n).neutral) ≡ (clock n).code p
  right p h = comes_to p (clock n).neutral _ _ h.x_in h.y_in (equal (omega arith)) (equal (omega arith))

  -- what a point and its negative come to: the point's own circle
  mirrored_norm : (p : ClockPoint) → On n p → Same n (p.y * p.y + (m * p.x) * (m * p.x)) 1
  mirrored_norm p h = it ⊕ signs some p.x p.x ⟫ equal (omega arith) ⟫ h.round

  left_inverse : (p : ClockPoint) → On n p → (clock n).code (clock_sum n (clock_negative n p) p) ≡ (clock n).code (clock n).neutral
  left_inverse p h =
      let s = negative_x p h.x_in in
      comes_to (clock_negative n p) p 0 1 some two
      (s ⊗ it ⊕ it ⟫ equal (omega arith) ⟫ opposite some (p.x * p.y))
      (it ⊕ it ⊗ (s ⊗ it) ⟫ equal (omega arith) ⟫ mirrored_norm p h)

  right_inverse : (p : ClockPoint) → On n p → (clock n).code (clock_sum n p (clock_negative n p)) ≡ (clock n).code (clock n).neutral
  right_inverse p h =
      let s = negative_x p h.x_in in
      comes_to p (clock_negative n p) 0 1 some two
      (it ⊕ it ⊗ s ⟫ equal (omega arith) ⟫ opposite some (p.x * p.y))
      (it ⊕ it ⊗ (it ⊗ s) ⟫ equal (omega arith) ⟫ mirrored_norm p h)

  pub clock_lawful : Lawful (clock n)
  clock_lawful = record {
    neutral_in = off (clock n).neutral (record { x_in = some; y_in = two; round = it });
    sum_in = λ p q f g. off _ (sum_on p q (on p f) (on q g));
    double_in = λ p f. off _ (sum_on p p (on p f) (on p f));
    negative_in = λ p f. off _ (negative_on p (on p f));
    sum_same = λ p q r s _ _ _ _ d e. cc;
    double_same = λ p q _ _ e. cc;
    negative_same = λ p q _ _ e. cc;
    assoc = λ p q r _ _ _. assoc p q r;
    left = λ p h. left p (on p h);
    right = λ p h. right p (on p h);
    left_inverse = λ p h. left_inverse p (on p h);
    right_inverse = λ p h. right_inverse p (on p h);
    twice = λ p _. refl;
  }
