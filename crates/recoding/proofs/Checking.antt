-- The equation, tested from window 0 up.
use Rattle.std.proofs.Common.{◌≡◌, ℕ, zero, suc, ◌+◌, ◌*◌, ◌/◌, ◌^◌, ◌<◌, Bool, true, false, ◌&&◌, List, [], ◌∷◌, map, length, get_or, drop, ℤ, pos, negsuc, ◌+ℤ◌, ◌-ℤ◌, ◌*ℤ◌, neg_ℤ, ◌<ℤ◌, Decides, sym, refl, ap, ◌∙◌, subst, mul_comm, mul-zero, div-one, add-one, arith, pow_pos}
use Rattle.std.proofs.lemmas.List.{drop_more}
use Rattle.std.proofs.lemmas.Int.{ints}
use Rattle.recoding.specs.declared.digit.Digit.{Digit}
use Rattle.inputs.specs.declared.sizes.Sizes.{Sizes}
use Rattle.recoding.specs.Codings.{reached, total, Within, Coding}
use Rattle.recoding.specs.Digits.{decoded}
use Rattle.inputs.specs.Keys.{bits_at}
use Rattle.inputs.specs.Rules.{Rule, Admitted}
use Rattle.inputs.specs.Signs.{signed}
use Rattle.recoding.proofs.Equation.{times_sum, value, total_value, next_bits}
use Rattle.recoding.proofs.Limits.{not_true}

-- a factor that is not 0 can be taken away
no_zero : (u n : ℕ) → 0 < u → u * suc n ≡ 0 → ⊥
no_zero zero n p e = elim p [ ]
no_zero (suc u) n p e = omega arith

cancel_zero : (u : ℕ) (z : ℤ) → 0 < u → pos u *ℤ z ≡ pos 0 → z ≡ pos 0
cancel_zero u (pos zero) p e = refl
cancel_zero u (pos (suc n)) p e = absurd (no_zero u n p (omega (arith, ints)))
cancel_zero u (negsuc n) p e = absurd (no_zero u n p (omega (arith, ints)))

cancel : (u : ℕ) (a b : ℤ) → 0 < u → pos u *ℤ a ≡ pos u *ℤ b → a ≡ b
cancel u a b p e =
    let back : b +ℤ (a -ℤ b) ≡ a = omega (arith, ints) in
    let s = ap (λ (z : ℤ). pos u *ℤ z) (sym back) ∙ times_sum u b (a -ℤ b) in
    let z = cancel_zero u (a -ℤ b) p (omega (arith, ints, s, e)) in
    omega (arith, ints, z)

-- one window of the sum, over named powers: x is what is carried in, its digit and the signed draw, less its bits
module _ (K E bits : ℕ) (x p q v : ℤ) (hK : 0 < K) (here : x ≡ p -ℤ pos bits) (on : pos K *ℤ q ≡ x) where
  window_on : pos (E * K + bits) ≡ p +ℤ pos K *ℤ v → pos E ≡ q +ℤ v
  window_on h = cancel K (pos E) (q +ℤ v) hK (line (K * E) (E * K) (pos K *ℤ q) (pos K *ℤ v) (mul_comm K E) on h ∙ sym (times_sum K q v))
    where
      line : (a c : ℕ) (kq kv : ℤ) → a ≡ c → kq ≡ x → pos (c + bits) ≡ p +ℤ kv → pos a ≡ kq +ℤ kv
      line a c kq kv e f g = omega (arith, ints, here)

  window_back : pos E ≡ q +ℤ v → pos (E * K + bits) ≡ p +ℤ pos K *ℤ v
  window_back h = line (K * E) (E * K) (pos K *ℤ q) (pos K *ℤ v) (mul_comm K E) on (ap (λ (z : ℤ). pos K *ℤ z) h ∙ times_sum K q v)
    where
      line : (a c : ℕ) (kq kv : ℤ) → a ≡ c → kq ≡ x → pos a ≡ kq +ℤ kv → pos (c + bits) ≡ p +ℤ kv
      line a c kq kv e f g = omega (arith, ints, here)

-- where the sum holds, what a window comes to is a multiple
window_multiple : (K E bits : ℕ) (x p v : ℤ) → x ≡ p -ℤ pos bits → pos (E * K + bits) ≡ p +ℤ pos K *ℤ v → pos K *ℤ (pos E -ℤ v) ≡ x
window_multiple K E bits x p v here h =
    let back : pos E -ℤ v +ℤ v ≡ pos E = omega (arith, ints) in
    line (K * E) (E * K) (pos K *ℤ (pos E -ℤ v)) (pos K *ℤ v) (mul_comm K E) (ap (λ (z : ℤ). pos K *ℤ z) (sym back) ∙ times_sum K (pos E -ℤ v) v) h
  where
    line : (a c : ℕ) (kd kv : ℤ) → a ≡ c → pos a ≡ kd +ℤ kv → pos (c + bits) ≡ p +ℤ kv → kd ≡ x
    line a c kd kv e f g = omega (arith, ints, here)

-- what is still to hold from window i up, with a carried into it
abbrev pub Rest : (k b s e i : ℕ) → ℤ → List Digit → Type 0
Rest k b s e i a ds = pos (e / 2 ^ (k * i)) ≡ a +ℤ value k b s ds

module _ (k b s e i : ℕ) (a : ℤ) (d : Digit) (ds : List Digit) where
  -- what the window comes to before its bits are taken off
  abbrev sum : ℤ
  sum = a +ℤ pos (2 ^ b) *ℤ d.value +ℤ signed d.sign (pos s)

  regroup : Rest k b s e i a (d ∷ ds) → pos (e / 2 ^ (k * suc i) * 2 ^ k + bits_at e k (k * i)) ≡ sum +ℤ pos (2 ^ k) *ℤ value k b s ds
  regroup h = ap pos (sym (next_bits e k i)) ∙ h ∙ line a (pos (2 ^ b) *ℤ d.value) (signed d.sign (pos s)) (pos (2 ^ k) *ℤ value k b s ds)
    where
      line : (a w g v : ℤ) → a +ℤ (w +ℤ g +ℤ v) ≡ a +ℤ w +ℤ g +ℤ v
      line a w g v = omega (arith, ints)

  ungroup : pos (e / 2 ^ (k * suc i) * 2 ^ k + bits_at e k (k * i)) ≡ sum +ℤ pos (2 ^ k) *ℤ value k b s ds → Rest k b s e i a (d ∷ ds)
  ungroup h = ap pos (next_bits e k i) ∙ h ∙ line a (pos (2 ^ b) *ℤ d.value) (signed d.sign (pos s)) (pos (2 ^ k) *ℤ value k b s ds)
    where
      line : (a w g v : ℤ) → a +ℤ w +ℤ g +ℤ v ≡ a +ℤ (w +ℤ g +ℤ v)
      line a w g v = omega (arith, ints)

  rest_on : (q : ℤ) → pos (2 ^ k) *ℤ q ≡ reached b s (bits_at e k (k * i)) a d → Rest k b s e i a (d ∷ ds) → Rest k b s e (suc i) q ds
  rest_on q on h = window_on (2 ^ k) (e / 2 ^ (k * suc i)) (bits_at e k (k * i)) (reached b s (bits_at e k (k * i)) a d) sum q (value k b s ds) (pow_pos k) refl on (regroup h)

  rest_back : (q : ℤ) → pos (2 ^ k) *ℤ q ≡ reached b s (bits_at e k (k * i)) a d → Rest k b s e (suc i) q ds → Rest k b s e i a (d ∷ ds)
  rest_back q on h = ungroup (window_back (2 ^ k) (e / 2 ^ (k * suc i)) (bits_at e k (k * i)) (reached b s (bits_at e k (k * i)) a d) sum q (value k b s ds) (pow_pos k) refl on h)

  rest_fails : ((q : ℤ) → pos (2 ^ k) *ℤ q ≡ reached b s (bits_at e k (k * i)) a d → ⊥) → Rest k b s e i a (d ∷ ds) → ⊥
  rest_fails never h = never _ (window_multiple (2 ^ k) (e / 2 ^ (k * suc i)) (bits_at e k (k * i)) (reached b s (bits_at e k (k * i)) a d) sum (value k b s ds) refl (regroup h))

-- the equation, and what is to hold from window 0 up
module _ (k b s e : ℕ) (c : ℤ) (ds : List Digit) where
  abbrev pub Equation : Type 0
  Equation = pos e ≡ c +ℤ total k b s 0 ds

  whole : e / 2 ^ (k * 0) ≡ e
  whole = rw (mul-zero k) (div-one e)

  pub rest_start : Equation → Rest k b s e 0 c ds
  rest_start h = ap pos whole ∙ h ∙ ap (λ (z : ℤ). c +ℤ z) (total_value k b s ds)

  pub start_rest : Rest k b s e 0 c ds → Equation
  start_rest h = ap pos (sym whole) ∙ h ∙ ap (λ (z : ℤ). c +ℤ z) (sym (total_value k b s ds))

-- a turn of the test, at the word of window i
module _ (k b s e i bits : ℕ) (a : ℤ) (ws : List ℤ) (h : i < length ws) (bits_are : bits ≡ bits_at e k (k * i)) where
  here : map decoded (drop i ws) ≡ decoded (get_or ws i (pos 0)) ∷ map decoded (drop (i + 1) ws)
  here = ap (map decoded) (drop_more ws i (pos 0) h)

  come : (q : ℤ) → pos (2 ^ k) *ℤ q ≡ reached b s bits a (decoded (get_or ws i (pos 0))) → pos (2 ^ k) *ℤ q ≡ reached b s (bits_at e k (k * i)) a (decoded (get_or ws i (pos 0)))
  come q on = on ∙ ap (λ (n : ℕ). reached b s n a (decoded (get_or ws i (pos 0)))) bits_are

  pub turn_on : (q : ℤ) → pos (2 ^ k) *ℤ q ≡ reached b s bits a (decoded (get_or ws i (pos 0))) →
      Rest k b s e i a (map decoded (drop i ws)) → Rest k b s e (i + 1) q (map decoded (drop (i + 1) ws))
  turn_on q on r =
      subst (λ (n : ℕ). Rest k b s e n q (map decoded (drop (i + 1) ws))) (sym (add-one i))
      (rest_on k b s e i a (decoded (get_or ws i (pos 0))) (map decoded (drop (i + 1) ws)) q (come q on) (subst (Rest k b s e i a) here r))

  pub turn_back : (q : ℤ) → pos (2 ^ k) *ℤ q ≡ reached b s bits a (decoded (get_or ws i (pos 0))) →
      Rest k b s e (i + 1) q (map decoded (drop (i + 1) ws)) → Rest k b s e i a (map decoded (drop i ws))
  turn_back q on r =
      subst (Rest k b s e i a) (sym here)
      (rest_back k b s e i a (decoded (get_or ws i (pos 0))) (map decoded (drop (i + 1) ws)) q (come q on) (subst (λ (n : ℕ). Rest k b s e n q (map decoded (drop (i + 1) ws))) (add-one i) r))

  pub turn_fails : ((q : ℤ) → pos (2 ^ k) *ℤ q ≡ reached b s bits a (decoded (get_or ws i (pos 0))) → ⊥) → Rest k b s e i a (map decoded (drop i ws)) → ⊥
  turn_fails never r =
      rest_fails k b s e i a (decoded (get_or ws i (pos 0))) (map decoded (drop (i + 1) ws))
      (λ q on. never q (on ∙ ap (λ (n : ℕ). reached b s n a (decoded (get_or ws i (pos 0)))) (sym bits_are))) (subst (Rest k b s e i a) here r)

-- above the last window nothing is left to sum
pub rest_end : (k b s e i : ℕ) (a : ℤ) → Rest k b s e i a [] → a ≡ pos (e / 2 ^ (k * i))
rest_end k b s e i a h = omega (arith, ints, h)

pub end_rest : (k b s e i : ℕ) (a : ℤ) → a ≡ pos (e / 2 ^ (k * i)) → Rest k b s e i a []
end_rest k b s e i a h = omega (arith, ints, h)

both : (p q : Bool) → (p && q) ≡ true → (p ≡ true) × (q ≡ true)
both true q h = (refl, h)
both false q h = not_true h

join : (p q : Bool) → p ≡ true → q ≡ true → (p && q) ≡ true
join p q a b = rw (a, b)

-- the four tests decide whether it is a coding
pub verdict : (R : Rule) (z : Sizes) (e s : ℕ) (c : ℤ) (ds : List Digit) (p q r t : Bool) →
    Decides p (Admitted R z.k z.b s) → Decides q ((neg_ℤ (pos (2 ^ z.b)) <ℤ c) × (c <ℤ pos (2 ^ z.b))) →
    Decides r (Within (R.lo z.k z.b) (R.hi z.k z.b) ds) → Decides t (Equation z.k z.b s e c ds) →
    Decides (p && q && r && t) (Coding R z e s c ds)
verdict R z e s c ds p q r t dp dq dr dt = (yes_coding, coding_yes)
  where
    yes_coding : (p && q && r && t) ≡ true → Coding R z e s c ds
    yes_coding h =
        let a = both (p && q && r) t h in
        let b = both (p && q) r a.0 in
        let d = both p q b.0 in
        record {
          draw_bits = (dp.0 d.0).0;
          admitted = (dp.0 d.0).1;
          correction_least = (dq.0 d.1).0;
          correction_most = (dq.0 d.1).1;
          limits = dr.0 b.1;
          equation = dt.0 a.1;
        }

    coding_yes : Coding R z e s c ds → (p && q && r && t) ≡ true
    coding_yes h =
        join (p && q && r) t (join (p && q) r (join p q (dp.1 (h.draw_bits, h.admitted)) (dq.1 (h.correction_least, h.correction_most))) (dr.1 h.limits)) (dt.1 h.equation)
