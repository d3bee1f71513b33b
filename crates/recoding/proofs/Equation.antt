-- The equation of the recoding, as a law of its steps, and the limits of its digits.
use Rattle.std.proofs.Common.{◌≡◌, ℕ, zero, suc, ◌+◌, ◌-◌, ◌*◌, ◌/◌, ◌^◌, ◌<◌, ◌≤◌, List, [], ◌∷◌, ℤ, pos, negsuc, ◌+ℤ◌, ◌*ℤ◌, neg_ℤ, ◌≤ℤ◌, ◌<ℤ◌, sym, refl, ap, ◌∙◌, subst, le_trans, mod-lt, mul_comm, mul-zero, div-add-mod', mul-suc, arith, pow_pos, pow_mono, pow-add}
use borrow.Author.Differences.{sum_is_lem, product_is}
use Rattle.std.proofs.lemmas.Nat.{shr-shr, shr_below}
use Rattle.std.proofs.lemmas.Int.{ints}
use Rattle.recoding.specs.declared.digit.Digit.{Digit}
use Rattle.inputs.specs.declared.sign.Carry.{Carry}
use Rattle.inputs.specs.declared.sign.Carry.TheVariants.{Zero}
use Rattle.inputs.specs.declared.sign.Choice.{Choice}
use Rattle.inputs.specs.declared.sign.Sign.{Sign}
use Rattle.inputs.specs.declared.sign.Sign.TheVariants.{Plus, Minus}
use Rattle.recoding.specs.Codings.{total, Within}
use Rattle.recoding.specs.Digits.{carried}
use Rattle.inputs.specs.Keys.{bits_at}
use Rattle.inputs.specs.Rules.{Rule, Lawful, Admitted, Reached, digit, rest}
use Rattle.inputs.specs.Signs.{signed, carry_value}
use Rattle.inputs.specs.Sizes.{Widths}
use Rattle.recoding.specs.Windows.{State, put, below, windows}
use Rattle.recoding.proofs.Windows.{split, rest_small, below_range, carry_small}

pub times_sum : (n : ℕ) (a b : ℤ) → pos n *ℤ (a +ℤ b) ≡ pos n *ℤ a +ℤ pos n *ℤ b
times_sum n a b = omega (arith, ints, ap (λ (x : ℕ). n * x) (sum_is_lem a b))

pub times_times : (m n : ℕ) (a : ℤ) → pos m *ℤ (pos n *ℤ a) ≡ pos (m * n) *ℤ a
times_times m n a = omega (arith, ints, ap (λ (x : ℕ). m * x) (product_is (pos n) a).0, ap (λ (x : ℕ). m * x) (product_is (pos n) a).1)

-- the sum of the digits by Horner's rule
abbrev pub value : (k b s : ℕ) → List Digit → ℤ
value k b s [] = pos 0
value k b s (d ∷ ds) = pos (2 ^ b) *ℤ d.value +ℤ signed d.sign (pos s) +ℤ pos (2 ^ k) *ℤ value k b s ds

-- it is the sum of each digit at its own power
pub total_is : (k b s i : ℕ) (ds : List Digit) → total k b s i ds ≡ pos (2 ^ (k * i)) *ℤ value k b s ds
total_is k b s i [] = omega (arith, ints)
total_is k b s i (d ∷ ds) =
    rw (
      total_is k b s (suc i) ds,
      mul-suc k i,
      pow-add 2 (k * i) k,
      pow-add 2 (k * i) b,
      ← (times_times (2 ^ (k * i)) (2 ^ k) (value k b s ds)),
      ← (times_times (2 ^ (k * i)) (2 ^ b) d.value),
      times_sum (2 ^ (k * i)) (pos (2 ^ b) *ℤ d.value +ℤ signed d.sign (pos s)) (pos (2 ^ k) *ℤ value k b s ds),
      times_sum (2 ^ (k * i)) (pos (2 ^ b) *ℤ d.value) (signed d.sign (pos s)),
    )

pub total_value : (k b s : ℕ) (ds : List Digit) → total k b s 0 ds ≡ value k b s ds
total_value k b s ds = total_is k b s 0 ds ∙ rw (mul-zero k) (omega (arith, ints))

value_carried : (k b s : ℕ) (t : Carry) (ds : List Digit) → (ds ≡ [] → t ≡ Zero) → value k b s (carried t ds) ≡ value k b s ds +ℤ pos (2 ^ b) *ℤ carry_value t
value_carried k b s t [] h = rw (h refl) (omega (arith, ints))
value_carried k b s t (d ∷ ds) h = rw (times_sum (2 ^ b) d.value (carry_value t)) (omega (arith, ints))

-- one step of the equation, over named powers
step_sum : (K u span bits : ℕ) (left v w g t left' : ℤ) (E : ℕ) → span ≡ K * u → pos E ≡ left +ℤ v →
    pos K *ℤ left +ℤ pos bits ≡ pos u *ℤ w +ℤ left' +ℤ g +ℤ pos span *ℤ t →
    pos (E * K + bits) ≡ left' +ℤ (pos u *ℤ w +ℤ g +ℤ pos K *ℤ (v +ℤ pos u *ℤ t))
step_sum K u span bits left v w g t left' E es h e =
    let p : pos (K * E) ≡ pos K *ℤ left +ℤ pos K *ℤ v = ap (λ (z : ℤ). pos K *ℤ z) h ∙ times_sum K left v in
    rw (times_sum K v (pos u *ℤ t), times_times K u t, ← es) (line (E * K) (pos K *ℤ left) (pos K *ℤ v) bits (pos u *ℤ w) left' g (pos span *ℤ t) (ap pos (mul_comm E K) ∙ p) e)
  where
    line : (KE : ℕ) (a v : ℤ) (bits : ℕ) (w left g t : ℤ) → pos KE ≡ a +ℤ v → a +ℤ pos bits ≡ w +ℤ left +ℤ g +ℤ t →
        pos (KE + bits) ≡ left +ℤ (w +ℤ g +ℤ (v +ℤ t))
    line KE a v bits w left g t p e = omega (arith, ints)

-- the lowest digit is inside its limits, so that a carry may still come
abbrev pub Inner : (lo hi : ℤ) → List Digit → Type 0
Inner lo hi [] = Unit {0}
Inner lo hi (d ∷ ds) = (lo <ℤ signed d.sign d.value) × (signed d.sign d.value <ℤ hi) × Within lo hi ds

carried_by : (lo hi w t : ℤ) (g : Sign) → lo <ℤ signed g w → signed g w <ℤ hi → negsuc 0 ≤ℤ t → t ≤ℤ pos 1 →
    (lo ≤ℤ signed g (w +ℤ t)) × (signed g (w +ℤ t) ≤ℤ hi)
carried_by lo hi w t Plus p q l m = (omega (arith, ints), omega (arith, ints))
carried_by lo hi w t Minus p q l m = (omega (arith, ints), omega (arith, ints))

carried_within : (lo hi : ℤ) (t : Carry) (ds : List Digit) → Inner lo hi ds → Within lo hi (carried t ds)
carried_within lo hi t [] p = tt
carried_within lo hi t (d ∷ ds) p =
    let c = carry_small t in let q = carried_by lo hi d.value (carry_value t) d.sign p.0 p.1 c.0 c.1 in (q.0, q.1, p.2)

pub inner_within : (lo hi : ℤ) (ds : List Digit) → Inner lo hi ds → Within lo hi ds
inner_within lo hi [] p = tt
inner_within lo hi (d ∷ ds) p = (omega (arith, ints, p.0), omega (arith, ints, p.1), p.2)

-- what holds of the windows from i up
pub record Good (R : Rule) (k b s e i : ℕ) (st : State) : Type 0 where
  pub sum : pos (e / 2 ^ (k * i)) ≡ st.left +ℤ value k b s st.digits
  pub least : neg_ℤ (pos (2 ^ b)) <ℤ st.left
  pub most : st.left <ℤ pos (2 ^ b)
  pub inner : Inner (R.lo k b) (R.hi k b) st.digits

-- n windows from window i up: none of them leave e from bit k i up, as a window above the top one would
abbrev pub after : Rule → (k b s e i n : ℕ) → State
after R k b s e i zero = record { left = pos (e / 2 ^ (k * i)); digits = [] }
after R k b s e i (suc n) = put R k b s (below k (bits_at e k (k * i)) (after R k b s e (suc i) n).left) (after R k b s e (suc i) n).digits

-- the next k bits of e
pub next_bits : (e k i : ℕ) → e / 2 ^ (k * i) ≡ e / 2 ^ (k * suc i) * 2 ^ k + bits_at e k (k * i)
next_bits e k i = rw (mul-suc k i) (rw (← (shr-shr e (k * i) k)) (sym (div-add-mod' (e / 2 ^ (k * i)) (2 ^ k))))

pub top_number : (e k i : ℕ) → below k (bits_at e k (k * i)) (pos (e / 2 ^ (k * suc i))) ≡ pos (e / 2 ^ (k * i))
top_number e k i = let n = next_bits e k i in ap pos (omega arith)

-- the windows of the specification are those
pub windows_are : (R : Rule) (k b s e i n : ℕ) → windows R k b s e i n ≡ after R k b s e i (suc n)
windows_are R k b s e i zero = ap (λ (h : ℤ). put R k b s h []) (sym (top_number e k i))
windows_are R k b s e i (suc n) =
    ap (λ (st : State). put R k b s (below k (bits_at e k (k * i)) st.left) st.digits) (windows_are R k b s e (suc i) n)

module _ (R : Rule) (k b s e : ℕ) (z : Widths k b) (a : Admitted R k b s) (L : Lawful R) where
  calm_top : (i n : ℕ) → e < 2 ^ (k * (i + suc n) + b - 1) → (after R k b s e (suc i) n).digits ≡ [] →
      (R.choose k b (below k (bits_at e k (k * i)) (after R k b s e (suc i) n).left) s).carry ≡ Zero
  calm_top i zero h d =
      let x : k * (i + 1) + b - 1 ≡ (k + b - 1) + k * i = omega arith in
      let small : e / 2 ^ (k * i) < 2 ^ (k + b - 1) = shr_below e (k + b - 1) (k * i) (subst (λ (y : ℕ). e < 2 ^ y) x h) in
      ap (λ (y : ℤ). (R.choose k b y s).carry) (top_number e k i) ∙ L.calm k b s (pos (e / 2 ^ (k * i))) z a (omega (arith, ints)) (omega (arith, ints))
  calm_top i (suc n) h d = absurd (never d)
    where
      never : {d : Digit} {ds : List Digit} → d ∷ ds ≡ [] → ⊥
      never e = let x : ◌≡◌ {A = ℕ} 0 1 = cc in omega arith

  -- one window more
  next : (i n : ℕ) → e < 2 ^ (k * (i + suc n) + b - 1) → Good R k b s e (suc i) (after R k b s e (suc i) n) → Good R k b s e i (after R k b s e i (suc n))
  next i n h up = record {
    sum = ap pos (next_bits e k i) ∙ rw (value_carried k b s c.carry above.digits (calm_top i n h))
        (step_sum (2 ^ k) (2 ^ b) (2 ^ (k + b)) bits above.left (value k b s above.digits) (digit k b here s c) (signed c.sign (pos s)) (carry_value c.carry)
        (rest k b here s c) (e / 2 ^ (k * suc i)) (pow-add 2 k b) up.sum (split k b s here c));
    least = (rest_small k b s here c).0;
    most = (rest_small k b s here c).1;
    inner = (L.above k b s here z a range, L.below k b s here z a range, carried_within (R.lo k b) (R.hi k b) c.carry above.digits up.inner);
  }
    where
      above : State
      above = after R k b s e (suc i) n

      bits : ℕ
      bits = bits_at e k (k * i)

      here : ℤ
      here = below k bits above.left

      c : Choice
      c = R.choose k b here s

      range : Reached k b here
      range = rw (pow-add 2 k b) (rw (mul_comm (2 ^ k) (2 ^ b)) (below_range (2 ^ b) (2 ^ k) bits above.left (mod-lt (e / 2 ^ (k * i)) (pow_pos k)) up.least up.most))

  pub good : (i n : ℕ) → e < 2 ^ (k * (i + n) + b - 1) → Good R k b s e i (after R k b s e i n)
  good i zero h = record { sum = omega (arith, ints); least = omega (arith, ints, pow_pos b); most = omega (arith, ints, small); inner = tt }
    where
      exponents : k * (i + 0) + b - 1 ≤ b + k * i
      exponents = omega arith

      small : e / 2 ^ (k * i) < 2 ^ b
      small = shr_below e b (k * i) (le_trans h (pow_mono exponents))
  good i (suc n) h =
      let more : i + suc n ≡ suc i + n = omega arith in
      next i n h (good (suc i) n (subst (λ (x : ℕ). e < 2 ^ (k * x + b - 1)) more h))
