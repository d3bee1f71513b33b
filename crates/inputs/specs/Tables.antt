-- The three rules keep the laws: their table case by case.
use Rattle.std.specs.Prelude.{◌≡◌, ℕ, zero, suc, ◌+◌, ◌-◌, ◌*◌, ◌^◌, ◌<◌, ◌≤◌, Bool, true, false, cond, ℤ, pos, negsuc, ◌+ℤ◌, ◌-ℤ◌, ◌*ℤ◌, neg_ℤ, ◌≤ℤ◌, ◌<ℤ◌, int_div, int_le, int_lt, refl}
use Rattle.std.proofs.Common.{pow_pos, pow-add, pow_mono, sym, ap, ◌∙◌, suc-add, sub-one, arith, ltb-true}
use Rattle.std.proofs.Math.Pow.{suc_ones}
use Rattle.std.proofs.lemmas.Int.{ints}
use Rattle.inputs.specs.declared.sign.Choice.{Choice}
use Rattle.inputs.specs.declared.sign.Sign.TheVariants.{Plus, Minus}
use Rattle.inputs.specs.declared.sign.Carry.{Carry}
use Rattle.inputs.specs.declared.sign.Carry.TheVariants.{Down, Zero, Up}
use Rattle.inputs.specs.declared.window_rule.WindowRule.{WindowRule}
use Rattle.inputs.specs.declared.window_rule.WindowRule.TheVariants.{Shifted, Centered, Nonzero}
use Rattle.inputs.specs.Signs.{signed, carry_value}
use Rattle.inputs.specs.Sizes.{Widths}
use Rattle.inputs.specs.Rules.{Lawful, Reached, Admitted, digit, table, rule_of, lowest, highest}
use Rattle.inputs.specs.Quotients.{quot_bounds}

-- the four rows of the table
pub data Row (half : ℕ) (j : ℤ) : Choice → Type 0 where
  low : j ≤ℤ neg_ℤ (pos half) → Row half j (record { sign = Plus; carry = Down })
  under : neg_ℤ (pos half) <ℤ j → j <ℤ pos 0 → Row half j (record { sign = Minus; carry = Zero })
  over : pos 0 ≤ℤ j → j <ℤ pos half → Row half j (record { sign = Plus; carry = Zero })
  high : pos half ≤ℤ j → Row half j (record { sign = Minus; carry = Up })

row_by : (half : ℕ) (j : ℤ) (p q r : Bool) → int_le j (neg_ℤ (pos half)) ≡ p → int_lt j (pos 0) ≡ q → int_lt j (pos half) ≡ r →
    Row half j (cond p (record { sign = Plus; carry = Down }) (cond q (record { sign = Minus; carry = Zero }) (cond r (record { sign = Plus; carry = Zero }) (record { sign = Minus; carry = Up }))))
row_by half j true q r e f g = low (omega (arith, ints))
row_by half j false true r e f g = under (omega (arith, ints)) (omega (arith, ints))
row_by half j false false true e f g = over (omega (arith, ints)) (omega (arith, ints))
row_by half j false false false e f g = high (omega (arith, ints))

pub row : (half : ℕ) (j : ℤ) → Row half j (table half j)
row half j = row_by half j (int_le j (neg_ℤ (pos half))) (int_lt j (pos 0)) (int_lt j (pos half)) refl refl refl

-- the last row, from its bound
pub table_high : (half : ℕ) (j : ℤ) → 0 < half → pos half ≤ℤ j → table half j ≡ record { sign = Minus; carry = Up }
table_high half j p h =
    let a : int_le j (neg_ℤ (pos half)) ≡ false = grind (arith, ints) in
    let b : int_lt j (pos 0) ≡ false = grind (arith, ints) in
    let c : int_lt j (pos half) ≡ false = grind (arith, ints) in
    rw (a, b, c)

-- what is left of a window's number, over a named span
abbrev left : (span s : ℕ) (h : ℤ) → Choice → ℤ
left span s h c = h -ℤ signed c.sign (pos s) -ℤ pos span *ℤ carry_value c.carry

-- the digit with its sign is from -a to c
abbrev Digits : (u span s : ℕ) (h : ℤ) (a c : ℕ) → Choice → Type 0
Digits u span s h a c x =
    (neg_ℤ (pos a) ≤ℤ signed x.sign (int_div (left span s h x) (pos u))) × (signed x.sign (int_div (left span s h x) (pos u)) ≤ℤ pos c)

plus_digits : (u span s : ℕ) (h : ℤ) (t : Carry) (a c : ℕ) → 0 < u → let r : ℤ = left span s h (record { sign = Plus; carry = t }) in
    neg_ℤ (pos (suc a * u)) <ℤ r → r <ℤ pos (suc c * u) → Digits u span s h a c (record { sign = Plus; carry = t })
plus_digits u span s h t a c p l m = let q = quot_bounds (left span s h (record { sign = Plus; carry = t })) u a c p l m in (omega (arith, ints), omega (arith, ints))

minus_digits : (u span s : ℕ) (h : ℤ) (t : Carry) (a c : ℕ) → 0 < u → let r : ℤ = left span s h (record { sign = Minus; carry = t }) in
    neg_ℤ (pos (suc c * u)) <ℤ r → r <ℤ pos (suc a * u) → Digits u span s h a c (record { sign = Minus; carry = t })
minus_digits u span s h t a c p l m = let q = quot_bounds (left span s h (record { sign = Minus; carry = t })) u c a p l m in (omega (arith, ints), omega (arith, ints))

-- the digits of a table's answer, over named powers: the unit u and half of 2 ^ k, q
module _ (u q K s span half : ℕ) (es : span ≡ 2 * half) (eh : half ≡ q * u) (hs : s < u) (hK : 0 < K) (h : ℤ) (lo : (neg_ℤ (pos span) +ℤ pos K) ≤ℤ h) (hi : h <ℤ pos span) where
  shifted_digits : {c : Choice} → Row half (h -ℤ pos s) c → Digits u span s h 1 q c
  shifted_digits (low a) = plus_digits u span s h Down 1 q (omega arith) (omega (arith, ints)) (omega (arith, ints))
  shifted_digits (under a b) = minus_digits u span s h Zero 1 q (omega arith) (omega (arith, ints)) (omega (arith, ints))
  shifted_digits (over a b) = plus_digits u span s h Zero 1 q (omega arith) (omega (arith, ints)) (omega (arith, ints))
  shifted_digits (high a) = minus_digits u span s h Up 1 q (omega arith) (omega (arith, ints)) (omega (arith, ints))

  centered_digits : {c : Choice} → Row half (h -ℤ pos 0) c → Digits u span s h 0 q c
  centered_digits (low a) = plus_digits u span s h Down 0 q (omega arith) (omega (arith, ints)) (omega (arith, ints))
  centered_digits (under a b) = minus_digits u span s h Zero 0 q (omega arith) (omega (arith, ints)) (omega (arith, ints))
  centered_digits (over a b) = plus_digits u span s h Zero 0 q (omega arith) (omega (arith, ints)) (omega (arith, ints))
  centered_digits (high a) = minus_digits u span s h Up 0 q (omega arith) (omega (arith, ints)) (omega (arith, ints))

-- at a draw that is not 0, half of 2 ^ k is suc q
module _ (u q K s span half : ℕ) (es : span ≡ 2 * half) (eh : half ≡ suc q * u) (hs : s < u) (h0 : 0 < s) (hK : 0 < K) (h : ℤ) (lo : (neg_ℤ (pos span) +ℤ pos K) ≤ℤ h) (hi : h <ℤ pos span) where
  nonzero_digits : {c : Choice} → Row half (h -ℤ pos 0) c → Digits u span s h 0 q c
  nonzero_digits (low a) = plus_digits u span s h Down 0 q (omega arith) (omega (arith, ints)) (omega (arith, ints))
  nonzero_digits (under a b) = minus_digits u span s h Zero 0 q (omega arith) (omega (arith, ints)) (omega (arith, ints))
  nonzero_digits (over a b) = plus_digits u span s h Zero 0 q (omega arith) (omega (arith, ints)) (omega (arith, ints))
  nonzero_digits (high a) = minus_digits u span s h Up 0 q (omega arith) (omega (arith, ints)) (omega (arith, ints))

row_calm : (half : ℕ) (j : ℤ) {c : Choice} → neg_ℤ (pos half) <ℤ j → j <ℤ pos half → Row half j c → c.carry ≡ Zero
row_calm half j l m (low a) = absurd (omega (arith, ints))
row_calm half j l m (under a b) = refl
row_calm half j l m (over a b) = refl
row_calm half j l m (high a) = absurd (omega (arith, ints))

span_is : (k b : ℕ) → 0 < k → 2 ^ (k + b) ≡ 2 * 2 ^ (k + b - 1)
span_is zero b p = elim p [ ]
span_is (suc k) b p = rw (suc-add k b) (rw (sub-one (suc (k + b))) (omega arith))

half_is : (k b : ℕ) → 0 < k → 2 ^ (k + b - 1) ≡ 2 ^ (k - 1) * 2 ^ b
half_is zero b p = elim p [ ]
half_is (suc k) b p = rw (suc-add k b) (rw (sub-one (suc (k + b))) (rw (sub-one (suc k)) (pow-add 2 k b)))

-- 2 ^ k is twice its half, which is at least 2
double : (k : ℕ) → 2 ≤ k → (2 ^ k ≡ 2 * 2 ^ (k - 1)) × (2 ≤ 2 ^ (k - 1))
double zero p = elim p [ ]
double (suc k) p = rw (sub-one (suc k)) (let q : 1 ≤ k = omega arith in let r : 2 ^ 1 ≤ 2 ^ k = pow_mono q in (omega arith, omega arith))

-- the digits of each rule
abbrev Limits : WindowRule → (k b s : ℕ) → ℤ → Type 0
Limits x k b s h =
    let c : Choice = (rule_of x).choose k b h s in
    (lowest x <ℤ signed c.sign (digit k b h s c)) × (signed c.sign (digit k b h s c) <ℤ highest x k)

limits : (x : WindowRule) (k b s : ℕ) (h : ℤ) → Widths k b → Admitted (rule_of x) k b s → Reached k b h → Limits x k b s h
limits Shifted k b s h z a r =
    let hk : 0 < k = omega arith in
    let d = shifted_digits (2 ^ b) (2 ^ (k - 1)) (2 ^ k) s (2 ^ (k + b)) (2 ^ (k + b - 1)) (span_is k b hk) (half_is k b hk) a.0 (pow_pos k) h r.0 r.1 (row (2 ^ (k + b - 1)) (h -ℤ pos s)) in
    (omega (arith, ints, d), omega (arith, ints, d))
limits Centered k b s h z a r =
    let hk : 0 < k = omega arith in
    let d = centered_digits (2 ^ b) (2 ^ (k - 1)) (2 ^ k) s (2 ^ (k + b)) (2 ^ (k + b - 1)) (span_is k b hk) (half_is k b hk) a.0 (pow_pos k) h r.0 r.1 (row (2 ^ (k + b - 1)) (h -ℤ pos 0)) in
    (omega (arith, ints, d), omega (arith, ints, d))
limits Nonzero k b s h z a r =
    let hk : 0 < k = omega arith in
    let q : ℕ = 2 ^ (k - 1) - 1 in
    let eh : 2 ^ (k + b - 1) ≡ suc q * 2 ^ b = half_is k b hk ∙ ap (λ (x : ℕ). x * 2 ^ b) (sym (suc_ones (k - 1))) in
    let h0 : 0 < s = omega (arith, ltb-true, a.1) in
    let d = nonzero_digits (2 ^ b) q (2 ^ k) s (2 ^ (k + b)) (2 ^ (k + b - 1)) (span_is k b hk) eh a.0 h0 (pow_pos k) h r.0 r.1 (row (2 ^ (k + b - 1)) (h -ℤ pos 0)) in
    (omega (arith, ints, d), omega (arith, ints, d, pow_pos (k - 1)))

calm : (x : WindowRule) (k b s : ℕ) (h : ℤ) → Widths k b → Admitted (rule_of x) k b s → pos 0 ≤ℤ h → h <ℤ pos (2 ^ (k + b - 1)) → ((rule_of x).choose k b h s).carry ≡ Zero
calm Shifted k b s h z a l m =
    let more : b ≤ k + b - 1 = omega arith in
    let wide : 2 ^ b ≤ 2 ^ (k + b - 1) = pow_mono more in
    row_calm (2 ^ (k + b - 1)) (h -ℤ pos s) (omega (arith, ints, wide, a.0)) (omega (arith, ints)) (row (2 ^ (k + b - 1)) (h -ℤ pos s))
calm Centered k b s h z a l m = row_calm (2 ^ (k + b - 1)) (h -ℤ pos 0) (omega (arith, ints, pow_pos (k + b - 1))) (omega (arith, ints)) (row (2 ^ (k + b - 1)) (h -ℤ pos 0))
calm Nonzero k b s h z a l m = row_calm (2 ^ (k + b - 1)) (h -ℤ pos 0) (omega (arith, ints, pow_pos (k + b - 1))) (omega (arith, ints)) (row (2 ^ (k + b - 1)) (h -ℤ pos 0))

lowest_range : (x : WindowRule) → (negsuc 3 ≤ℤ lowest x) × (lowest x ≤ℤ negsuc 0)
lowest_range Shifted = (omega (arith, ints), omega (arith, ints))
lowest_range Centered = (omega (arith, ints), omega (arith, ints))
lowest_range Nonzero = (omega (arith, ints), omega (arith, ints))

highest_range : (x : WindowRule) (k : ℕ) → 2 ≤ k → (pos 1 ≤ℤ highest x k) × (highest x k ≤ℤ pos (2 ^ k))
highest_range Shifted k p = let d = double k p in (omega (arith, ints), omega (arith, ints))
highest_range Centered k p = let d = double k p in (omega (arith, ints), omega (arith, ints))
highest_range Nonzero k p = let d = double k p in (omega (arith, ints), omega (arith, ints))

pub lawful : (x : WindowRule) → Lawful (rule_of x)
lawful x = record {
  above = λ k b s h z a r. (limits x k b s h z a r).0;
  below = λ k b s h z a r. (limits x k b s h z a r).1;
  calm = λ k b s h z a l m. calm x k b s h z a l m;
  lo_least = λ k b z. (lowest_range x).0;
  lo_most = λ k b z. (lowest_range x).1;
  hi_least = λ k b z. (highest_range x k z.0).0;
  hi_most = λ k b z. (highest_range x k z.0).1;
}
