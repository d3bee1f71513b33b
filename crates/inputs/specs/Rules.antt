-- Sign rules: what one answers, the laws that each keeps, and the three rules by their table.
use Rattle.std.specs.Prelude.{◌≡◌, ℕ, ◌+◌, ◌-◌, ◌^◌, ◌<◌, Bool, true, cond, ℤ, pos, negsuc, ◌+ℤ◌, ◌-ℤ◌, ◌*ℤ◌, neg_ℤ, ◌≤ℤ◌, ◌<ℤ◌, Some, None, Ok, Err, Option, Result, ◌==◌, int_div, int_lt, nat_lt}
use Rattle.std.specs.Int.Signed.{le_z}
use Rattle.inputs.specs.declared.sign.Choice.{Choice}
use Rattle.inputs.specs.declared.sign.Sign.TheVariants.{Plus, Minus}
use Rattle.inputs.specs.declared.sign.Carry.TheVariants.{Down, Zero, Up}
use Rattle.inputs.specs.declared.window_rule.UnknownRule.{UnknownRule}
use Rattle.inputs.specs.declared.window_rule.WindowRule.{WindowRule}
use Rattle.inputs.specs.declared.window_rule.WindowRule.TheVariants.{Shifted, Centered, Nonzero}
use Rattle.inputs.specs.Signs.{carry_value, signed}
use Rattle.inputs.specs.Sizes.{Widths}

-- a sign rule, by the window width k and the draw width b: the limits of a digit with its sign, the draws that it admits, and its answer for a window's number h and the draw s
pub record Rule : Type 0 where
  pub lo : (k b : ℕ) → ℤ
  pub hi : (k b : ℕ) → ℤ
  pub admits : (k b s : ℕ) → Bool
  pub choose : (k b : ℕ) (h : ℤ) (s : ℕ) → Choice

-- what a window writes as unit times digit and rest: h less the signed draw and the carry's span
abbrev pub remainder : (k b : ℕ) (h : ℤ) (s : ℕ) → Choice → ℤ
remainder k b h s c = h -ℤ signed c.sign (pos s) -ℤ pos (2 ^ (k + b)) *ℤ carry_value c.carry

-- a window's digit before any carry comes into it: the remainder by the unit, rounded toward zero
abbrev pub digit : (k b : ℕ) (h : ℤ) (s : ℕ) → Choice → ℤ
digit k b h s c = int_div (remainder k b h s c) (pos (2 ^ b))

-- what the digit leaves
abbrev pub rest : (k b : ℕ) (h : ℤ) (s : ℕ) → Choice → ℤ
rest k b h s c = remainder k b h s c -ℤ pos (2 ^ b) *ℤ digit k b h s c

-- the numbers that a window can have, from -span + 2 ^ k to span - 1
abbrev pub Reached : (k b : ℕ) → ℤ → Type 0
Reached k b h = ((neg_ℤ (pos (2 ^ (k + b))) +ℤ pos (2 ^ k)) ≤ℤ h) × (h <ℤ pos (2 ^ (k + b)))

-- a draw of b bits that the rule admits
abbrev pub Admitted : Rule → (k b s : ℕ) → Type 0
Admitted R k b s = (s < 2 ^ b) × (R.admits k b s ≡ true)

-- the laws of a sign rule
pub record Lawful (R : Rule) : Type 0 where
  -- a digit with its sign is above lo and below hi before any carry
  pub above : (k b s : ℕ) (h : ℤ) → Widths k b → Admitted R k b s → Reached k b h → R.lo k b <ℤ signed (R.choose k b h s).sign (digit k b h s (R.choose k b h s))
  pub below : (k b s : ℕ) (h : ℤ) → Widths k b → Admitted R k b s → Reached k b h → signed (R.choose k b h s).sign (digit k b h s (R.choose k b h s)) <ℤ R.hi k b
  -- a window's number from 0 to half - 1 carries nothing
  pub calm : (k b s : ℕ) (h : ℤ) → Widths k b → Admitted R k b s → pos 0 ≤ℤ h → h <ℤ pos (2 ^ (k + b - 1)) → (R.choose k b h s).carry ≡ Zero
  -- lo is from -4 to -1, and hi from 1 to 2 ^ k
  pub lo_least : (k b : ℕ) → Widths k b → negsuc 3 ≤ℤ R.lo k b
  pub lo_most : (k b : ℕ) → Widths k b → R.lo k b ≤ℤ negsuc 0
  pub hi_least : (k b : ℕ) → Widths k b → pos 1 ≤ℤ R.hi k b
  pub hi_most : (k b : ℕ) → Widths k b → R.hi k b ≤ℤ pos (2 ^ k)

-- the number of each of the three rules
abbrev pub rule_number : WindowRule → ℕ
rule_number Shifted = 1
rule_number Centered = 2
rule_number Nonzero = 3

-- the rule of a number, if there is one
abbrev pub numbered : ℕ → Option WindowRule
numbered n = cond (n == 1) (Some Shifted) (cond (n == 2) (Some Centered) (cond (n == 3) (Some Nonzero) None))

-- what a number is read as: its rule, or the number itself where no rule has it
abbrev pub Numbered : ℕ → Result WindowRule UnknownRule → Type 0
Numbered n (Ok rule) = numbered n ≡ Some rule
Numbered n (Err e) = (numbered n ≡ None) × (e.0 ≡ n)

-- the table of the three rules, by half and a number j: at most -half; -half + 1 to -1; 0 to half - 1; at least half
abbrev pub table : ℕ → ℤ → Choice
table half j =
    cond (le_z j (neg_ℤ (pos half))) (record { sign = Plus; carry = Down })
    (cond (int_lt j (pos 0)) (record { sign = Minus; carry = Zero })
    (cond (int_lt j (pos half)) (record { sign = Plus; carry = Zero })
    (record { sign = Minus; carry = Up })))

-- what the first rule takes from a window's number before it looks into the table
abbrev pub shift : WindowRule → ℕ → ℕ
shift Shifted s = s
shift Centered s = 0
shift Nonzero s = 0

-- lo of each rule
abbrev pub lowest : WindowRule → ℤ
lowest Shifted = negsuc 1
lowest Centered = negsuc 0
lowest Nonzero = negsuc 0

-- hi of each rule, by the window width
abbrev pub highest : WindowRule → ℕ → ℤ
highest Shifted k = pos (2 ^ (k - 1) + 1)
highest Centered k = pos (2 ^ (k - 1) + 1)
highest Nonzero k = pos (2 ^ (k - 1))

-- the first two rules admit every draw, the third every draw above 0
abbrev pub admitted : WindowRule → ℕ → Bool
admitted Shifted s = true
admitted Centered s = true
admitted Nonzero s = nat_lt 0 s

-- each of the three rules
abbrev pub rule_of : WindowRule → Rule
rule_of x = record {
  lo = λ k b. lowest x;
  hi = λ k b. highest x k;
  admits = λ k b s. admitted x s;
  choose = λ k b h s. table (2 ^ (k + b - 1)) (h -ℤ pos (shift x s));
}
