-- The steps of the recoding, from the top window down.
use Rattle.std.specs.Prelude.{ℕ, zero, suc, ◌-◌, ◌*◌, ◌/◌, ◌^◌, List, [], ◌∷◌, ℤ, pos, ◌+ℤ◌, ◌*ℤ◌}
use Rattle.recoding.specs.declared.digit.Digit.{Digit}
use Rattle.inputs.specs.declared.sizes.Sizes.{Sizes}
use Rattle.recoding.specs.Digits.{carried}
use Rattle.inputs.specs.Keys.{bits_at}
use Rattle.inputs.specs.Rules.{Rule, digit, rest}

-- the digits of the windows so far, lowest first, and what they leave
pub record State : Type 0 where
  pub left : ℤ
  pub digits : List Digit

-- one window more, of the number h, below those above it: its digit, its sign, its carry into the window above, and what it leaves
abbrev pub put : Rule → (k b s : ℕ) → ℤ → List Digit → State
put R k b s h above = record {
  left = rest k b h s (R.choose k b h s);
  digits = record { value = digit k b h s (R.choose k b h s); sign = (R.choose k b h s).sign } ∷ carried (R.choose k b h s).carry above;
}

-- the number of a window below another: what that one left and the next k bits
abbrev pub below : (k bits : ℕ) → ℤ → ℤ
below k bits left = pos (2 ^ k) *ℤ left +ℤ pos bits

-- the windows of e from window i up, with n of them above it; the number of the top one is e from bit k * i up
abbrev pub windows : Rule → (k b s e i n : ℕ) → State
windows R k b s e i zero = put R k b s (pos (e / 2 ^ (k * i))) []
windows R k b s e i (suc n) =
    put R k b s (below k (bits_at e k (k * i)) (windows R k b s e (suc i) n).left) (windows R k b s e (suc i) n).digits

-- the recoding of e by the draw s: the digits of all m windows, and the correction, which the lowest one leaves
abbrev pub recoding : Rule → Sizes → (s e : ℕ) → State
recoding R z s e = windows R z.k z.b s e 0 (z.m - 1)
