-- Worked runs of the recoding: windows of 3 bits, draws of 6 bits, 3 windows, the draw 38.
use Rattle.std.specs.Prelude.{◌≡◌, ℕ, [], ◌∷◌, map, ℤ, pos, negsuc}
use Rattle.recoding.specs.declared.digit.Digit.{Digit}
use Rattle.inputs.specs.declared.sign.Carry.TheVariants.{Down}
use Rattle.inputs.specs.declared.sign.Choice.{Choice}
use Rattle.inputs.specs.declared.sign.Sign.TheVariants.{Plus, Minus}
use Rattle.inputs.specs.declared.window_rule.WindowRule.{WindowRule}
use Rattle.inputs.specs.declared.window_rule.WindowRule.TheVariants.{Shifted, Centered, Nonzero}
use Rattle.recoding.specs.Digits.{encoded}
use Rattle.inputs.specs.Rules.{rule_of, remainder, digit, rest}
use Rattle.recoding.specs.Windows.{State, windows}

-- a digit with a plus
abbrev pub plus : ℤ → Digit
plus w = record { value = w; sign = Plus }

-- a digit with a minus
abbrev pub minus : ℤ → Digit
minus w = record { value = w; sign = Minus }

-- the recoding of e by the three windows
abbrev pub three : WindowRule → ℕ → State
three x e = windows (rule_of x) 3 6 38 e 0 2

-- what the first rule answers for the number -504 and the draw 63
abbrev pub answer : Choice
answer = (rule_of Shifted).choose 3 6 (negsuc 503) 63

-- digits stand lowest first
pub record WorkedRuns : Type 0 where
  -- rules 2 and 3 at 12862: the windows 0, -3 and 3 with the signs -, - and +, the correction 20, the words 1, -5 and 6
  pub centered : three Centered 12862 ≡ record { left = pos 20; digits = minus (pos 0) ∷ minus (negsuc 2) ∷ plus (pos 3) ∷ [] }
  pub nonzero : three Nonzero 12862 ≡ record { left = pos 20; digits = minus (pos 0) ∷ minus (negsuc 2) ∷ plus (pos 3) ∷ [] }
  pub words : map encoded (three Centered 12862).digits ≡ pos 1 ∷ negsuc 4 ∷ pos 6 ∷ []
  -- rule 1 at 12862: -1, 4 and 2 with -, + and +, the correction -12
  pub shifted : three Shifted 12862 ≡ record { left = negsuc 11; digits = minus (negsuc 0) ∷ plus (pos 4) ∷ plus (pos 2) ∷ [] }
  -- rule 3 at 0: -2, 3 and -1 with -, + and +, the correction -10
  pub nothing : three Nonzero 0 ≡ record { left = negsuc 9; digits = minus (negsuc 1) ∷ plus (pos 3) ∷ plus (negsuc 0) ∷ [] }
  -- rule 1 at the number -504 and the draw 63: a plus, the carry -1, the remainder -55, the digit 0, and -55 is left
  pub lowest_choice : answer ≡ record { sign = Plus; carry = Down }
  pub lowest_remainder : remainder 3 6 (negsuc 503) 63 answer ≡ negsuc 54
  pub lowest_digit : digit 3 6 (negsuc 503) 63 answer ≡ pos 0
  pub lowest_rest : rest 3 6 (negsuc 503) 63 answer ≡ negsuc 54
