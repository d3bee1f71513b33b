-- Digits with their signs, and the words of 32 bits that hold them.
use Rattle.std.specs.Prelude.{ℕ, cond, List, [], ◌∷◌, replicate, ℤ, pos, ◌+ℤ◌, ◌*ℤ◌, int_lt}
use Rattle.recoding.specs.declared.digit.Digit.{Digit}
use Rattle.inputs.specs.declared.sign.Carry.{Carry}
use Rattle.inputs.specs.declared.sign.Sign.{Sign}
use Rattle.inputs.specs.declared.sign.Sign.TheVariants.{Plus, Minus}
use Rattle.inputs.specs.Signs.{carry_value}
use Rattle.std.specs.Int.{int_div_euclid, int_rem_euclid}

-- what a sign adds to the word: 1 for a minus
abbrev pub sign_bit : Sign → ℤ
sign_bit Plus = pos 0
sign_bit Minus = pos 1

-- the word of a digit
abbrev pub encoded : Digit → ℤ
encoded d = pos 2 *ℤ d.value +ℤ sign_bit d.sign

-- the digit that a word stands for
abbrev pub decoded : ℤ → Digit
decoded word = record { value = int_div_euclid word (pos 2); sign = cond (int_lt (pos 0) (int_rem_euclid word (pos 2))) Minus Plus }

-- a carry into the lowest digit, the one of the window above
abbrev pub carried : Carry → List Digit → List Digit
carried t [] = []
carried t (d ∷ ds) = record { value = d.value +ℤ carry_value t; sign = d.sign } ∷ ds

-- words that hold no digit any more
abbrev pub zeros : ℕ → List ℤ
zeros n = replicate n (pos 0)

-- a carry into the lowest of some words: the digit that it holds is raised
abbrev pub raised : Carry → List ℤ → List ℤ
raised t [] = []
raised t (w ∷ ws) = (w +ℤ pos 2 *ℤ carry_value t) ∷ ws
