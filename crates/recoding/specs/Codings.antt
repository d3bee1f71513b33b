-- What a coding of a key is: the equation and the limits, whoever made it. What recoding and the check answer.
use Rattle.std.specs.Prelude.{◌≡◌, ℕ, suc, ◌+◌, ◌*◌, ◌^◌, ◌<◌, Bool, true, cond, List, [], ◌∷◌, ◌++◌, map, length, take, drop, ℤ, pos, ◌+ℤ◌, ◌-ℤ◌, ◌*ℤ◌, neg_ℤ, ◌≤ℤ◌, ◌<ℤ◌, Some, None, Ok, Err, Decides, Option, Result, nat_lt}
use Rattle.common.specs.declared.refusal.Refusal.{Refusal}
use Rattle.common.specs.declared.refusal.Refusal.TheVariants.{TooFewDigits}
use Rattle.recoding.specs.declared.coded.Coded.{Coded}
use Rattle.recoding.specs.declared.digit.Digit.{Digit}
use Rattle.inputs.specs.declared.draw.Draw.{Draw}
use Rattle.inputs.specs.declared.sizes.Sizes.{Sizes}
use Rattle.recoding.specs.Digits.{encoded, decoded, zeros}
use Rattle.inputs.specs.Draws.{draw_refusal}
use Rattle.inputs.specs.Keys.{half, key_refusal}
use Rattle.inputs.specs.Rules.{Rule}
use Rattle.inputs.specs.Signs.{signed}
use Rattle.inputs.specs.Tests.{or_else}
use Rattle.recoding.specs.Windows.{recoding}

-- the sum of the digits from window i up, each at its own power: 2 ^ (k i + b) times the digit and 2 ^ (k i) times the signed draw
abbrev pub total : (k b s i : ℕ) → List Digit → ℤ
total k b s i [] = pos 0
total k b s i (d ∷ ds) =
    pos (2 ^ (k * i + b)) *ℤ d.value +ℤ pos (2 ^ (k * i)) *ℤ signed d.sign (pos s) +ℤ total k b s (suc i) ds

-- each digit with its sign is from lo to hi
abbrev pub Within : (lo hi : ℤ) → List Digit → Type 0
Within lo hi [] = Unit {0}
Within lo hi (d ∷ ds) = (lo ≤ℤ signed d.sign d.value) × (signed d.sign d.value ≤ℤ hi) × Within lo hi ds

-- the draw s, the correction c and the digits are a coding of e
pub record Coding (R : Rule) (z : Sizes) (e s : ℕ) (c : ℤ) (digits : List Digit) : Type 0 where
  -- the draw is of b bits and admitted
  pub draw_bits : s < 2 ^ z.b
  pub admitted : R.admits z.k z.b s ≡ true
  -- the correction is strictly between -2 ^ b and 2 ^ b
  pub correction_least : neg_ℤ (pos (2 ^ z.b)) <ℤ c
  pub correction_most : c <ℤ pos (2 ^ z.b)
  -- each digit with its sign is from lo to hi
  pub limits : Within (R.lo z.k z.b) (R.hi z.k z.b) digits
  -- e is the correction and the sum of the digits
  pub equation : pos e ≡ c +ℤ total z.k z.b s 0 digits

-- what a window from the bottom up comes to: what is carried into it, its digit and the signed draw, less its bits of e
abbrev pub reached : (b s bits : ℕ) → ℤ → Digit → ℤ
reached b s bits carry d = carry +ℤ pos (2 ^ b) *ℤ d.value +ℤ signed d.sign (pos s) -ℤ pos bits

-- the digits in the first m words
abbrev pub digits_in : Sizes → List ℤ → List Digit
digits_in z words = map decoded (take z.m words)

-- the refusal of too few words for the digits, or none
abbrev pub digits_refusal : Sizes → ℕ → Option Refusal
digits_refusal z words = cond (nat_lt words z.m) (Some (TooFewDigits words)) None

-- the check tests the key, then the words
abbrev pub check_refusal : Sizes → List ℕ → ℕ → Option Refusal
check_refusal z key words = or_else (key_refusal z key) (digits_refusal z words)

-- the check says yes exactly where the words, the draw and the correction are a coding of the key's half
abbrev pub Checked : Rule → Sizes → List ℕ → ℕ → ℤ → List ℤ → Result Bool Refusal → Type 0
Checked R z key s c words (Ok verdict) = (check_refusal z key (length words) ≡ None) × Decides verdict (Coding R z (half key) s c (digits_in z words))
Checked R z key s c words (Err e) = check_refusal z key (length words) ≡ Some e

-- recoding tests what the check tests, then the draw
abbrev pub recode_refusal : Rule → Sizes → List ℕ → ℕ → Draw → Option Refusal
recode_refusal R z key words d = or_else (check_refusal z key words) (draw_refusal R z d)

-- what an accepted recoding gives: the steps' digits and correction, with the draw itself; and by the law above the steps these are a coding of the key's half
pub record Accepted (R : Rule) (z : Sizes) (key : List ℕ) (d : Draw) (before : List ℤ) (r : Coded) (after : List ℤ) : Type 0 where
  pub untested : recode_refusal R z key (length before) d ≡ None
  pub draw : r.draw ≡ d
  pub correction : r.correction ≡ (recoding R z d.value (half key)).left
  pub words : after ≡ map encoded (recoding R z d.value (half key)).digits ++ drop z.m before
  pub coding : Coding R z (half key) d.value r.correction (digits_in z after)

-- a refused recoding gives the draw back and leaves all words zero
abbrev pub Recoded : Rule → Sizes → List ℕ → Draw → List ℤ → Result Coded (Refusal × Draw) → List ℤ → Type 0
Recoded R z key d before (Ok r) after = Accepted R z key d before r after
Recoded R z key d before (Err e) after = (recode_refusal R z key (length before) d ≡ Some e.0) × (e.1 ≡ d) × (after ≡ zeros (length before))
