-- Worked multiplications, each from the definitions: windows of 3 bits, draws of 6 bits, 3 windows, the third rule, the draw 38. Assumes nothing.
use Rattle.std.specs.Prelude.{◌≡◌, ℕ, [], ◌∷◌, pos, negsuc, Some, None}
use Rattle.common.specs.declared.refusal.Refusal.TheVariants.{TableTooShort}
use Rattle.inputs.specs.declared.sizes.Sizes.{Sizes}
use Rattle.inputs.specs.declared.window_rule.WindowRule.TheVariants.{Nonzero}
use Rattle.inputs.specs.Rules.{Rule, rule_of}
use Rattle.groups.specs.declared.curve.CurvePoint.TheVariants.{Affine}
use Rattle.groups.specs.Clock.{clock}
use Rattle.groups.specs.Curve.{curve}
use Rattle.groups.specs.Groups.{Group}
use Rattle.groups.specs.Sums.{sums}
use Rattle.groups.specs.Worked.{place}
use Rattle.steps.specs.Corrections.{correction_windows}
use Rattle.runs.specs.declared.worked.WorkedAnswers.{WorkedAnswers}
use Rattle.multiplier.specs.Calls.{keyed, table_refusal}

-- the sizes of the table
pub record WorkedSizes (z : Sizes) : Type 0 where
  pub window_bits : z.k ≡ 3
  pub draw_bits : z.b ≡ 6
  pub count : z.m ≡ 3

-- the third rule
abbrev pub third_rule : Rule
third_rule = rule_of Nonzero

-- what the steps give for a key of one word, by the draw 38, at all sizes that are those of the table
abbrev pub Gives : {E : Type 0} → Group E → (key : ℕ) → (base answer : E) → Type 0
Gives g key base answer = (z : Sizes) → WorkedSizes z → keyed g third_rule z (key ∷ []) base 38 ≡ answer

-- the results of the table
abbrev pub written : WorkedAnswers
written = record {
  windows = negsuc 1 ∷ pos 4 ∷ pos 0 ∷ [];
  cells = 11;
  sums = 725;
  clock = place 5 5;
  curve = Affine 5 9;
  halfway = Affine 8 3 ∷ Affine 3 6 ∷ [];
  agreed = Affine 5 2;
}

-- the table, and a call's result that shows it
pub record WorkedMultiplications (r : WorkedAnswers) : Type 0 where
  -- the correction 30 has the windows -2, 4 and 0
  pub windows : correction_windows 3 6 (pos 30) ≡ negsuc 1 ∷ pos 4 ∷ pos 0 ∷ []
  -- at these widths 11 cells suffice, and 10 are refused
  pub enough : (z : Sizes) → z.k ≡ 3 → z.b ≡ 6 → table_refusal third_rule z 11 ≡ None
  pub too_few : (z : Sizes) → z.k ≡ 3 → z.b ≡ 6 → table_refusal third_rule z 10 ≡ Some (TableTooShort 10)
  -- the key 25725 in each of the three groups
  pub sums_25725 : Gives (sums 1000) 25725 1 725
  pub clock_25725 : Gives (clock 7) 25725 (place 2 2) (place 5 5)
  pub curve_25725 : Gives curve 25725 (Affine 2 7) (Affine 5 9)
  -- on the curve the keys 3 and 5, and then each on the other's answer: both come to (5, 2)
  pub curve_3 : Gives curve 3 (Affine 2 7) (Affine 8 3)
  pub curve_5 : Gives curve 5 (Affine 2 7) (Affine 3 6)
  pub curve_3_5 : Gives curve 5 (Affine 8 3) (Affine 5 2)
  pub curve_5_3 : Gives curve 3 (Affine 3 6) (Affine 5 2)
  pub shown : r ≡ written
