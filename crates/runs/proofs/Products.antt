-- The worked multiplications compute. Assumes nothing.
use Rattle.std.proofs.Common.{◌≡◌, ℕ, ◌-◌, ◌%◌, List, [], ◌∷◌, pos, negsuc, Some, None, refl, ap, ◌∙◌}
use Rattle.common.specs.declared.refusal.Refusal.TheVariants.{TableTooShort}
use Rattle.inputs.specs.declared.sizes.Sizes.{Sizes}
use Rattle.inputs.specs.Keys.{half, scalar}
use Rattle.recoding.specs.Windows.{windows}
use Rattle.groups.specs.declared.curve.CurvePoint.TheVariants.{Affine}
use Rattle.groups.specs.Clock.{clock}
use Rattle.groups.specs.Curve.{curve, inverse}
use Rattle.groups.specs.Groups.{Group}
use Rattle.groups.specs.Residues.{minus}
use Rattle.groups.specs.Sums.{sums}
use Rattle.groups.specs.Worked.{place}
use Rattle.steps.specs.Corrections.{correction_windows}
use Rattle.steps.specs.Steps.{multiplied}
use Rattle.multiplier.specs.Calls.{table_refusal}
use Rattle.runs.specs.Worked.{Gives, third_rule}

-- what the steps give for a key, over plain numbers in place of sizes
abbrev keyed_at : {E : Type 0} → Group E → (k b m : ℕ) → (key : List ℕ) → E → (s : ℕ) → E
keyed_at g k b m key base s =
    multiplied g k b base s (windows third_rule k b s (half key) 0 (m - 1)).digits (windows third_rule k b s (half key) 0 (m - 1)).left (scalar key % 2)

-- at the sizes of the table
sized : {E : Type 0} (g : Group E) (key : ℕ) (base answer : E) → keyed_at g 3 6 3 (key ∷ []) base 38 ≡ answer → Gives g key base answer
sized g key base answer e z h =
    ap (λ (k : ℕ). keyed_at g k z.b z.m (key ∷ []) base 38) h.window_bits
    ∙ ap (λ (b : ℕ). keyed_at g 3 b z.m (key ∷ []) base 38) h.draw_bits
    ∙ ap (λ (m : ℕ). keyed_at g 3 6 m (key ∷ []) base 38) h.count
    ∙ e

pub windows_30 : correction_windows 3 6 (pos 30) ≡ negsuc 1 ∷ pos 4 ∷ pos 0 ∷ []
windows_30 = refl

pub enough : (z : Sizes) → z.k ≡ 3 → z.b ≡ 6 → table_refusal third_rule z 11 ≡ None
enough z k b = rw k

pub too_few : (z : Sizes) → z.k ≡ 3 → z.b ≡ 6 → table_refusal third_rule z 10 ≡ Some (TableTooShort 10)
too_few z k b = rw k

pub sums_25725 : Gives (sums 1000) 25725 1 725
sums_25725 = sized (sums 1000) 25725 1 725 refl

pub clock_25725 : Gives (clock 7) 25725 (place 2 2) (place 5 5)
unfolding minus
clock_25725 = sized (clock 7) 25725 (place 2 2) (place 5 5) refl

pub curve_25725 : Gives curve 25725 (Affine 2 7) (Affine 5 9)
unfolding minus inverse
curve_25725 = sized curve 25725 (Affine 2 7) (Affine 5 9) refl

pub curve_3 : Gives curve 3 (Affine 2 7) (Affine 8 3)
unfolding minus inverse
curve_3 = sized curve 3 (Affine 2 7) (Affine 8 3) refl

pub curve_5 : Gives curve 5 (Affine 2 7) (Affine 3 6)
unfolding minus inverse
curve_5 = sized curve 5 (Affine 2 7) (Affine 3 6) refl

pub curve_3_5 : Gives curve 5 (Affine 8 3) (Affine 5 2)
unfolding minus inverse
curve_3_5 = sized curve 5 (Affine 8 3) (Affine 5 2) refl

pub curve_5_3 : Gives curve 3 (Affine 3 6) (Affine 5 2)
unfolding minus inverse
curve_5_3 = sized curve 3 (Affine 3 6) (Affine 5 2) refl
