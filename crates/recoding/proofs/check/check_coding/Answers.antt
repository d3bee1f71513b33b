use Rattle.std.proofs.Common.{◌≡◌, ℕ, ◌-◌, ◌≤◌, Bool, List, map, length, take, ℤ, Decides, ap, ◌∙◌, subst, arith, w32, SFits, rules}
use native.Mathlib.Nat.{sub-zero}
use Rattle.std.proofs.lemmas.List.{length-take}
use Rattle.std.proofs.lemmas.Int.{to_z-of_z}
use Rattle.recoding.specs.Codings.{Within, digits_refusal}
use Rattle.recoding.specs.Digits.{decoded}
use Rattle.inputs.specs.Keys.{half, key_refusal}
use Rattle.inputs.specs.Rules.{Rule}
use Rattle.recoding.proofs.Checking.{Equation, verdict}
use Rattle.recoding.proofs.Tests.{both_pass, key_below, words_enough}
use Rattle.recoding.proofs.check.check_coding.Goals as goal

-- what the two loops decided of the words that they were passed
limits_by : {lo lo' hi hi' : ℤ} {ws ws' : List ℤ} (r : Bool) → lo ≡ lo' → hi ≡ hi' → ws ≡ ws' → Decides r (Within lo hi (map decoded ws)) → Decides r (Within lo' hi' (map decoded ws'))
limits_by {lo} {lo'} {hi} {hi'} {ws} {ws'} r el eh ew d =
    subst (λ (x : ℤ). Decides r (Within x hi' (map decoded ws'))) el (subst (λ (x : ℤ). Decides r (Within lo x (map decoded ws'))) eh (subst (λ (x : List ℤ). Decides r (Within lo hi (map decoded x))) ew d))

equation_by : {c c' : ℤ} {ws ws' : List ℤ} (k b s e : ℕ) (r : Bool) → c ≡ c' → ws ≡ ws' → Decides r (Equation k b s e c (map decoded ws)) → Decides r (Equation k b s e c' (map decoded ws'))
equation_by {c} {c'} {ws} {ws'} k b s e r ec ew d =
    subst (λ (x : ℤ). Decides r (Equation k b s e x (map decoded ws'))) ec (subst (λ (x : List ℤ). Decides r (Equation k b s e c (map decoded x))) ew d)

pub slice_bounds-digits-end : goal.slice_bounds-digits-end
slice_bounds-digits-end g c =
    let t = both_pass (key_refusal c.args.sizes c.args.key.now) (digits_refusal c.args.sizes (length c.args.words.now)) c.in_ok-check_lent.ensures in
    let h : c.windows.result ≤ length c.args.words.now = omega (arith, words_enough c.args.sizes (length c.args.words.now) t.1) in
    search rules

pub equation_holds-holds-requires : goal.equation_holds-holds-requires
equation_holds-holds-requires g c =
    let t = both_pass (key_refusal c.args.sizes c.args.key.now) (digits_refusal c.args.sizes (length c.args.words.now)) c.in_ok-check_lent.ensures in
    let h = words_enough c.args.sizes (length c.args.words.now) t.1 in
    record { count = simp length-take (omega arith); key = key_below c.args.sizes c.args.key.now t.0 }

pub returns : goal.returns
returns g c =
    let R : Rule = g.R.SignRule.rule c.args.rule.now in
    let z = c.args.sizes in
    let f : SFits w32 c.args.correction = c.ranges.correction in
    let ws : take (c.windows.result - 0) c.args.words.now ≡ take z.m c.args.words.now = ap (λ (n : ℕ). take n c.args.words.now) (sub-zero c.windows.result ∙ c.windows.ensures) in
    let lo = to_z-of_z w32 c.lo.result (search rules) ∙ c.lo.ensures in
    let hi = to_z-of_z w32 c.hi.result (search rules) ∙ c.hi.ensures in (
      c.in_ok-check_lent.ensures,
      verdict R z (half c.args.key.now) c.args.s c.args.correction (map decoded (take z.m c.args.words.now))
          c.draw_admitted-drawn.result c.correction_small-small.result c.within_limits-within.result c.equation_holds-holds.result
          c.draw_admitted-drawn.ensures
          (simp to_z-of_z at c.correction_small-small.ensures)
          (limits_by c.within_limits-within.result lo hi ws c.within_limits-within.ensures)
          (equation_by z.k z.b c.args.s (half c.args.key.now) c.equation_holds-holds.result (to_z-of_z w32 c.args.correction f) ws c.equation_holds-holds.ensures),
    )
