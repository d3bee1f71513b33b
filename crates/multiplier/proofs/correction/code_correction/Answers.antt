use Rattle.std.proofs.Common.{ℕ, ◌+◌, ◌/◌, ◌%◌, length, ℤ, ap, ◌∙◌, w32, SFits, to_z, of_z, rules}
use Rattle.std.proofs.lemmas.Int.{to_z-of_z}
use Rattle.steps.specs.Corrections.{gain, lessened}
use Rattle.multiplier.specs.Tables.{turned_by, window_digit}
use Rattle.multiplier.proofs.Corrected.{coded_more}
use Rattle.multiplier.proofs.correction.code_correction.Goals as goal

pub loop-digit-preserved : goal.loop-digit-preserved
loop-digit-preserved c =
    let C : ℤ = to_z w32 (of_z w32 c.args.correction) in
    let k : ℕ = c.args.sizes.k in
    let x : ℕ = c.loop-digit.rest in
    let p = c.step.ensures.value in
    let turn_fits : SFits w32 c.turn.result = search rules in
    let lessen_fits : SFits w32 c.lessen-window.result.0 = search rules in
    let w : ℕ → ℕ = λ (m : ℕ). x % m + c.loop-digit.gained in (
      c.lessen-window.ensures.small.1.1,
      coded_more (λ v. window_digit (turned_by C v)) k (length c.args.digits.now) _ c.loop-digit.digit-index x c.loop-digit.gained _ c.lessen-window.result.1 c.loop-digit.digits _ c.loop-digit-test.true c.loop-digit.auto.digits
          (c.window_digit.ensures ∙ ap window_digit (to_z-of_z w32 c.turn.result turn_fits ∙ c.turn.ensures ∙ ap (turned_by C) (to_z-of_z w32 c.lessen-window.result.0 lessen_fits ∙ c.lessen-window.ensures.window ∙ ap (λ (m : ℕ). lessened k (w m)) p)))
          (ap (λ (m : ℕ). x / m) c.step-rest.ensures.value)
          (c.lessen-window.ensures.gain ∙ ap (λ (m : ℕ). gain k (w m)) p)
          c.loop-digit.invariant.1,
    )
