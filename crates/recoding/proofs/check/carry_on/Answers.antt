use Rattle.std.proofs.Common.{◌^◌, ◌<◌, ◌≤◌, ℤ, pos, ◌+ℤ◌, ◌-ℤ◌, ◌*ℤ◌, ap, ◌∙◌, subst, ap₂, arith, pow_mono, w32, w64, SFits, to_z, of_z, rules}
use Rattle.std.proofs.lemmas.Int.{ints, to_z-of_z, to_z_pos}
use Rattle.inputs.specs.Signs.{signed}
use Rattle.recoding.specs.Codings.{reached}
use Rattle.recoding.specs.Digits.{decoded}
use Rattle.recoding.specs.Powers.{Divided}
use Rattle.recoding.proofs.Machine.{About, sums}
use Rattle.recoding.proofs.Windows.{signed_small}
use Rattle.recoding.proofs.check.carry_on.Goals as goal

pub scaled-requires : goal.scaled-requires
scaled-requires c =
    let v : SFits w32 c.decode-digit.result.value = search rules in
    let p : 2 ^ c.args.sizes.b ≤ 2 ^ 30 = pow_mono c.args.sizes.b_most in
    record { factor = (omega (arith, ints, c.unit.ensures), omega (arith, ints, c.unit.ensures)); small = (omega (arith, ints, v), omega (arith, ints, v)) }

pub divided-requires : goal.divided-requires
divided-requires c =
    let p : 2 ^ 2 ≤ 2 ^ c.args.sizes.k = pow_mono c.args.sizes.k_least in
    let q : 2 ^ c.args.sizes.k ≤ 2 ^ 6 = pow_mono c.args.sizes.k_most in
    omega (arith, ints, c.step.ensures)

-- the signed draw, as it was computed, is small
draw_about : (c : goal.After-times_sign) → About (2 ^ 32) c.times_sign.result
draw_about c =
    let t = signed_small c.decode-digit.result.sign c.args.s in
    let f : c.args.s < 2 ^ 32 = c.ranges.s.fits in
    let e = c.times_sign.ensures ∙ ap (signed c.decode-digit.result.sign) (to_z_pos w64 c.args.s (omega arith)) in
    (omega (arith, ints, t, e), omega (arith, ints, t, e))

pub overflow_add-sum-2 : goal.overflow_add-sum-2
overflow_add-sum-2 c = (sums c.args.carried c.scaled.result c.times_sign.result c.args.bits c.requires.small (c.scaled.ensures.least, c.scaled.ensures.most) (draw_about c) c.ranges.bits.fits).0

pub overflow_sub-sum : goal.overflow_sub-sum
overflow_sub-sum c = (sums c.args.carried c.scaled.result c.times_sign.result c.args.bits c.requires.small (c.scaled.ensures.least, c.scaled.ensures.most) (draw_about c) c.ranges.bits.fits).1

pub returns : goal.returns
returns c =
    let t = signed_small c.decode-digit.result.sign c.args.s in
    let f : c.args.s < 2 ^ 32 = c.ranges.s.fits in
    let e = c.times_sign.ensures ∙ ap (signed c.decode-digit.result.sign) (to_z_pos w64 c.args.s (omega arith)) in
    let q = (sums c.args.carried c.scaled.result c.times_sign.result c.args.bits c.requires.small (c.scaled.ensures.least, c.scaled.ensures.most) (omega (arith, ints, t, e), omega (arith, ints, t, e)) c.ranges.bits.fits).2 in
    let v : SFits w32 c.decode-digit.result.value = search rules in
    let ed = c.decode-digit.ensures ∙ ap decoded (to_z-of_z w32 c.args.word c.ranges.word) in
    let x = ap (λ (y : ℤ). to_z w64 (of_z w64 y)) (to_z-of_z w32 c.decode-digit.result.value v) ∙ to_z-of_z w64 c.decode-digit.result.value (omega (arith, ints, v)) in
    let es = c.scaled.ensures.is ∙ ap₂ (λ (u y : ℤ). u *ℤ y) (to_z-of_z w64 c.unit.result (search rules) ∙ c.unit.ensures) x in
    let r = q ∙ ap₂ (λ (t g : ℤ). c.args.carried +ℤ t +ℤ g -ℤ pos c.args.bits) es e ∙ ap (reached c.args.sizes.b c.args.s c.args.bits c.args.carried) ed in
    record {
      divided =
          subst (λ (u : ℤ). Divided u (reached c.args.sizes.b c.args.s c.args.bits c.args.carried (decoded c.args.word)) c.divided.result) (to_z-of_z w64 c.step.result (search rules) ∙ c.step.ensures)
          (subst (λ (y : ℤ). Divided (to_z w64 (of_z w64 c.step.result)) y c.divided.result) r c.divided.ensures.divided);
      small = c.divided.ensures.small;
    }
