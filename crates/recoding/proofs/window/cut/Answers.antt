use Rattle.std.proofs.Common.{◌^◌, ◌≤◌, ℤ, ap, ◌∙◌, arith, pow_mono, w32, w64}
use Rattle.std.proofs.lemmas.Int.{ints, to_z-of_z}
use Rattle.inputs.specs.declared.sign.Choice.{Choice}
use Rattle.recoding.proofs.Machine.{remainder_by, digit_is, left_is}
use Rattle.recoding.proofs.Windows.{digit_small}
use Rattle.recoding.proofs.window.cut.Goals as goal

pub overflow_cast-result : goal.overflow_cast-result
overflow_cast-result g c =
    let z = c.args.sizes in
    let F : ℤ → Choice = λ h. (g.R.SignRule.rule c.args.rule.now).choose z.k z.b h c.args.s in
    let e = remainder_by z.k z.b c.args.s c.args.h c.remain-r.result F c.choose-choice.result c.ranges.h c.choose-choice.ensures c.remain-r.ensures.is in
    let d = digit_small (g.R.SignRule.rule c.args.rule.now) z.k z.b c.args.s c.args.h (g.met.R.SignRule.lawful c.args.rule.now) (omega arith, omega arith, omega arith, omega arith) c.requires.admitted c.requires.reached in
    let q = digit_is z.k z.b c.args.s c.args.h c.remain-r.result c.unit-unit.result (F c.args.h) c.unit-unit.ensures z.b_most e (c.remain-r.ensures.least, c.remain-r.ensures.most) d in
    omega (arith, ints, q, d)

pub scaled-requires : goal.scaled-requires
scaled-requires g c =
    let f = overflow_cast-result g c in
    let p : 2 ^ c.args.sizes.b ≤ 2 ^ 30 = pow_mono c.args.sizes.b_most in
    record { factor = (omega (arith, ints, c.unit-unit.ensures), omega (arith, ints, c.unit-unit.ensures)); small = (omega (arith, ints, f), omega (arith, ints, f)) }

pub overflow_sub-result : goal.overflow_sub-result
overflow_sub-result g c =
    let z = c.args.sizes in
    let F : ℤ → Choice = λ h. (g.R.SignRule.rule c.args.rule.now).choose z.k z.b h c.args.s in
    let e = remainder_by z.k z.b c.args.s c.args.h c.remain-r.result F c.choose-choice.result c.ranges.h c.choose-choice.ensures c.remain-r.ensures.is in
    let d = digit_small (g.R.SignRule.rule c.args.rule.now) z.k z.b c.args.s c.args.h (g.met.R.SignRule.lawful c.args.rule.now) (omega arith, omega arith, omega arith, omega arith) c.requires.admitted c.requires.reached in
    (left_is z.k z.b c.args.s c.args.h c.remain-r.result c.unit-unit.result (F c.args.h) c.unit-unit.ensures z.b_most e (c.remain-r.ensures.least, c.remain-r.ensures.most) d c.scaled.result c.scaled.ensures.is).0

pub returns : goal.returns
returns g c =
    let z = c.args.sizes in
    let F : ℤ → Choice = λ h. (g.R.SignRule.rule c.args.rule.now).choose z.k z.b h c.args.s in
    let e = remainder_by z.k z.b c.args.s c.args.h c.remain-r.result F c.choose-choice.result c.ranges.h c.choose-choice.ensures c.remain-r.ensures.is in
    let d = digit_small (g.R.SignRule.rule c.args.rule.now) z.k z.b c.args.s c.args.h (g.met.R.SignRule.lawful c.args.rule.now) (omega arith, omega arith, omega arith, omega arith) c.requires.admitted c.requires.reached in
    let q = digit_is z.k z.b c.args.s c.args.h c.remain-r.result c.unit-unit.result (F c.args.h) c.unit-unit.ensures z.b_most e (c.remain-r.ensures.least, c.remain-r.ensures.most) d in
    let l = left_is z.k z.b c.args.s c.args.h c.remain-r.result c.unit-unit.result (F c.args.h) c.unit-unit.ensures z.b_most e (c.remain-r.ensures.least, c.remain-r.ensures.most) d c.scaled.result c.scaled.ensures.is in
    let x = c.choose-choice.ensures ∙ ap F (to_z-of_z w64 c.args.h c.ranges.h) in
    record {
      value = rw q (to_z-of_z w32 _ (omega (arith, ints, d)));
      sign = ap (λ (y : Choice). y.sign) x;
      carry = ap (λ (y : Choice). y.carry) x;
      left = l.1;
    }
