use Rattle.std.proofs.Common.{◌^◌, ℤ, pos, neg_ℤ, ◌≤ℤ◌, sym, ap, ◌∙◌, subst, arith, w64}
use Rattle.std.proofs.lemmas.Int.{ints, to_z_pos}
use Rattle.inputs.specs.Signs.{signed}
use Rattle.recoding.proofs.Machine.{Remains, remains}
use Rattle.recoding.proofs.Windows.{remainder_small}
use Rattle.recoding.proofs.window.remain.Goals as goal

pub overflow_sub-result : goal.overflow_sub-result
overflow_sub-result c =
    let s = remainder_small c.args.sizes.k c.args.sizes.b c.args.s c.args.h c.args.choice (omega arith, omega arith, omega arith, omega arith) c.ranges.s.fits c.requires.reached in
    omega (arith, ints, s, c.times_sign.ensures ∙ ap (signed c.args.choice.sign) (to_z_pos w64 c.args.s (omega arith)))

parts : (c : goal.After-times_carry) → Remains c.args.sizes.k c.args.sizes.b c.args.s c.args.h c.times_sign.result c.times_carry.result c.args.choice
parts c =
    remains c.args.sizes.k c.args.sizes.b c.args.s c.args.h c.span.result c.times_sign.result c.times_carry.result c.args.choice
    (remainder_small c.args.sizes.k c.args.sizes.b c.args.s c.args.h c.args.choice (omega arith, omega arith, omega arith, omega arith) c.ranges.s.fits c.requires.reached)
    c.span.ensures (c.times_sign.ensures ∙ ap (signed c.args.choice.sign) (to_z_pos w64 c.args.s (omega arith))) c.times_carry.ensures

pub overflow_sub-result-2 : goal.overflow_sub-result-2
overflow_sub-result-2 c = (parts c).fits

pub returns : goal.returns
returns c =
    let t = parts c in
    record {
      is = t.is;
      least = subst (λ (z : ℤ). neg_ℤ (pos (2 ^ 40)) ≤ℤ z) (sym t.is) t.about.0;
      most = subst (λ (z : ℤ). z ≤ℤ pos (2 ^ 40)) (sym t.is) t.about.1;
    }
