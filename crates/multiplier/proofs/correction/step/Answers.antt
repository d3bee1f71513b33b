use Rattle.std.proofs.Common.{◌^◌, ◌≤◌, nat_abs, ap, ◌∙◌, arith, pow_pos, pow_mono, w64, SFits, rules}
use Rattle.std.proofs.lemmas.Int.{to_z-of_z}
use Rattle.multiplier.proofs.correction.step.Goals as goal

pub returns-clause-small : goal.returns-clause-small
returns-clause-small c =
    let z = c.args.sizes in
    let f : SFits w64 c.step.result = search rules in
    let is = ap nat_abs (to_z-of_z w64 c.step.result f ∙ c.step.ensures) in
    let most : 2 ^ z.k ≤ 2 ^ 6 = pow_mono z.k_most in
    let some = pow_pos z.k in
    (omega (arith, some, is), omega (arith, most, is))
