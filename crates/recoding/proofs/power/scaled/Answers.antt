use Rattle.std.proofs.Common.{◌^◌, sym, subst}
use Rattle.recoding.proofs.Machine.{About, scaled_is}
use Rattle.recoding.proofs.power.scaled.Goals as goal

pub overflow_mul-result : goal.overflow_mul-result
overflow_mul-result c = (scaled_is c.args.factor c.args.z c.requires.factor.0 c.requires.factor.1 c.requires.small).fits

pub returns : goal.returns
returns c =
    let t = scaled_is c.args.factor c.args.z c.requires.factor.0 c.requires.factor.1 c.requires.small in
    let a = subst (About (2 ^ 61)) (sym t.is) t.about in
    record { is = t.is; least = a.0; most = a.1 }
