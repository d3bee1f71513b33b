use Rattle.std.proofs.Common.{◌^◌, ◌≤◌, arith, pow_mono}
use Rattle.std.proofs.lemmas.Nat.{one_shl}
use Rattle.std.proofs.lemmas.Int.{ints}
use Rattle.inputs.proofs.sizes.make.power.Goals as goal

pub overflow_cast-result-2 : goal.overflow_cast-result-2
overflow_cast-result-2 c =
    let p : 2 ^ c.args.n ≤ 2 ^ 40 = pow_mono c.requires in omega (arith, ints, one_shl c.args.n 64 (omega arith))

pub returns : goal.returns
returns c =
    let p : 2 ^ c.args.n ≤ 2 ^ 40 = pow_mono c.requires in omega (arith, ints, one_shl c.args.n 64 (omega arith))
