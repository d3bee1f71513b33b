use Rattle.std.proofs.Common.{◌≡◌, ℕ, ◌%◌, ◌<◌, arith}
use Rattle.groups.proofs.Inverses.{ninth_power, inverts}
use Rattle.groups.proofs.curve.residue.Residue.inverse.Goals as goal

pub returns-clause-value : goal.returns-clause-value
returns-clause-value c =
    let a = c.args.self.value in
    let same : a % 11 ≡ a = omega (arith, c.args.self.reduced) in
    let power = ninth_power a (omega (arith, c.args.self.reduced)) in cc

pub returns-clause-inverts : goal.returns-clause-inverts
returns-clause-inverts c =
    let a = c.args.self.value in
    let same : a % 11 ≡ a = omega (arith, c.args.self.reduced) in
    let power = ninth_power a (omega (arith, c.args.self.reduced)) in
    λ some. let one = inverts a (omega (arith, c.args.self.reduced)) (omega (arith, same, some)) in cc
