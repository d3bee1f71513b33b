use Rattle.std.proofs.Common.{◌≡◌, true, length, arith}
use Rattle.inputs.specs.Sizes.{outside}
use Rattle.std.proofs.lemmas.Bool.Decides.{nat_tests}
use Rattle.inputs.proofs.Keys.{length_refused, size_refused, size_taken}
use Rattle.inputs.proofs.key.check_key.Goals as goal

pub returns-then-key-lt1 : goal.returns-then-key-lt1
returns-then-key-lt1 c =
    let o = c.then-key-lt1.either in
    let e : outside (length c.args.key.now) 1 16 ≡ true = grind (arith, nat_tests) in
    length_refused c.args.sizes c.args.key.now e

pub returns-in-Some : goal.returns-in-Some
returns-in-Some c =
    let h = c.in-Some.ensures in
    size_refused c.args.sizes c.args.key.now (omega arith) (omega arith) c.in-Some.bit (λ i. (c.type_inv.key i).fits) h.0 h.1 (omega arith)

pub returns-in_default : goal.returns-in_default
returns-in_default c =
    let h = c.in-Some.ensures in
    size_taken c.args.sizes c.args.key.now (omega arith) (omega arith) _ h.1 (omega arith)
