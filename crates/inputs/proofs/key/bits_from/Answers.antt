use Rattle.std.proofs.Common.{arith}
use Rattle.std.proofs.lemmas.Nat.{one_shl}
use Rattle.inputs.proofs.Words.{two_words}
use Rattle.inputs.proofs.key.bits_from.Goals as goal

pub returns : goal.returns
returns c =
    let e = one_shl c.args.width 64 (omega arith) in
    let t = two_words c.args.key.now c.args.from c.args.width (λ i. (c.type_inv.key i).fits) c.requires in
    cc
