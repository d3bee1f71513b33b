use Rattle.std.proofs.Common.{ℕ, [], ◌∷◌, length, ap, subst}
use Rattle.inputs.specs.Rules.{Rule}
use Rattle.multiplier.specs.Calls.{Made, asked}
use Rattle.multiplier.proofs.Lawfully.{goes_on_by, lawful_one}
use Rattle.multiplier.proofs.multiply.multiply.Goals as goal

pub returns-clause-goes_on : goal.returns-clause-goes_on
returns-clause-goes_on g c =
    let d = g.D.GroupDevice in
    let s = c.args.device.now in
    let G = d.group s in
    let law = g.met.D.GroupDevice.lawful s in
    let R : Rule = g.R.SignRule.rule c.args.rule.now in
    let w = c.args.draws.now in
    let made-with = λ (words : ℕ). asked R c.args.sizes c.args.key.now c.args.base w.bytes.now w.mark (length c.args.cells.now) words c.attempt.result c.attempt.new.draws.mark in
    let long = ap length c.new-guard.ensures.holds in
    let made = subst (λ (n : ℕ). Made d.group d.tally s (made-with n) c.attempt.new.device) long c.attempt.ensures.made in
    let call = made-with (length c.args.words.now) in
    goes_on_by G law (d.tally s) (call ∷ []) (d.tally c.attempt.new.device) (lawful_one G law (d.tally s) call (d.tally c.attempt.new.device) made.answered made.counted)
