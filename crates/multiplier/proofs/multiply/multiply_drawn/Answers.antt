use Rattle.std.proofs.Common.{◌≡◌, ℕ, ◌-◌, ◌≤◌, List, map, length, take, ℤ, Ok, ap, ◌∙◌, ap₂, arith, rules}
use Rattle.inputs.specs.Keys.{half}
use Rattle.inputs.specs.Rules.{Rule}
use Rattle.inputs.specs.declared.draw.Draw.{Draw}
use Rattle.recoding.specs.declared.digit.Digit.{Digit}
use Rattle.recoding.specs.Codings.{Accepted, digits_in}
use Rattle.recoding.specs.Digits.{decoded}
use Rattle.recoding.specs.Windows.{recoding}
use Rattle.steps.specs.Steps.{multiplied}
use Rattle.recoding.proofs.Tests.{lent}
use Rattle.multiplier.proofs.Taken.{digits_held}
use Rattle.multiplier.proofs.multiply.multiply_drawn.Goals as goal

pub slice_bounds-digits-end : goal.slice_bounds-digits-end
slice_bounds-digits-end g c =
    let l = lent (g.R.SignRule.rule c.args.rule.now) c.args.sizes c.args.key.now (length c.args.words.now) c.args.draw c.requires.untested in
    let h : c.windows.result ≤ length c.recode.new.words = omega (arith, l.enough, c.recode.auto.words, c.windows.ensures) in
    search (rules, h)

pub returns-clause-value : goal.returns-clause-value
returns-clause-value g c =
    let G = g.D.GroupDevice.group c.args.device.now in
    let R : Rule = g.R.SignRule.rule c.args.rule.now in
    let z = c.args.sizes in
    let base = c.args.base in
    let key = c.args.key.now in
    let d : ℕ = c.args.draw.value in
    let l = lent R z key (length c.args.words.now) c.args.draw c.requires.untested in
    let ws : List ℤ = c.recode.new.words in
    let coded = c.in_ok-coded.coded in
    let made : Accepted R z key c.args.draw c.args.words.now coded ws = search rules in
    let all = c.multiply_coded.ensures in
    let count : c.windows.result - 0 ≡ z.m = omega (arith, c.windows.ensures) in
    let held = digits_held z (recoding R z d (half key)).digits c.args.words.now ws made.words c.recode.auto.words l.enough in
    let F = λ (s : ℕ) (ds : List Digit) (x : ℤ) (bit : ℕ). multiplied G z.k z.b base s ds x bit in
    ap Ok (
    all.value
    ∙ ap (λ (n : ℕ). F coded.draw.value (map decoded (take n ws)) coded.correction c.lowest_bit-bit.result) count
    ∙ ap (λ (x : Draw). F x.value (digits_in z ws) coded.correction c.lowest_bit-bit.result) made.draw
    ∙ ap₂ (λ (ds : List Digit) (x : ℤ). F d ds x c.lowest_bit-bit.result) held made.correction
    ∙ ap (F d (recoding R z d (half key)).digits (recoding R z d (half key)).left) c.lowest_bit-bit.ensures
    )
