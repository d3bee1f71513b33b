use Rattle.std.proofs.Common.{◌≡◌, ◌+◌, ◌∷◌, get_or, drop, ℤ, pos, ◌+ℤ◌, ◌*ℤ◌, sym, ap, ◌∙◌, arith, w32, to_z, of_z}
use Rattle.std.proofs.lemmas.List.{drop-set, drop_more, drop_all}
use Rattle.std.proofs.lemmas.Int.{ints}
use Rattle.recoding.specs.Digits.{raised}
use Rattle.inputs.specs.Signs.{carry_value}
use Rattle.recoding.proofs.Windows.{carry_small}
use Rattle.recoding.proofs.recode.raise.Goals as goal

pub returns-then-i-words : goal.returns-then-i-words
returns-then-i-words c =
    let t = carry_small c.args.carry in
    let v : to_z w32 (of_z w32 (to_z w32 (of_z w32 (get_or c.args.words.now c.args.i (pos 0))) +ℤ to_z w32 (of_z w32 (pos 2 *ℤ to_z w32 (of_z w32 c.value.result)))))
    ≡ get_or c.args.words.now c.args.i (pos 0) +ℤ pos 2 *ℤ carry_value c.args.carry = omega (arith, ints, c.value.ensures) in
    drop-set c.args.words.now c.args.i _ c.if-i-words.true
    ∙ ap (λ (z : ℤ). z ∷ drop (c.args.i + 1) c.args.words.now) v
    ∙ sym (ap (raised c.args.carry) (drop_more c.args.words.now c.args.i (pos 0) c.if-i-words.true))

pub returns-else-i-words : goal.returns-else-i-words
returns-else-i-words c =
    let e = drop_all c.args.i c.args.words.now c.if-i-words.false in e ∙ sym (ap (raised c.args.carry) e)
