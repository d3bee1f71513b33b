use Rattle.std.proofs.Common.{sym, ap, ◌∙◌, arith}
use Rattle.recoding.specs.Codings.{check_refusal}
use Rattle.inputs.specs.Draws.{draw_refusal}
use Rattle.inputs.specs.Rules.{Rule}
use Rattle.recoding.proofs.Tests.{first_passes, draw_taken, width_refused, value_refused}
use Rattle.recoding.proofs.recode.check_recoding.Goals as goal

pub returns-then-width-draw_width : goal.returns-then-width-draw_width
returns-then-width-draw_width g c =
    let R : Rule = g.R.SignRule.rule c.args.rule.now in
    first_passes (check_refusal c.args.sizes c.args.key.now c.args.words) (draw_refusal R c.args.sizes c.args.draw.now) c.in_ok-check_lent.ensures
    ∙ width_refused R c.args.sizes c.args.draw.now (λ e. c.if-width-draw_width.true (c.width.ensures ∙ e ∙ sym c.draw_width.ensures))

pub returns-then-not-admits : goal.returns-then-not-admits
returns-then-not-admits g c =
    let R : Rule = g.R.SignRule.rule c.args.rule.now in
    let z = c.args.sizes in
    first_passes (check_refusal z c.args.key.now c.args.words) (draw_refusal R z c.args.draw.now) c.in_ok-check_lent.ensures
    ∙ value_refused R z c.args.draw.now (omega arith) (ap (R.admits z.k z.b) (sym c.value.ensures) ∙ sym c.admits.ensures ∙ c.if-not-admits.true)

pub returns : goal.returns
returns g c =
    let R : Rule = g.R.SignRule.rule c.args.rule.now in
    let z = c.args.sizes in
    first_passes (check_refusal z c.args.key.now c.args.words) (draw_refusal R z c.args.draw.now) c.in_ok-check_lent.ensures
    ∙ draw_taken R z c.args.draw.now (omega arith) (ap (R.admits z.k z.b) (sym c.value.ensures) ∙ sym c.admits.ensures ∙ c.if-not-admits.false)
