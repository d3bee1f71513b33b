use Rattle.std.proofs.Common.{◌≡◌, ℕ, ◌+◌, [], map, length, ap, ◌∙◌, ap₂, sym, arith}
use Rattle.std.proofs.lemmas.List.{append-nil}
use Rattle.inputs.specs.Rules.{Rule}
use Rattle.recoding.specs.Digits.{decoded}
use Rattle.steps.specs.Operations.{climbed, doublings}
use Rattle.multiplier.specs.Tables.{evaluated, table_cells}
use Rattle.multiplier.proofs.Layouts.{limits_back}
use Rattle.multiplier.proofs.Reading.{digits_reach, evaluated_is}
use Rattle.multiplier.proofs.multiply.multiply_coded.Goals as goal

pub evaluate-value-requires-clause-digits : goal.evaluate-value-requires-clause-digits
evaluate-value-requires-clause-digits g c =
    let R : Rule = g.R.SignRule.rule c.args.rule.now in
    let z = c.args.sizes in
    let l = c.new-layout.ensures in
    let down : ℕ = c.new-layout.result.down in
    let up : ℕ = c.new-layout.result.up in
    let limits = limits_back R z (g.met.R.SignRule.lawful c.args.rule.now) down up l.down l.up in
    let long : length c.build.new.self.cells.now ≡ length c.args.cells.now = c.build.ensures.long ∙ ap length c.new-table.ensures.holds in
    digits_reach (length c.build.new.self.cells.now) down up _ _ limits.0 limits.1 (omega (arith, long, c.requires.cells, l.needed)) (map decoded c.args.words.now) c.requires.digits

pub returns-clause-value : goal.returns-clause-value
returns-clause-value g c =
    let G = g.D.GroupDevice.group c.args.device.now in
    let R : Rule = g.R.SignRule.rule c.args.rule.now in
    let z = c.args.sizes in
    let l = c.new-layout.ensures in
    let down : ℕ = c.new-layout.result.down in
    let up : ℕ = c.new-layout.result.up in
    let top : ℕ = c.new-layout.result.top in
    let base = c.args.base in
    let s : ℕ = c.args.coded.draw.value in
    let limits = limits_back R z (g.met.R.SignRule.lawful c.args.rule.now) down up l.down l.up in
    let F = λ (b s : ℕ). table_cells G down up top (doublings G b base) (climbed G base b s) base in
    let cells_are : c.build.new.self.cells.now ≡ F z.b s = c.build.ensures.cells ∙ ap₂ F c.draw_width.ensures c.draw_value-s.ensures in
    c.evaluate-value.ensures.value
    ∙ ap (λ h. evaluated h c.build.new.self.cells.now down (down + up + 1) z.k z.b base c.args.words.now c.args.coded.correction c.args.bit) c.build.ensures.same
    ∙ ap (λ cs. evaluated G cs down (down + up + 1) z.k z.b base c.args.words.now c.args.coded.correction c.args.bit) (cells_are ∙ sym (append-nil (F z.b s)))
    ∙ evaluated_is G [] down up top z.k z.b s base (omega (arith, z.k_least)) l.top (R.lo z.k z.b) (R.hi z.k z.b) limits.0 limits.1 c.args.words.now c.requires.digits c.args.coded.correction c.args.bit
