use Rattle.std.proofs.Common.{ℕ, ap, ◌∙◌, add-one, arith}
use Rattle.groups.specs.Groups.{added}
use Rattle.groups.specs.Tally.{one_addition}
use Rattle.multiplier.proofs.Filling.{risen_more}
use Rattle.multiplier.proofs.table.fill_up.Goals as goal

pub loop-cell-preserved : goal.loop-cell-preserved
loop-cell-preserved g c =
    let G = g.D.GroupDevice.group c.args.device.now in
    let inv = c.loop-cell.invariant in
    let more = c.add-sum.ensures in
    let i : ℕ = c.loop-cell.cell-index in
    let step = c.args.step in
    let sum = more.value ∙ ap (λ h. added h c.loop-cell.sum step) inv.2 in
    rw (add-one i) (
      risen_more G c.loop-cell.cells i step c.args.value c.loop-cell.sum c.add-sum.result (omega (arith, c.loop-cell-test.true, c.loop-cell.auto.cells)) inv.0 inv.1 sum,
      sum ∙ ap (λ x. added G x step) inv.1,
      more.same ∙ inv.2,
      more.counted ∙ ap one_addition inv.3,
    )
