use Rattle.std.proofs.Common.{◌≡◌, take}
use Rattle.steps.specs.Operations.{additions}
use Rattle.steps.specs.Work.{many_additions}
use Rattle.multiplier.specs.Tables.{risen}
use Rattle.multiplier.proofs.table.fill_up.Given as goal

abbrev pub invariant-loop-cell : goal.invariant-loop-cell
invariant-loop-cell g l =
    let d = g.D.GroupDevice in
    let G = d.group l.initial.device in
    (take l.cell-index l.cells ≡ risen G l.cell-index l.step l.initial.sum)
    × (l.sum ≡ additions G l.cell-index l.step l.initial.sum)
    × (d.group l.device ≡ G)
    × (d.tally l.device ≡ many_additions l.cell-index (d.tally l.initial.device))
