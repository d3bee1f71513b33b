use Rattle.std.proofs.Common.{zero-add, rules}
use Rattle.std.proofs.lemmas.List.Edits.{fill_from_more}
use Rattle.multiplier.proofs.table.wipe_cells.Goals as goal

pub loop-cell-preserved : goal.loop-cell-preserved
loop-cell-preserved g c = let h = fill_from_more c.args.cells.now 0 c.loop-cell.cell-index c.args.e (rw zero-add c.loop-cell-test.true) in search (rules, zero-add, h)
