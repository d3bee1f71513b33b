use Rattle.std.proofs.Common.{◌≡◌, replicate}
use lib.Seq.{paste}
use Rattle.multiplier.proofs.table.wipe_cells.Given as goal

abbrev pub invariant-loop-cell : goal.invariant-loop-cell
invariant-loop-cell g l = l.cells ≡ paste l.initial.cells 0 (replicate l.cell-index l.e) l.cell-index
