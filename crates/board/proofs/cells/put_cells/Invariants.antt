-- The cells before the column are drawn, and those from it on show what stands in the row from the place on.
use Rattle.std.proofs.Common.{◌+◌, ◌-◌, length}
use Rattle.board.specs.Private.{ColumnOf}
use Rattle.board.proofs.Drawn.{Drawing}
use Rattle.board.proofs.cells.put_cells.Given as goal

abbrev pub invariant-loop-column : goal.invariant-loop-column
invariant-loop-column l = ColumnOf l.grid l.column × Drawing l.grid l.row l.fn.out l.out l.at l.column.c

abbrev pub decreases-loop-column : goal.decreases-loop-column
decreases-loop-column l = (length l.row - l.at) + (l.grid.columns - l.column.c)
