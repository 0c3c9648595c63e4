-- The cells from the first on to before the column have instants before the limit, and are written.
use Rattle.std.proofs.Common.{◌-◌}
use Rattle.board.specs.Private.{ColumnOf}
use Rattle.board.proofs.Drawn.{Filling}
use Rattle.board.proofs.cells.fill.Given as goal

abbrev pub invariant-loop-column : goal.invariant-loop-column
invariant-loop-column l = ColumnOf l.grid l.column × Filling l.grid l.fn.first.c l.limit l.byte l.fn.out l.out l.column.c

abbrev pub decreases-loop-column : goal.decreases-loop-column
decreases-loop-column l = l.grid.columns - l.column.c
