-- What is left is good just when the row is. Each record read leaves fewer bytes.
use Rattle.std.proofs.Common.{false, ◌-◌, length}
use Rattle.rows.specs.Rows.{good_row}
use Rattle.rows.proofs.Steps.{Going}
use Rattle.rows.proofs.judge.good_row.Given as goal

abbrev pub invariant-loop-g : goal.invariant-loop-g
invariant-loop-g l = Going false l.row (good_row l.row) l.at l.least l.waiting

abbrev pub decreases-loop-g : goal.decreases-loop-g
decreases-loop-g l = length l.row - l.at
