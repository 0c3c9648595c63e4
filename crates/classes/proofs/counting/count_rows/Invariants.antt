-- The sum of the rows before the place, and those from there on, are all. Each row leaves fewer bytes.
use Rattle.std.proofs.Common.{◌-◌, length}
use Rattle.classes.proofs.Sums.{Summing}
use Rattle.classes.proofs.counting.count_rows.Given as goal

abbrev pub invariant-loop-classed : goal.invariant-loop-classed
invariant-loop-classed l = Summing l.rows l.t l.at l.sum

abbrev pub decreases-loop-classed : goal.decreases-loop-classed
decreases-loop-classed l = length l.rows - l.at
