-- What is found so far, and the class of what is left, are the row's. Each record read leaves fewer bytes.
use Rattle.std.proofs.Common.{◌-◌, length}
use Rattle.classes.proofs.Shown.{Along}
use Rattle.classes.proofs.classing.row_class.Given as goal

abbrev pub invariant-loop-g : goal.invariant-loop-g
invariant-loop-g l = Along l.marks l.rows l.start l.t l.at l.least l.waiting l.shown

abbrev pub decreases-loop-g : goal.decreases-loop-g
decreases-loop-g l = length l.rows - l.at
