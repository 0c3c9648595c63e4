-- The sum, and the term as often as is left, are the product. What is left is halved.
use Rattle.board.proofs.Columns.{Sharing}
use Rattle.board.proofs.grid.share.Given as goal

abbrev pub invariant-loop-left : goal.invariant-loop-left
invariant-loop-left l = Sharing l.gone l.columns l.span l.sum l.term l.left

abbrev pub decreases-loop-left : goal.decreases-loop-left
decreases-loop-left l = l.left
