-- An odd rest takes the term along.
use Rattle.std.proofs.Common.{arith}
use Rattle.board.proofs.Columns.{share_even, share_odd}
use Rattle.board.proofs.grid.share.Goals as goal
use Rattle.board.proofs.grid.share.Goals.{then-left-eq1, else-left-eq1}

pub loop-left-preserved : goal.loop-left-preserved
loop-left-preserved c =
    let pre = c.requires in
    let sharing = c.loop-left.invariant in
    let left = c.loop-left-test.true in
    let twice = c.plus-term.ensures in
    elim c.if-left-eq1.branch [
      | then-left-eq1 w ↦ rw w.sum-is (share_odd _ _ _ pre.0 pre.1 _ _ _ sharing left _ twice w.if-left-eq1.true _ w.plus-sum.ensures)
      | else-left-eq1 w ↦ rw w.sum-is (share_even _ _ _ pre.0 pre.1 _ _ _ sharing left _ twice (omega (arith, w.if-left-eq1.false)))
    ]
