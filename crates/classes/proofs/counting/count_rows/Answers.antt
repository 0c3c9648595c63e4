-- Each row is added to those before it, and the last makes the sum whole.
use Rattle.std.proofs.Common.{◌∙◌}
use Rattle.classes.proofs.Replying.{count_good}
use Rattle.classes.proofs.Sums.{sum_start, sum_on, sum_end}
use Rattle.classes.proofs.counting.count_rows.Goals as goal

pub loop-classed-init : goal.loop-classed-init
loop-classed-init c = sum_start _ _ c.requires

pub returns-in-None : goal.returns-in-None
returns-in-None c =
    let only = rw c.in-None.is at c.in_ok-classed.ensures in
    count_good _ _ _ (c.loop-classed.invariant.good ∙ only.good) (sum_end _ _ c.loop-classed.invariant c.add-sum.ensures only)

pub loop-classed-preserved : goal.loop-classed-preserved
loop-classed-preserved c =
    sum_on _ _ c.loop-classed.invariant c.add-sum.ensures (rw c.in-Some.is at c.in_ok-classed.ensures)
