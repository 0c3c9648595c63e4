use Rattle.day.proofs.Narrowing.{narrow_start, narrow_room, narrow_one, narrow_none, narrowed}
use Rattle.day.proofs.narrow.near.Goals as goal
use Rattle.day.proofs.narrow.near.Goals.{then-meets, else-meets}

pub loop-at-init : goal.loop-at-init
loop-at-init c = narrow_start c.requires

pub bounds-found-n : goal.bounds-found-n
bounds-found-n c = narrow_room c.loop-at.invariant c.loop-at-test.true c.meets.ensures c.if-meets.true

pub loop-at-preserved : goal.loop-at-preserved
loop-at-preserved c =
    elim c.if-meets.branch [
      | then-meets w ↦ narrow_one c.loop-at.invariant c.loop-at-test.true c.meets.ensures w.if-meets.true w.found-is w.n-is
      | else-meets w ↦ narrow_none c.loop-at.invariant c.loop-at-test.true c.meets.ensures w.if-meets.false w.found-is w.n-is
    ]

pub returns : goal.returns
returns c = narrowed c.loop-at.invariant c.loop-at-test.false
