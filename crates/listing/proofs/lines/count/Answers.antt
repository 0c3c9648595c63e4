-- Each segment counts as one, and behind it the row goes on.
use Rattle.std.proofs.Common.{arith}
use Rattle.rows.proofs.Laws.{segmented, end_inside, end_after}
use Rattle.listing.proofs.Reading.{count_none, count_one, count_over}
use Rattle.listing.proofs.lines.count.Goals as goal

pub loop-at-init : goal.loop-at-init
loop-at-init c = count_none c.requires

pub read_segment-g-requires : goal.read_segment-g-requires
read_segment-g-requires c = (segmented _ _ c.loop-at.invariant.here c.loop-at-test.true).segment

pub end_of-at-requires : goal.end_of-at-requires
end_of-at-requires c =
    let here = segmented _ _ c.loop-at.invariant.here c.loop-at-test.true in
    omega (arith, end_inside here c.read_segment-g.ensures)

pub loop-at-smaller : goal.loop-at-smaller
loop-at-smaller c =
    let here = segmented _ _ c.loop-at.invariant.here c.loop-at-test.true in
    let inside = end_inside here c.read_segment-g.ensures in
    let after = end_after here c.read_segment-g.ensures in
    omega (arith, inside, after, c.end_of-at.ensures)

pub loop-at-preserved : goal.loop-at-preserved
loop-at-preserved c =
    let here = segmented _ _ c.loop-at.invariant.here c.loop-at-test.true in
    rw c.end_of-at.ensures (count_one c.loop-at.invariant here c.read_segment-g.ensures)

pub returns : goal.returns
returns c = count_over c.loop-at.invariant c.loop-at-test.false
