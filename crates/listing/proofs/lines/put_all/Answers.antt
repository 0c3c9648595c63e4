-- Each segment's lines are written behind those before it, and behind it the row goes on.
use Rattle.std.proofs.Common.{arith}
use Rattle.rows.proofs.Laws.{row_in, segmented, end_inside, end_after, row_on}
use Rattle.listing.proofs.Reading.{list_one, list_over}
use Rattle.listing.proofs.Writing.{begins, fits_next, goes_on}
use Rattle.listing.proofs.lines.put_all.Goals as goal

pub loop-from-init : goal.loop-from-init
loop-from-init c = (row_in _ c.requires.0, begins _ _ _ c.requires.1)

pub read_segment-g-requires : goal.read_segment-g-requires
read_segment-g-requires c = (segmented _ _ c.loop-from.invariant.0 c.loop-from-test.true).segment

pub put_segment-place-requires : goal.put_segment-place-requires
put_segment-place-requires c =
    let here = segmented _ _ c.loop-from.invariant.0 c.loop-from-test.true in
    (end_inside here c.read_segment-g.ensures, fits_next _ (list_one c.loop-from.invariant.1 here c.read_segment-g.ensures))

pub end_of-from-requires : goal.end_of-from-requires
end_of-from-requires c =
    let here = segmented _ _ c.loop-from.invariant.0 c.loop-from-test.true in
    omega (arith, end_inside here c.read_segment-g.ensures)

pub loop-from-smaller : goal.loop-from-smaller
loop-from-smaller c =
    let here = segmented _ _ c.loop-from.invariant.0 c.loop-from-test.true in
    let inside = end_inside here c.read_segment-g.ensures in
    let after = end_after here c.read_segment-g.ensures in
    omega (arith, inside, after, c.end_of-from.ensures)

pub loop-from-preserved : goal.loop-from-preserved
loop-from-preserved c =
    let read = c.read_segment-g.ensures in
    let here = segmented _ _ c.loop-from.invariant.0 c.loop-from-test.true in
    rw c.end_of-from.ensures (row_on here read, goes_on (list_one c.loop-from.invariant.1 here read) c.put_segment-place.ensures)

pub returns : goal.returns
returns c = list_over c.args.answer.now _ c.loop-from.invariant.1 c.loop-from-test.false
