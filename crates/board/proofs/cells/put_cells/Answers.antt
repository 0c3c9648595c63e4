-- Where a segment stands the cells are blank up to it and then show it; where none is left they are blank.
use Rattle.std.proofs.Common.{arith}
use Rattle.rows.proofs.Places.{segments_end}
use Rattle.rows.proofs.Laws.{segmented, end_inside, end_after}
use Rattle.board.proofs.Columns.{first_column}
use Rattle.board.proofs.Drawn.{draw_start, all_filled, draw_blank, draw_on}
use Rattle.board.proofs.cells.put_cells.Goals as goal

pub loop-column-init : goal.loop-column-init
loop-column-init c = let pre = c.requires in (first_column _ pre.1, draw_start _ pre.1 _ _ pre.2 pre.0)

pub loop-column-smaller-then-at-row : goal.loop-column-smaller-then-at-row
loop-column-smaller-then-at-row c =
    let pre = c.requires in
    let none_left = segments_end c.args.row.now _ c.if-at-row.true in
    omega (arith, c.loop-column-test.true, all_filled _ pre.1 _ _ pre.2 _ _ _ c.loop-column.invariant.1 none_left _ _ c.fill-column.ensures.1)

pub loop-column-preserved-then-at-row : goal.loop-column-preserved-then-at-row
loop-column-preserved-then-at-row c =
    let pre = c.requires in
    let none_left = segments_end c.args.row.now _ c.if-at-row.true in
    (c.fill-column.ensures.0, draw_blank _ pre.1 _ _ pre.2 _ _ _ c.loop-column.invariant.1 none_left _ _ c.fill-column.ensures.1)

pub read_segment-g-requires : goal.read_segment-g-requires
read_segment-g-requires c = (segmented _ _ c.loop-column.invariant.1.ahead.on c.if-at-row.false).segment

pub end_of-at-requires : goal.end_of-at-requires
end_of-at-requires c =
    let here = segmented _ _ c.loop-column.invariant.1.ahead.on c.if-at-row.false in
    omega (arith, end_inside here c.read_segment-g.ensures)

pub loop-column-smaller : goal.loop-column-smaller
loop-column-smaller c =
    let here = segmented _ _ c.loop-column.invariant.1.ahead.on c.if-at-row.false in
    let inside = end_inside here c.read_segment-g.ensures in
    let after = end_after here c.read_segment-g.ensures in
    omega (arith, inside, after, c.fill-held.ensures.1.after, c.fill-column-else-at-row.ensures.1.after, c.end_of-at.ensures)

pub loop-column-preserved : goal.loop-column-preserved
loop-column-preserved c =
    let pre = c.requires in
    let here = segmented _ _ c.loop-column.invariant.1.ahead.on c.if-at-row.false in
    let drawn =
    draw_on _ pre.1 _ _ pre.2 _ _ _ c.loop-column.invariant.1 _ c.read_segment-g.ensures here
    _ _ _ _ _ c.fill-held.ensures.1 c.glyph_of.ensures c.fill-column-else-at-row.ensures.1 in
    (c.fill-column-else-at-row.ensures.0, rw c.end_of-at.ensures drawn)
