-- Each cell is written where it stands, until the limit or the last column.
use Rattle.board.proofs.Drawn.{fill_start, fill_one, fill_limit, fill_end}
use Rattle.board.proofs.cells.fill.Goals as goal

pub loop-column-init : goal.loop-column-init
loop-column-init c = let pre = c.requires in (pre.2, fill_start _ pre.0 _ _ _ _ pre.3 pre.2.inside)

pub returns-then-limit-column : goal.returns-then-limit-column
returns-then-limit-column c =
    let pre = c.requires in
    let filling = c.loop-column.invariant in
    (filling.0, fill_limit _ pre.0 _ _ _ _ pre.3 _ _ filling.1 _ filling.0.at c.if-limit-column.true)

pub loop-column-preserved : goal.loop-column-preserved
loop-column-preserved c =
    let pre = c.requires in
    let filling = c.loop-column.invariant in
    let on = c.next_column-column.ensures in (
      on.0,
      fill_one _ pre.0 _ _ _ _ pre.3 _ _ filling.1 c.loop-column-test.true _ filling.0.at c.if-limit-column.false _ c.cell_or.ensures _ on.1,
    )

pub returns : goal.returns
returns c =
    let pre = c.requires in
    let filling = c.loop-column.invariant in
    (filling.0, fill_end _ pre.0 _ _ _ _ pre.3 _ _ filling.1 c.loop-column-test.false)
