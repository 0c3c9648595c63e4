-- The parts make a nanosecond more, or they do not.
use Rattle.std.proofs.Common.{refl, arith}
use Rattle.board.proofs.Columns.{on_fits, column_on, over_fits, column_over}
use Rattle.board.proofs.grid.next_column.Goals as goal

pub overflow_add-result-then-column-grid : goal.overflow_add-result-then-column-grid
overflow_add-result-then-column-grid c =
    let pre = c.requires in
    omega (arith, on_fits _ pre.0 _ pre.1 _ pre.2 pre.3 c.if-column-grid.true)

pub returns-then-column-grid : goal.returns-then-column-grid
returns-then-column-grid c = let pre = c.requires in (column_on _ pre.0 _ pre.1 _ pre.2 pre.3 c.if-column-grid.true, refl)

pub overflow_add-result-3 : goal.overflow_add-result-3
overflow_add-result-3 c = let pre = c.requires in omega (arith, over_fits _ pre.0 _ pre.1 _ pre.2 pre.3 c.if-column-grid.false)

pub overflow_add-result-4 : goal.overflow_add-result-4
overflow_add-result-4 c = let pre = c.requires in omega (arith, over_fits _ pre.0 _ pre.1 _ pre.2 pre.3 c.if-column-grid.false)

pub returns : goal.returns
returns c = let pre = c.requires in (column_over _ pre.0 _ pre.1 _ pre.2 pre.3 c.if-column-grid.false, refl)
