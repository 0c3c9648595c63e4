-- The reply by the order of the numbers, and the cells enclosed by brackets.
use Rattle.std.proofs.Common.{sym, ap, w64, ◌∙◌}
use Rattle.board.specs.Cells.{columns_of}
use Rattle.board.proofs.Telling.{told_many, told_bad, told_short, told}
use mir.ValLaws.{to_z-of_z}
use Rattle.board.proofs.cells.tell_cells.Goals as goal

pub returns-then-many-gt-MOST : goal.returns-then-many-gt-MOST
returns-then-many-gt-MOST c =
    let many = c.columns_of-many.ensures ∙ ap columns_of (to_z-of_z w64 c.args.columns c.ranges.columns) in
    told_many _ _ _ c.args.columns c.args.marked c.args.at.0 _ _ many c.if-many-gt-MOST.true

pub returns-then-not-good_row : goal.returns-then-not-good_row
returns-then-not-good_row c =
    let many = c.columns_of-many.ensures ∙ ap columns_of (to_z-of_z w64 c.args.columns c.ranges.columns) in
    told_bad _ _ _ c.args.columns c.args.marked c.args.at.0 _ _ many c.if-many-gt-MOST.false
    (sym c.good_row.ensures ∙ c.if-not-good_row.true)

pub returns-then-out-length : goal.returns-then-out-length
returns-then-out-length c =
    let many = c.columns_of-many.ensures ∙ ap columns_of (to_z-of_z w64 c.args.columns c.ranges.columns) in
    told_short _ _ _ c.args.columns c.args.marked c.args.at.0 _ _ many c.if-many-gt-MOST.false
    (sym c.good_row.ensures ∙ c.if-not-good_row.false) c.if-out-length.true

pub returns : goal.returns
returns c =
    let many = c.columns_of-many.ensures ∙ ap columns_of (to_z-of_z w64 c.args.columns c.ranges.columns) in
    told _ _ _ c.args.columns c.args.marked c.args.at.0 _ _ many c.if-many-gt-MOST.false
    (sym c.good_row.ensures ∙ c.if-not-good_row.false) c.if-out-length.false _ c.marker_of-marker.ensures _ c.put_cells.ensures
