-- A now that counts is judged first, then the window, then the rest.
use Rattle.std.proofs.Common.{ℕ, ℤ, Bool, not, cond, ◌&&◌, ap, ap₂, w64, ◌∙◌, arith}
use Rattle.std.proofs.lemmas.Result.{err_from_is_err_and}
use Rattle.wire.specs.Signs.{placed}
use Rattle.records.specs.Book.{inside, instants}
use Rattle.lend.proofs.Refusals.{refuses}
use Rattle.query.specs.Judging.{window_of}
use Rattle.board.proofs.Telling.{now_passes, cells_outside, cells_refused, placed_order, cells_told}
use mir.ValLaws.{to_z-of_z}
use Rattle.board.proofs.cells.cells_answer.Goals as goal

-- the judgement of a now, by its number
abbrev now_by : Bool → ℤ → ℕ
now_by marked at = cond (marked && not (inside instants at)) 10 0

pub returns-in_err-judged_now : goal.returns-in_err-judged_now
returns-in_err-judged_now c =
    let p = err_from_is_err_and c.from_residual.result c.from_residual.ensures.1 in
    let number = c.in_err-judged_now.ensures ∙ ap (now_by c.args.marked) (to_z-of_z w64 c.args.at c.ranges.at) in
    rw (p.1, p.2) (cells_outside _ _ _ _ _ _ _ number (refuses c.in_err-judged_now.field-0.0))

pub returns-in_err-asked_window : goal.returns-in_err-asked_window
returns-in_err-asked_window c =
    let now = now_passes _ (c.in_ok-judged_now.ensures ∙ ap (now_by c.args.marked) (to_z-of_z w64 c.args.at c.ranges.at)) in
    let window = ap₂ window_of (to_z-of_z w64 c.args.start c.ranges.start) (to_z-of_z w64 c.args.end c.ranges.end) in
    let p = err_from_is_err_and c.from_residual-in_err-asked_window.result c.from_residual-in_err-asked_window.ensures.1 in
    rw (p.1, p.2) (cells_refused _ _ _ _ _ _ _ now (c.in_err-asked_window.ensures.1 ∙ window))

pub tell_cells-requires : goal.tell_cells-requires
tell_cells-requires c =
    let now = now_passes _ (c.in_ok-judged_now.ensures ∙ ap (now_by c.args.marked) (to_z-of_z w64 c.args.at c.ranges.at)) in
    let window = ap₂ window_of (to_z-of_z w64 c.args.start c.ranges.start) (to_z-of_z w64 c.args.end c.ranges.end) in
    let order = placed_order c.args.row.now c.args.start c.args.end c.args.columns c.args.marked c.args.at c.args.out.now now
    (c.in_ok-asked_window.ensures.1 ∙ window) in
    let start = c.from.ensures ∙ ap (placed w64) (to_z-of_z w64 c.args.start c.ranges.start) in
    let end = c.from-2.ensures ∙ ap (placed w64) (to_z-of_z w64 c.args.end c.ranges.end) in
    omega (arith, start, end, order)

pub returns : goal.returns
returns c =
    let now = now_passes _ (c.in_ok-judged_now.ensures ∙ ap (now_by c.args.marked) (to_z-of_z w64 c.args.at c.ranges.at)) in
    let window = ap₂ window_of (to_z-of_z w64 c.args.start c.ranges.start) (to_z-of_z w64 c.args.end c.ranges.end) in
    let start = c.from.ensures ∙ ap (placed w64) (to_z-of_z w64 c.args.start c.ranges.start) in
    let end = c.from-2.ensures ∙ ap (placed w64) (to_z-of_z w64 c.args.end c.ranges.end) in
    let at = c.from-3.ensures ∙ ap (placed w64) (to_z-of_z w64 c.args.at c.ranges.at) in
    let columns = to_z-of_z w64 c.args.columns c.ranges.columns in
    cells_told _ _ _ _ _ _ _ now (c.in_ok-asked_window.ensures.1 ∙ window) _ _ (rw (← start, ← end, ← at, ← columns) c.tell_cells.ensures)
