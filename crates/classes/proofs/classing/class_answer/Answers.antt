-- At an instant in range the row is judged, and no mark follows it.
use Rattle.std.proofs.Common.{ap, w64, ◌∙◌}
use Rattle.std.proofs.lemmas.Result.{err_from_is_err_and}
use Rattle.wire.specs.Signs.{placed}
use Rattle.query.proofs.Instants.{asked_outside, asked_in, number_outside}
use Rattle.rows.proofs.Laws.{row_begin}
use Rattle.classes.specs.Classes.{judged_class}
use Rattle.classes.proofs.Replying.{class_outside, class_judged, class_bad, class_good}
use mir.ValLaws.{to_z-of_z}
use Rattle.classes.proofs.classing.class_answer.Goals as goal

pub returns-in_err-asked_at : goal.returns-in_err-asked_at
returns-in_err-asked_at c =
    let out = asked_outside c.args.at c.ranges.at c.asked_at.ensures.1 c.in_err-asked_at.was in
    let p = err_from_is_err_and c.from_residual.result c.from_residual.ensures.1 in
    rw (p.1, p.2) (class_outside _ _ _ out (number_outside c.args.at c.ranges.at out c.in_err-asked_at.ensures.0))

pub returns-in_err-classed : goal.returns-in_err-classed
returns-in_err-classed c =
    let in_range = asked_in c.args.at c.ranges.at c.asked_at.ensures.1 c.in_ok-asked_at.was in
    let bad = c.in_err-classed.ensures in
    let p = err_from_is_err_and c.from_residual-in_err-classed.result c.from_residual-in_err-classed.ensures.1 in
    rw (p.1, p.2) (class_judged _ _ in_range.1 (class_bad _ _ _ (row_begin _ ∙ bad.1) bad.0))

pub returns-in-None : goal.returns-in-None
returns-in-None c =
    let in_range = asked_in c.args.at c.ranges.at c.asked_at.ensures.1 c.in_ok-asked_at.was in
    let only = rw c.in-None.is at c.in_ok-classed.ensures in
    let instant = c.from.ensures ∙ ap (placed w64) (to_z-of_z w64 _ c.ranges.at) in
    class_judged _ _ in_range.1
    (class_good _ _ _ (row_begin _ ∙ only.good) only.shown ∙ ap (judged_class c.args.row.now) instant)
