-- At an instant in range the rows are judged by what stands first.
use Rattle.std.proofs.Common.{refl, sym, ap, w64, ◌∙◌, arith}
use Rattle.std.proofs.lemmas.Result.{err_from_is_err_and}
use Rattle.wire.specs.Signs.{placed}
use Rattle.lend.specs.declared.refusal.Refusal.TheVariants.{BadRow}
use Rattle.query.proofs.Instants.{asked_outside, asked_in, number_outside}
use Rattle.rows.proofs.Laws.{rows_bad, rows_unmarked}
use Rattle.rows.proofs.Steps.{stood, fell}
use Rattle.classes.specs.Classes.{judged_count}
use Rattle.classes.proofs.Replying.{count_outside, count_judged, count_bad, count_none}
use mir.ValLaws.{to_z-of_z}
use Rattle.classes.proofs.counting.count_answer.Goals as goal

pub returns-in_err-asked_at : goal.returns-in_err-asked_at
returns-in_err-asked_at c =
    let out = asked_outside c.args.at c.ranges.at c.asked_at.ensures.1 c.in_err-asked_at.was in
    let p = err_from_is_err_and c.from_residual.result c.from_residual.ensures.1 in
    rw (p.1, p.2) (count_outside _ _ _ out (number_outside c.args.at c.ranges.at out c.in_err-asked_at.ensures.0))

pub count_rows-requires : goal.count_rows-requires
count_rows-requires c = (stood _ _ _ _ _ (omega arith) c.stands_at.ensures c.in-Some-Mark.is c.in-Some-Mark.field-0-is).mark

pub returns-in-Some-End : goal.returns-in-Some-End
returns-in-Some-End c =
    let in_range = asked_in c.args.at c.ranges.at c.asked_at.ensures.1 c.in_ok-asked_at.was in
    let ends = stood _ _ _ _ _ (omega arith) c.stands_at.ensures c.in-Some-End.is c.in-Some-End.field-0-is in
    count_judged _ _ in_range.1 (count_none _ _ (sym ends.end))

pub returns-in-Some-Mark : goal.returns-in-Some-Mark
returns-in-Some-Mark c =
    let in_range = asked_in c.args.at c.ranges.at c.asked_at.ensures.1 c.in_ok-asked_at.was in
    let instant = c.from.ensures ∙ ap (placed w64) (to_z-of_z w64 _ c.ranges.at) in
    count_judged _ _ in_range.1 (c.count_rows.ensures ∙ ap (judged_count c.args.rows.now) instant)

pub returns-in-Some-Segment : goal.returns-in-Some-Segment
returns-in-Some-Segment c =
    let in_range = asked_in c.args.at c.ranges.at c.asked_at.ensures.1 c.in_ok-asked_at.was in
    let sees = stood _ _ _ _ _ (omega arith) c.stands_at.ensures c.in-Some-Segment.is c.in-Some-Segment.field-0-is in
    count_judged _ _ in_range.1 (count_bad _ _ BadRow (rows_unmarked _ sees.segment) refl)

pub returns-in-Some-Event : goal.returns-in-Some-Event
returns-in-Some-Event c =
    let happens = stood _ _ _ _ _ (omega arith) c.stands_at.ensures c.in-Some-Event.is c.in-Some-Event.field-0-is in
    absurd (omega (arith, happens.some))

pub returns-in-None : goal.returns-in-None
returns-in-None c =
    let in_range = asked_in c.args.at c.ranges.at c.asked_at.ensures.1 c.in_ok-asked_at.was in
    let bad = fell _ _ _ _ _ (omega arith) c.stands_at.ensures c.in-None.is in
    count_judged _ _ in_range.1 (count_bad _ _ BadRow (rows_bad _ bad) refl)
