-- What stands at the place tells whether what is left is good.
use Rattle.std.proofs.Common.{sym, ◌∙◌, arith}
use Rattle.rows.proofs.Turns.{untrue}
use Rattle.rows.proofs.Steps.{stood, fell, segment_going, segment_after, event_going}
use Rattle.rows.proofs.Laws.{row_begin}
use Rattle.rows.proofs.judge.good_row.Goals as goal

pub loop-g-init : goal.loop-g-init
loop-g-init c = record { same = row_begin _; inside = omega arith }

pub read_segment-g-requires : goal.read_segment-g-requires
read_segment-g-requires c =
    (stood _ _ _ _ _ c.loop-g.invariant.inside c.stands_at.ensures c.in-Some-Segment.is c.in-Some-Segment.field-0-is).segment

pub loop-g-smaller-in-Some-Segment : goal.loop-g-smaller-in-Some-Segment
loop-g-smaller-in-Some-Segment c =
    let sees = stood _ _ _ _ _ c.loop-g.invariant.inside c.stands_at.ensures c.in-Some-Segment.is c.in-Some-Segment.field-0-is in
    segment_after c.loop-g.invariant sees c.read_segment-g.ensures

pub loop-g-preserved-in-Some-Segment : goal.loop-g-preserved-in-Some-Segment
loop-g-preserved-in-Some-Segment c =
    let sees = stood _ _ _ _ _ c.loop-g.invariant.inside c.stands_at.ensures c.in-Some-Segment.is c.in-Some-Segment.field-0-is in
    segment_going c.loop-g.invariant sees c.read_segment-g.ensures

pub overflow_sub-waiting : goal.overflow_sub-waiting
overflow_sub-waiting c =
    (stood _ _ _ _ _ c.loop-g.invariant.inside c.stands_at.ensures c.in-Some-Event.is c.in-Some-Event.field-0-is).some

pub loop-g-smaller : goal.loop-g-smaller
loop-g-smaller c =
    let happens = stood _ _ _ _ _ c.loop-g.invariant.inside c.stands_at.ensures c.in-Some-Event.is c.in-Some-Event.field-0-is in
    omega (arith, happens.inside)

pub loop-g-preserved : goal.loop-g-preserved
loop-g-preserved c =
    event_going c.loop-g.invariant
    (stood _ _ _ _ _ c.loop-g.invariant.inside c.stands_at.ensures c.in-Some-Event.is c.in-Some-Event.field-0-is)

pub returns-in-Some-End : goal.returns-in-Some-End
returns-in-Some-End c =
    let ends = stood _ _ _ _ _ c.loop-g.invariant.inside c.stands_at.ensures c.in-Some-End.is c.in-Some-End.field-0-is in
    sym (c.loop-g.invariant.same ∙ ends.good)

pub returns-in-Some-Mark : goal.returns-in-Some-Mark
returns-in-Some-Mark c =
    let anew = stood _ _ _ _ _ c.loop-g.invariant.inside c.stands_at.ensures c.in-Some-Mark.is c.in-Some-Mark.field-0-is in
    absurd (untrue anew.allowed)

pub returns-in-None : goal.returns-in-None
returns-in-None c = sym (c.loop-g.invariant.same ∙ fell _ _ _ _ _ c.loop-g.invariant.inside c.stands_at.ensures c.in-None.is)
