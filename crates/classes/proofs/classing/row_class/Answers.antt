-- What stands at the place tells where the row ends, or what it shows next.
use Rattle.std.proofs.Common.{refl, ◌∙◌, arith}
use Rattle.rows.proofs.Steps.{stood, fell, segment_after}
use Rattle.classes.proofs.Shown.{along_start, along_end, along_mark, along_segment, along_event}
use Rattle.classes.proofs.classing.row_class.Goals as goal

pub loop-g-init : goal.loop-g-init
loop-g-init c = along_start _ _ _ _ c.requires

pub returns-in-None : goal.returns-in-None
returns-in-None c =
    let along = c.loop-g.invariant.going in
    (refl, along.same ∙ fell _ _ _ _ _ along.inside c.stands_at.ensures c.in-None.is)

pub returns-in-Some-End : goal.returns-in-Some-End
returns-in-Some-End c =
    let along = c.loop-g.invariant in
    along_end _ _ _ _ along (stood _ _ _ _ _ along.going.inside c.stands_at.ensures c.in-Some-End.is c.in-Some-End.field-0-is)

pub overflow_add-result : goal.overflow_add-result
overflow_add-result c =
    let anew = stood _ _ _ _ _ c.loop-g.invariant.going.inside c.stands_at.ensures c.in-Some-Mark.is c.in-Some-Mark.field-0-is in
    omega (arith, anew.inside)

pub returns-in-Some-Mark : goal.returns-in-Some-Mark
returns-in-Some-Mark c =
    let along = c.loop-g.invariant in
    along_mark _ _ _ _ along (stood _ _ _ _ _ along.going.inside c.stands_at.ensures c.in-Some-Mark.is c.in-Some-Mark.field-0-is)

pub read_segment-g-requires : goal.read_segment-g-requires
read_segment-g-requires c =
    (stood _ _ _ _ _ c.loop-g.invariant.going.inside c.stands_at.ensures c.in-Some-Segment.is c.in-Some-Segment.field-0-is).segment

pub loop-g-smaller-in-Some-Segment : goal.loop-g-smaller-in-Some-Segment
loop-g-smaller-in-Some-Segment c =
    let along = c.loop-g.invariant.going in
    let sees = stood _ _ _ _ _ along.inside c.stands_at.ensures c.in-Some-Segment.is c.in-Some-Segment.field-0-is in
    segment_after along sees c.read_segment-g.ensures

pub loop-g-preserved-in-Some-Segment : goal.loop-g-preserved-in-Some-Segment
loop-g-preserved-in-Some-Segment c =
    let along = c.loop-g.invariant in
    let sees = stood _ _ _ _ _ along.going.inside c.stands_at.ensures c.in-Some-Segment.is c.in-Some-Segment.field-0-is in
    along_segment _ _ _ _ along sees c.read_segment-g.ensures c.class_in.ensures c.first-shown.ensures

pub read_event-at-requires : goal.read_event-at-requires
read_event-at-requires c =
    (stood _ _ _ _ _ c.loop-g.invariant.going.inside c.stands_at.ensures c.in-Some-Event.is c.in-Some-Event.field-0-is).inside

pub overflow_sub-waiting : goal.overflow_sub-waiting
overflow_sub-waiting c =
    (stood _ _ _ _ _ c.loop-g.invariant.going.inside c.stands_at.ensures c.in-Some-Event.is c.in-Some-Event.field-0-is).some

pub loop-g-smaller : goal.loop-g-smaller
loop-g-smaller c =
    let happens = stood _ _ _ _ _ c.loop-g.invariant.going.inside c.stands_at.ensures c.in-Some-Event.is c.in-Some-Event.field-0-is in
    omega (arith, happens.inside)

pub loop-g-preserved : goal.loop-g-preserved
loop-g-preserved c =
    let along = c.loop-g.invariant in
    let happens = stood _ _ _ _ _ along.going.inside c.stands_at.ensures c.in-Some-Event.is c.in-Some-Event.field-0-is in
    along_event _ _ _ _ along happens c.read_event-at.ensures.2
