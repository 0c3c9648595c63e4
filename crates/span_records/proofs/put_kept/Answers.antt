use Rattle.std.proofs.Common.{◌<◌, arith}
use Rattle.span_records.proofs.Kept.{turn_start, turn_next, turn_room, turn_one, turn_end}
use Rattle.span_records.proofs.put_kept.Goals as goal
use Rattle.span_records.proofs.put_kept.Goals.{In-loop}

-- the next to write is one of those kept
next_is_kept : (c : In-loop) → c.loop.next < c.args.n
next_is_kept c = turn_next _ _ _ _ _ _ c.loop.invariant c.loop-test.true

pub loop-init : goal.loop-init
loop-init c = turn_start _ _ _ _ _ _ c.requires.3 c.next_kept-next.ensures

pub offset_bounds-when-next : goal.offset_bounds-when-next
offset_bounds-when-next c = omega (arith, next_is_kept (goal.at.offset_bounds-when-next c).In-loop, c.requires.0)

pub bounds-when-next : goal.bounds-when-next
bounds-when-next c = omega (arith, next_is_kept (goal.at.bounds-when-next c).In-loop, c.requires.0)

pub offset_bounds-which-next : goal.offset_bounds-which-next
offset_bounds-which-next c = omega (arith, next_is_kept (goal.at.offset_bounds-which-next c).In-loop, c.requires.1)

pub bounds-which-next : goal.bounds-which-next
bounds-which-next c = omega (arith, next_is_kept (goal.at.bounds-which-next c).In-loop, c.requires.1)

pub invariant_of-event : goal.invariant_of-event
invariant_of-event c = record { listed = c.requires.2 _ (next_is_kept (goal.at.invariant_of-event c).In-loop) }

pub put_event-place-requires : goal.put_event-place-requires
put_event-place-requires c = turn_room _ _ _ _ _ _ c.loop.invariant c.loop-test.true

pub overflow_add-next : goal.overflow_add-next
overflow_add-next c = omega (arith, next_is_kept (goal.at.overflow_add-next c).In-loop)

pub loop-preserved : goal.loop-preserved
loop-preserved c =
    turn_one _ _ _ _ _ _ c.loop.invariant c.loop-test.true c.uncertainty.ensures c.code.ensures c.evidence.ensures c.put_event-place.ensures
    c.next_kept-next-in-loop.ensures

pub returns : goal.returns
returns c = turn_end _ _ _ _ _ _ c.loop.invariant c.loop-test.false
