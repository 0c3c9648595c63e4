use Rattle.std.proofs.Common.{◌<◌, length, ap, arith}
use Rattle.zone.specs.Clocks.{zone_in}
use Rattle.venue.specs.Values.{events_in}
use Rattle.events.specs.Happenings.{found}
use Rattle.events.specs.declared.Search.{Search}
use Rattle.events.proofs.Turns.{begun_count}
use Rattle.span_records.proofs.Trailing.{trail_start, trail_end, trail_none, trail_index, trail_room, trail_one}
use Rattle.span_records.proofs.put_sought.Goals as goal
use Rattle.span_records.proofs.put_sought.Goals.{In-loop}

-- one is left to write
more : (c : In-loop) → c.loop.counter < length (found (zone_in c.args.clock.now) (events_in c.args.events.now) c.args.span.start.0 c.args.span.end.0)
more c = omega (arith, c.loop-test.true, c.loop.invariant.all)

pub loop-init : goal.loop-init
loop-init c =
    let begun = c.search_events-s.ensures.0 in
    record { all = begun_count 0 0 _ begun; trailing = trail_start _ _ _ c.requires (ap (λ (s : Search). s.best) begun) }

pub put_event-place-requires : goal.put_event-place-requires
put_event-place-requires c = trail_room _ _ _ c.loop.invariant.trailing (more (goal.at.put_event-place-requires c).In-loop) _ _ c.in-Some.is

pub overflow_add-index : goal.overflow_add-index
overflow_add-index c =
    let below = trail_index _ _ _ c.loop.invariant.trailing (more (goal.at.overflow_add-index c).In-loop) _ _ c.in-Some.is in
    omega (arith, below, c.loop.invariant.all, c.search_events-s.ensures.1)

pub loop-preserved : goal.loop-preserved
loop-preserved c =
    let inv = c.loop.invariant in
    record {
      all = inv.all;
      trailing =
          trail_one _ _ _ inv.trailing (more (goal.at.loop-preserved c).In-loop) _ _ c.in-Some.is c.put_event-place.ensures
          (ap (λ (s : Search). s.best) c.search_events-best.ensures.0);
    }

pub returns-after-loop : goal.returns-after-loop
returns-after-loop c =
    let inv = c.loop.invariant in record { put = trail_end _ _ _ inv.trailing (omega (arith, c.loop-test.false, inv.all)); count = inv.all }

pub returns-in_default : goal.returns-in_default
returns-in_default c =
    let inv = c.loop.invariant in record { put = trail_none _ _ _ inv.trailing c.in_default.is; count = inv.all }
