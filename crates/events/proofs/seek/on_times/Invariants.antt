use Rattle.zone.specs.Clocks.{zone_in}
use Rattle.venue.specs.Values.{event_in}
use Rattle.events.specs.Happenings.{on_times}
use Rattle.events.proofs.Finding.{Passing}
use Rattle.events.proofs.seek.on_times.Given as goal

abbrev pub invariant-loop-i : goal.invariant-loop-i
invariant-loop-i l =
    Passing (on_times (zone_in l.clock) l.span.start.0 l.span.end.0 l.d.0 (event_in l.event)) (event_in l.event).times 1 l.fn.s l.so_far l.i
