use Rattle.zone.specs.Clocks.{zone_in}
use Rattle.venue.specs.Values.{events_in}
use Rattle.events.proofs.Finding.{Spanning}
use Rattle.events.proofs.seek.search_events.Given as goal

abbrev pub invariant-loop-date : goal.invariant-loop-date
invariant-loop-date l =
    Spanning (zone_in l.clock) l.span.start.0 l.span.end.0 (events_in l.events) l.initial.date l.date-end l.initial.so_far l.so_far l.date
