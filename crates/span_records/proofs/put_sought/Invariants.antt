use Rattle.std.proofs.Common.{◌≡◌, length}
use Rattle.zone.specs.Clocks.{zone_in}
use Rattle.venue.specs.Values.{events_in}
use Rattle.events.specs.Happenings.{found}
use Rattle.span_records.proofs.Trailing.{Trailing}
use Rattle.span_records.proofs.put_sought.Given as goal

abbrev pub invariant-loop : goal.invariant-loop
invariant-loop l = record {
  all : l.count ≡ length (found (zone_in l.clock) (events_in l.events) l.span.start.0 l.span.end.0);
  trailing : Trailing (found (zone_in l.clock) (events_in l.events) l.span.start.0 l.span.end.0) l.fn.out l.at l.out l.place l.counter l.best;
}
