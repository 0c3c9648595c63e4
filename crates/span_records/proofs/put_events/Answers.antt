use Rattle.std.proofs.Common.{length, sym, ap}
use Rattle.zone.specs.Clocks.{zone_in}
use Rattle.events.proofs.Finding.{none_found}
use Rattle.span_records.proofs.Trailing.{put_none}
use Rattle.span_records.proofs.put_events.Goals as goal

pub returns-then-events-eq0 : goal.returns-then-events-eq0
returns-then-events-eq0 c =
    let events = c.args.events.now in
    let none = none_found (zone_in c.args.clock.now) events.book.now events.places.now c.args.span.start.0 c.args.span.end.0 c.if-events-eq0.true in
    record { put = put_none _ _ none; count = sym (ap length none) }
