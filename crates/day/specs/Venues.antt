-- The values of a venue: places in the book become the rules and events that stand there. Assumes nothing.
use Rattle.zone.specs.Clocks.{zone_in}
use Rattle.std.specs.Prelude.{ℕ, List}
use Rattle.venue.specs.Values.{rules_in, events_in}
use Rattle.venue.specs.declared.venue.Venue.{Venue}
use Rattle.day.specs.Governing.{governing_rule}
use Rattle.spans.specs.Timeline as Timeline
use Rattle.day.specs.Days.{Values, Held, venue_of}

abbrev pub values_in : Venue → Values
values_in v =
    record {
      coverage = record { start = v.coverage.start.0; end = v.coverage.end.0 };
      zone = zone_in v.clock;
      governing = governing_rule (rules_in v.rules);
      events = events_in v.events;
    }

-- its dates, and the book and the places that its rules stand at
abbrev pub dates_in : Venue → Timeline.Venue Held
dates_in v = venue_of (values_in v)

abbrev pub book_in : Venue → List ℕ
book_in v = v.rules.book.now

abbrev pub places_in : Venue → List ℕ
places_in v = v.rules.places.now
