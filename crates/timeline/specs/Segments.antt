-- The timeline of a window: document 01, phase rules 4 and 5, over what a venue's spans show. Assumes nothing.
use Rattle.std.specs.Prelude.{ℕ, List}
use Rattle.std.specs.Prelude.{Option, None, Some}
use Rattle.zone.specs.Zone.{Zone}
use Rattle.records.specs.Records.{Rule, Event}
use Rattle.spans.specs.Spans.{Mark, unknown, Span, Body}
use Rattle.spans.specs.Timeline.{Venue, Part, timeline}
use Rattle.day.specs.Days.{Values, venue_by}
use Rattle.span_records.specs.Shown.{Shown, shown}
use Rattle.joining.specs.Joining.{phase_mark, merged_shown}

-- ---- a segment shows a phase, or that nothing is known

abbrev pub mark_of : Option Shown → Mark
mark_of None = unknown
mark_of (Some x) = phase_mark x

abbrev pub merged_bodies : Option Shown → Option Shown → Option Shown
merged_bodies None b = None
merged_bodies (Some a) None = Some a
merged_bodies (Some a) (Some b) = Some (merged_shown a b)

abbrev pub segments : Body (Option Shown)
segments = record { mark = mark_of; merge = merged_bodies }

-- ---- a venue whose spans show their whole uncertainty and their events

abbrev pub showing : Zone → (ℕ → Option Rule) → List Event → Venue (Option Shown)
showing z g es =
    record {
      reads = (venue_by z g).reads;
      conv = (venue_by z g).conv;
      governing = g;
      body = λ r s p e. Some (shown z es ((venue_by z g).body r s p e));
    }

abbrev pub timeline_of : Values → Part → List (Span (Option Shown))
timeline_of v w = timeline segments (showing v.zone v.governing v.events) None v.coverage w
