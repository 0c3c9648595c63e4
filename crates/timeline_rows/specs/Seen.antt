-- A window's segments as they are read from its answer. Assumes nothing.
use Rattle.std.specs.Prelude.{ℕ, List, [], map}
use Rattle.std.specs.Prelude.{Option, None, Some}
use Rattle.zone.specs.Units.{instant_number}
use Rattle.spans.specs.Spans.{Mark, Span, Body}
use Rattle.events.specs.declared.Occurrence.{Occurrence}
use Rattle.span_records.specs.Shown.{Shown}
use Rattle.rows.specs.Rows.{Event, Seen}
use Rattle.rows.specs.Written.{instant}
use Rattle.timeline.specs.Segments.{mark_of}

abbrev pub seen_event : Occurrence → Event
seen_event o = record { at = instant (instant_number o.boundary.at.0); code = o.code }

abbrev pub seen_events : Option Shown → List Event
seen_events None = []
seen_events (Some x) = map seen_event x.events

abbrev pub seen_as : ℕ → ℕ → Mark → List Event → Span Seen
seen_as from to m es = record { from = instant (instant_number from); to = instant (instant_number to); body = record { mark = m; events = es } }

abbrev pub seen_between : ℕ → ℕ → Option Shown → Span Seen
seen_between from to o = seen_as from to (mark_of o) (seen_events o)

abbrev pub seen_span : Span (Option Shown) → Span Seen
seen_span s = seen_between s.from s.to s.body

-- what is read shows its mark; reading joins nothing
abbrev pub seen_marks : Body Seen
seen_marks = record { mark = λ (x : Seen). x.mark; merge = λ (a b : Seen). a }
