-- A walk joined, and as records. Assumes nothing.
use Rattle.std.specs.Prelude.{ℕ, List, [], ◌∷◌, ◌++◌, map}
use Rattle.std.specs.Prelude.{Option}
use Rattle.zone.specs.Zone.{Zone}
use Rattle.records.specs.Records.{Rule, Event}
use Rattle.spans.specs.Spans.{Span, joined}
use Rattle.spans.specs.Timeline.{walk, turns}
use Rattle.day.specs.Days.{Values, Held, venue_by}
use Rattle.answer.specs.Forms.{Form}
use Rattle.span_records.specs.Shown.{Shown, shown, shown_forms}
use Rattle.joining.specs.Joining.{phases}

-- a span of a date, with what it shows
abbrev pub shows_span : Zone → List Event → Span Held → Span Shown
shows_span z es s = record { from = s.from; to = s.to; body = shown z es s.body }

-- the records of segments, one after the other
unfoldable pub phase_forms : List (Span Shown) → List Form
phase_forms [] = []
phase_forms (s ∷ ss) = shown_forms s.from s.to s.body ++ phase_forms ss

-- the walk from lo to before hi, joined
abbrev pub walk_spans : Zone → (ℕ → Option Rule) → List Event → ℕ → ℕ → List (Span Shown)
walk_spans z g es lo hi = joined phases (map (shows_span z es) (walk (venue_by z g) hi turns lo))

-- its records
abbrev pub walk_forms : Values → ℕ → ℕ → List Form
walk_forms v lo hi = phase_forms (walk_spans v.zone v.governing v.events lo hi)
