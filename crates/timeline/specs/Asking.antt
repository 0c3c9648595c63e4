-- The window's answer in bytes. Assumes nothing.
use Rattle.std.specs.Prelude.{ℕ, List, [], ◌∷◌, ◌++◌, ℤ}
use Rattle.std.specs.Prelude.{Option, None, Some}
use Rattle.zone.specs.Units.{instant_number, instant_of}
use Rattle.records.specs.Records.{Coverage, Record}
use Rattle.records.specs.Book.{records}
use Rattle.venue.specs.Opening.{coverage_of}
use Rattle.spans.specs.Spans.{Span}
use Rattle.spans.specs.Timeline.{Part, blank}
use Rattle.day.specs.Days.{values_of}
use Rattle.answer.specs.Forms.{Cover, Form, unknown, encode_all}
use Rattle.span_records.specs.Shown.{Shown, shown_forms}
use Rattle.timeline.specs.Segments.{timeline_of}

-- kind 17, or kind 16 with its 18s
abbrev pub segment_forms : Option Cover → ℕ → ℕ → Option Shown → List Form
segment_forms c from to None = unknown (record { start = instant_number from; end = instant_number to; coverage = c }) ∷ []
segment_forms c from to (Some x) = shown_forms from to x

unfoldable pub timeline_forms : Option Cover → List (Span (Option Shown)) → List Form
timeline_forms c [] = []
timeline_forms c (s ∷ ss) = segment_forms c s.from s.to s.body ++ timeline_forms c ss

-- the segments of a window: of a venue without data, and of one with coverage
abbrev pub segments_by : List Record → Part → Option Coverage → List (Span (Option Shown))
segments_by rs w None = blank None w
segments_by rs w (Some c) = timeline_of (values_of rs c) w

abbrev pub stated_cover : Option Coverage → Option Cover
stated_cover None = None
stated_cover (Some c) = Some (record { start = c.start; end = c.end })

abbrev pub by_coverage : List Record → Part → Option Coverage → List Form
by_coverage rs w o = timeline_forms (stated_cover o) (segments_by rs w o)

abbrev pub segments_of : List ℕ → ℤ → ℤ → List (Span (Option Shown))
segments_of s start end = segments_by (records s) (record { start = instant_of start; end = instant_of end }) (coverage_of (records s))

abbrev pub window_forms : List ℕ → ℤ → ℤ → List Form
window_forms s start end = by_coverage (records s) (record { start = instant_of start; end = instant_of end }) (coverage_of (records s))

unfoldable pub window_answer : List ℕ → ℤ → ℤ → List ℕ
window_answer s start end = encode_all (window_forms s start end)
