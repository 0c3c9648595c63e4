-- Plain windows of a book. Instants are document 01's integers. Assumes nothing.
use Rattle.std.specs.Prelude.{ℕ, List, ℤ}
use Rattle.std.specs.Prelude.{Option, None, Some}
use Rattle.records.specs.Records.{Coverage, Record}
use Rattle.records.specs.Book.{records}
use Rattle.venue.specs.Opening.{coverage_of}
use Rattle.spans.specs.Timeline.{Part}
use Rattle.day.specs.Days.{values_of, venue_of}
use Rattle.zone.specs.Units.{instant_of}
use Rattle.plain.specs.Plain.{PlainWindow}

abbrev pub window : ℤ → ℤ → Part
window start end = record { start = instant_of start; end = instant_of end }

-- a book of zero bytes names no venue, and no window is plain for it
abbrev pub PlainFor : List Record → Part → Option Coverage → Type 0
PlainFor rs w None = ⊥
PlainFor rs w (Some c) = PlainWindow (venue_of (values_of rs c)) w

-- the window is plain for the venue that the book names; coverage plays no part in it
abbrev pub Plain : List ℕ → ℤ → ℤ → Type 0
Plain s start end = PlainFor (records s) (window start end) (coverage_of (records s))
