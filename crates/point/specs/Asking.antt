-- The point answer in bytes: which number a question gets, and what is answered. Assumes nothing.
use Rattle.std.specs.Prelude.{ℕ, List, [], ◌∷◌, ℤ}
use Rattle.std.specs.Prelude.{Option, None, Some}
use Rattle.records.specs.Limits.{base}
use Rattle.records.specs.Records.{Coverage, Record}
use Rattle.records.specs.Book.{refusal, records, or_then}
use Rattle.venue.specs.Opening.{coverage_of}
use Rattle.day.specs.Days.{Values, Held, values_of, point_of}
use Rattle.answer.specs.Forms.{Cover, Form, point, encode_all}
use Rattle.span_records.specs.Shown.{shown, shown_forms}
use Rattle.zone.specs.Units.{instant_of}
use Rattle.query.specs.Judging.{instant_refusal}

-- the book's number, else 10 for an instant outside its range
unfoldable pub point_number : List ℕ → ℤ → ℕ
point_number s n = or_then (refusal base s) (instant_refusal n)

-- a known point: its whole span as start and end, with its events behind it
abbrev pub known_forms : Values → Held → List Form
known_forms v h = shown_forms h.start.at.0 h.end.at.0 (shown v.zone v.events h)

-- an unknown one: the instant, and coverage if there is any
abbrev pub missing_forms : ℤ → Option Cover → List Form
missing_forms n c = point (record { at = n; coverage = c }) ∷ []

abbrev pub by_point : Values → Coverage → ℤ → Option Held → List Form
by_point v c n None = missing_forms n (Some (record { start = c.start; end = c.end }))
by_point v c n (Some h) = known_forms v h

-- of a venue without data, and of one with coverage
abbrev pub by_coverage : List Record → ℤ → Option Coverage → List Form
by_coverage rs n None = missing_forms n None
by_coverage rs n (Some c) = by_point (values_of rs c) c n (point_of (values_of rs c) (instant_of n))

abbrev pub point_forms : List ℕ → ℤ → List Form
point_forms s n = by_coverage (records s) n (coverage_of (records s))

unfoldable pub point_answer : List ℕ → ℤ → List ℕ
point_answer s n = encode_all (point_forms s n)
