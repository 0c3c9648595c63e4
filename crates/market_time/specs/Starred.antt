-- Document 01's starred examples, all of them, in its order and its numbers: one statement over a table. Assumes nothing.
use Rattle.std.specs.Prelude.{ℕ, ◌+◌, ◌*◌, ◌≡◌, List, [], ◌∷◌, map, ℤ, pos, negsuc}
use Rattle.std.proofs.Common.{ap, ap₂}
use Rattle.std.specs.Prelude.{Option, None, Some}
use Rattle.zone.specs.Units.{second_ns}
use Rattle.records.specs.Book.{records}
use Rattle.venue.specs.Opening.{coverage_of}
use Rattle.calendar.specs.Examples as Dates
use Rattle.zone.specs.Examples as Readings
use Rattle.day.specs.Examples as Points
use Rattle.timeline.specs.Asking.{window_forms}
use Rattle.timeline.specs.Examples as Windows
use Rattle.board.specs.Cells.{columns_of}
use Rattle.board.specs.Examples as Columns
use Rattle.tally.specs.Tallying.{tally_number}
use Rattle.tally.specs.Examples as Tallies

-- what the definitions say of some inputs, numbers or none, and what the document says of them
pub record Row : Type 0 where
  pub said : List (Option ℤ)
  pub document : List (Option ℤ)

abbrev seconds : ℕ → ℤ
seconds n = pos (n * second_ns)

abbrev natural : Option ℕ → Option ℤ
natural None = None
natural (Some n) = Some (pos n)

abbrev counted : ℕ → Option ℤ
counted n = Some (pos n)

abbrev both : Option (ℤ × ℤ) → List (Option ℤ)
both None = None ∷ None ∷ []
both (Some x) = Some x.0 ∷ Some x.1 ∷ []

-- the day numbers of 2026-01-05, 1900-02-29, 2000-02-29 and 2100-02-29
abbrev day_numbers : Row
day_numbers = record { said = map Dates.number_told Dates.dates; document = Some (pos 20458) ∷ None ∷ Some (pos 11016) ∷ None ∷ [] }

-- their weekdays, Monday 0
abbrev weekdays : Row
weekdays = record { said = map natural (map Dates.weekday_told Dates.dates); document = Some (pos 0) ∷ None ∷ Some (pos 1) ∷ None ∷ [] }

-- offset -18,000, to -14,400 at 1,772,953,200: 02:30; back at 1,793,512,800: 01:30
abbrev clock_changes : Row
clock_changes = record { said = map Some (map Readings.converted Readings.walls); document = Some (seconds 1772955000) ∷ Some (seconds 1793511000) ∷ [] }

-- offset 0 to 3,600 at 1,767,654,000, points 00:00 and 23:30 every day: the point answer at 1,767,654,600
abbrev point_answer : Row
point_answer = record {
  said = both (Points.point_in Points.bytes_of (coverage_of (records Points.bytes_of)) (seconds 1767654600));
  document = Some (seconds 1767571200) ∷ Some (seconds 1767655800) ∷ [];
}

-- a window starting there: where its first segment starts, and that one's start boundary
abbrev window_start : Row
window_start = record {
  said = both (Windows.first (window_forms Points.bytes_of (seconds 1767654600) (seconds 1767658200)));
  document = Some (seconds 1767654600) ∷ Some (seconds 1767654000) ∷ [];
}

-- 11 columns and -5 make 12, 512 stay
abbrev columns : Row
columns = record { said = map counted (map columns_of (pos 11 ∷ negsuc 4 ∷ pos 512 ∷ [])); document = Some (pos 12) ∷ Some (pos 12) ∷ Some (pos 512) ∷ [] }

-- 11 and 512 pass, 513 get 14
abbrev column_numbers : Row
column_numbers = record { said = map counted (map Columns.columns_number (pos 11 ∷ pos 512 ∷ pos 513 ∷ [])); document = Some (pos 0) ∷ Some (pos 0) ∷ Some (pos 14) ∷ [] }

-- a tally of 400 days passes, one ns more gets 13
abbrev tally_numbers : Row
tally_numbers = record {
  said = counted (tally_number Tallies.book (seconds 1767571200) (seconds 1802131200)) ∷ counted (tally_number Tallies.book (seconds 1767571200) (pos (1802131200 * second_ns + 1))) ∷ [];
  document = Some (pos 0) ∷ Some (pos 13) ∷ [];
}

abbrev pub table : List Row
table = day_numbers ∷ weekdays ∷ clock_changes ∷ point_answer ∷ window_start ∷ columns ∷ column_numbers ∷ tally_numbers ∷ []

pub starred : map (λ (r : Row). r.said) table ≡ map (λ (r : Row). r.document) table
starred =
    ap₂ ◌∷◌ (Dates.starred).0
    (ap₂ ◌∷◌ (ap (map natural) (Dates.starred).1)
    (ap₂ ◌∷◌ (ap (map Some) Readings.starred)
    (ap₂ ◌∷◌ (ap both Points.starred)
    (ap₂ ◌∷◌ (ap both Windows.starred)
    (ap₂ ◌∷◌ (ap (map counted) Columns.starred_columns)
    (ap₂ ◌∷◌ (ap (map counted) Columns.columns_numbered)
    (ap (λ (r : List (Option ℤ)). r ∷ []) (ap₂ (λ (a b : ℕ). counted a ∷ counted b ∷ []) (Tallies.starred).0 (Tallies.starred).1))))))))
