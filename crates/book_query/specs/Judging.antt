-- Which number a window asked of a book gets: book before query. Assumes nothing.
use Rattle.std.specs.Prelude.{ℕ, List, ℤ, Option, Result, Ok, Err}
use Rattle.records.specs.Limits.{base}
use Rattle.records.specs.Book.{or_then, refusal}
use Rattle.zone.specs.declared.Interval.{Interval}
use Rattle.venue.specs.declared.opened.Header.{Header}
use Rattle.query.specs.Judging.{window_refusal}

-- the book's number, else the window's: 10, 11, 12
unfoldable pub window_number : List ℕ → ℤ → ℤ → ℕ
window_number s start end = or_then (refusal base s) (window_refusal start end)

-- what opening answered, and the window
abbrev pub judged_by : Result (Option Header) ℕ → Result Interval ℕ → Result (Option Header × Interval) ℕ
judged_by (Err n) w = Err n
judged_by (Ok h) (Err n) = Err n
judged_by (Ok h) (Ok w) = Ok (h, w)
