-- The tally of a window: document 01, kinds 22 and 23, and number 13. Assumes nothing.
use Rattle.std.specs.Prelude.{ℕ, ◌-◌, cond, List, ltb, ℤ}
use Rattle.answer.specs.Forms.{Form, encode_all}
use Rattle.timeline.specs.Segments.{segments}
use Rattle.timeline.specs.Asking.{segments_of}
use Rattle.tally_rows.specs.Rows.{forms_by, most_tally_ns}
use Rattle.zone.specs.Units.{instant_of}
use Rattle.book_query.specs.Judging.{window_number}
use Rattle.records.specs.Book.{or_then}

abbrev pub tally_forms : List ℕ → ℤ → ℤ → List Form
tally_forms s start end =
    forms_by segments (segments_of s start end) (instant_of start) (instant_of end)

unfoldable pub tally_answer : List ℕ → ℤ → ℤ → List ℕ
tally_answer s start end = encode_all (tally_forms s start end)

-- 13: a tally over 400 days
abbrev pub too_long : ℕ → ℕ → ℕ
too_long start end = cond (ltb most_tally_ns (end - start)) 13 0

-- the book's number, else the window's: 10, 11, 12; else 13
unfoldable pub tally_number : List ℕ → ℤ → ℤ → ℕ
tally_number s start end = or_then (window_number s start end) (too_long (instant_of start) (instant_of end))
