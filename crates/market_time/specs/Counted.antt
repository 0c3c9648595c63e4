-- A tally counted nanosecond by nanosecond, by the point answers' bytes. Assumes nothing.
use Rattle.std.specs.Prelude.{ℕ, ◌-◌, not, ◌&&◌, List, [], ◌∷◌, ◌++◌, map}
use Rattle.std.specs.Prelude.{Option}
use Rattle.zone.specs.Units.{instant_number}
use Rattle.zone.specs.Zone.{date_at}
use Rattle.records.specs.Records.{Coverage}
use Rattle.records.specs.Book.{records}
use Rattle.spans.specs.Spans.{Mark}
use Rattle.spans.specs.Timeline.{Part, inside}
use Rattle.spans.specs.Totals.{is_phase, count, shows, free}
use Rattle.day.specs.Days.{Values, values_of}
use Rattle.answer.specs.Forms.{Form, day, tally}
use Rattle.answer.specs.Meaning.{totals_of}
use Rattle.point.specs.Asking.{point_answer}
use Rattle.point.specs.Said.{point_said}
use Rattle.tally_rows.specs.Rows.{rows_of}

module _ (s : List ℕ) where
  -- what the point answer at an instant says
  abbrev pub said_at : ℕ → Option Mark
  said_at t = point_said (point_answer s (instant_number t))

  -- how many of the n nanoseconds from `from` on have a point answer of the phase
  abbrev pub counted : ℕ → ℕ → ℕ → ℕ
  counted p from n = count (λ t. shows (is_phase p) (said_at t)) from n

  module _ (c : Coverage) where
    abbrev v : Values
    v = values_of (records s) c

    -- of each phase; outside coverage; covered, on a date that no rule governs
    abbrev pub counted_totals : ℕ → ℕ → List ℕ
    counted_totals from n =
        counted 0 from n ∷ counted 1 from n ∷ counted 2 from n ∷ counted 3 from n ∷ counted 4 from n ∷ counted 5 from n ∷ counted 6 from n ∷ counted 7 from n
        ∷ count (λ t. not (inside v.coverage t)) from n ∷ count (λ t. inside v.coverage t && free (v.governing (date_at v.zone t))) from n ∷ []

    abbrev pub counted_row : Part → Form
    counted_row r = day (totals_of r.start r.end (counted_totals r.start (r.end - r.start)))

    -- day rows and the closing one
    abbrev pub counted_forms : ℕ → ℕ → List Form
    counted_forms from to = map counted_row (rows_of from to) ++ (tally (totals_of from to (counted_totals from (to - from))) ∷ [])
