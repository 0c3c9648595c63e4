-- The rows of a tally, and a row's totals by a list of spans: document 01, kinds 22 and 23. Assumes nothing.
use Rattle.std.specs.Prelude.{ℕ, zero, suc, ◌+◌, ◌-◌, ◌*◌, ◌/◌, min, cond, List, [], ◌∷◌, ◌++◌, map, ltb}
use Rattle.zone.specs.Units.{day_ns}
use Rattle.spans.specs.Spans.{Span, Body}
use Rattle.spans.specs.Timeline.{Part}
use Rattle.spans.specs.Totals.{is_phase, is_unknown, any_mark, total}
use Rattle.answer.specs.Forms.{Form, day, tally}
use Rattle.answer.specs.Meaning.{totals_of}

-- ---- the rows

-- the next row edge: day rows are cut every 24 hours from the window's start
abbrev pub row_end : ℕ → ℕ → ℕ
row_end end at = min end (at + day_ns)

-- at most n rows from `at` on
unfoldable pub rows_from : ℕ → ℕ → ℕ → List Part
rows_from zero end at = []
rows_from (suc n) end at =
    let rest = rows_from n end (row_end end at) in
    cond (ltb at end) (record { start = at; end = row_end end at } ∷ rest) []

-- all of them: a window has at most one more than it has whole days
abbrev pub rows_of : ℕ → ℕ → List Part
rows_of start end = rows_from ((end - start) / day_ns + 1) end start

-- ---- the totals of a row

-- phases 0 to 7, outside coverage, covered but in no segment
abbrev pub row_totals : {A : Type 0} → Body A → ℕ → ℕ → List (Span A) → List ℕ
row_totals B a b ss =
    total B (is_phase 0) a b ss ∷ total B (is_phase 1) a b ss ∷ total B (is_phase 2) a b ss ∷ total B (is_phase 3) a b ss ∷ total B (is_phase 4) a b ss
    ∷ total B (is_phase 5) a b ss ∷ total B (is_phase 6) a b ss ∷ total B (is_phase 7) a b ss ∷ total B is_unknown a b ss
    ∷ ((b - a) - total B any_mark a b ss) ∷ []

abbrev pub day_form : {A : Type 0} → Body A → List (Span A) → Part → Form
day_form B ss r = day (totals_of r.start r.end (row_totals B r.start r.end ss))

-- "Day rows first, cut every 24 hours from the window's start, then one 23."
abbrev pub forms_by : {A : Type 0} → Body A → List (Span A) → ℕ → ℕ → List Form
forms_by B ss start end = map (day_form B ss) (rows_of start end) ++ (tally (totals_of start end (row_totals B start end ss)) ∷ [])

-- the longest window of a tally, in days and as it is counted; its rows are fewer than so many
abbrev pub most_days : ℕ
most_days = 400

abbrev pub most_tally_ns : ℕ
most_tally_ns = most_days * day_ns

abbrev pub most_rows : ℕ
most_rows = suc most_days
