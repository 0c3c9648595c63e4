-- What stands at a place of bytes that are read record by record, and what a segment says. Assumes nothing.
use Rattle.std.specs.Prelude.{ℕ, ◌+◌, ◌*◌, Bool, cond, ◌&&◌, List, ltb, eqb, length}
use Rattle.records.specs.Layout.{number, kind}
use Rattle.spans.specs.Spans.{Mark, phase, unknown, Span}
use Rattle.answer.specs.Forms
use Rattle.answer.specs.Forms.{phase_kind, phase_size, event_size}
use Rattle.rows.specs.Rows.{Seen, Row, from_at, to_at, count_at, behind_gap, good_event, good_events, good_segment, good_mark, good_at}
use Rattle.rows.specs.Rows.{left, events_from, mark_from, rows_from}
use Rattle.rows.specs.declared.Shows.{Shows}
use Rattle.rows.specs.declared.Shows.TheVariants.{Phase, Unknown}
use Rattle.rows.specs.declared.RowSegment.{RowSegment}
use Rattle.rows.specs.declared.Stands.{Stands}
use Rattle.std.specs.Prelude.{Option, None, Some}

-- ---- a segment

abbrev pub phase_segment : List ℕ → ℕ → RowSegment
phase_segment s at =
    record {
      from = record { 0 = from_at s at };
      to = record { 0 = to_at s at };
      shows = Phase (number Forms.phase_place s at) (number Forms.evidence_place s at);
      events = count_at s at;
      behind = at + phase_size;
    }

abbrev pub gap_segment : List ℕ → ℕ → RowSegment
gap_segment s at =
    record { from = record { 0 = from_at s at }; to = record { 0 = to_at s at }; shows = Unknown; events = 0; behind = behind_gap at }

-- the one that stands at `at`
abbrev pub segment_of : List ℕ → ℕ → RowSegment
segment_of s at = cond (eqb (number kind s at) phase_kind) (phase_segment s at) (gap_segment s at)

abbrev pub mark_of : Shows → Mark
mark_of (Phase p e) = phase p e
mark_of Unknown = unknown

-- as a span, with the events behind it
abbrev pub span_of : List ℕ → RowSegment → Span Seen
span_of s g =
    record { from = g.from.0; to = g.to.0; body = record { mark = mark_of g.shows; events = events_from s g.behind g.events } }

-- the place behind them
abbrev pub end_of : RowSegment → ℕ
end_of g = g.behind + event_size * g.events

-- ---- a reading: at a place, where the next segment may not start before `least`, and n events of the last phase are still to come

-- what stands there is good
abbrev pub good_on : Bool → List ℕ → ℕ → ℕ → ℕ → Bool
good_on marks s at least n = good_events s at n && good_at marks s (at + event_size * n) least

-- what stands there
unfoldable pub stands_at : Bool → List ℕ → ℕ → ℕ → ℕ → Option Stands
stands_at marks s at least n =
    cond (ltb 0 n) (cond (good_event s at) (Some Stands.Event) None)
    (cond (eqb at (length s)) (Some Stands.End)
    (cond (good_segment s at)
    (cond (ltb (from_at s at) least) None (Some Stands.Segment))
    (cond (marks && good_mark s at) (Some Stands.Mark) None)))

-- ---- marked rows

-- where the next mark stands from `at` on, or the end; and the rows of the marks from `at` on
abbrev pub mark_at : List ℕ → ℕ → ℕ
mark_at s at = mark_from (left s at) s at

abbrev pub rows_at : List ℕ → ℕ → List Row
rows_at s at = rows_from (left s at) s at
