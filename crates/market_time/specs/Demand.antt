-- Demand 3 of a book's own bytes and of what the entries answer, in the mission's words. Assumes nothing.
use Rattle.std.specs.Prelude.{ℕ, ◌≡◌, List, ℤ}
use Rattle.std.specs.Int.{w64}
use Rattle.wire.specs.Signs.{placed}
use Rattle.zone.specs.Units.{instant_of}
use Rattle.records.specs.Records.{Coverage}
use Rattle.spans.specs.Spans.{Within, Apart}
use Rattle.answer.specs.Forms.{encode_all}
use Rattle.rows.specs.Rows.{segments, shown_in}
use Rattle.book_query.specs.Judging.{window_number}
use Rattle.timeline.specs.Asking.{window_answer}
use Rattle.timeline_rows.specs.Seen.{seen_marks}
use Rattle.point.specs.Asking.{point_answer}
use Rattle.point.specs.Said.{point_said}
use Rattle.tally.specs.Tallying.{tally_number, tally_answer}
use Rattle.plain.specs.Books.{Plain}
use Rattle.agreement.specs.Books.{Names, Between, Agreed}
use Rattle.market_time.specs.Counted.{counted_forms}

pub record Demand (s : List ℕ) : Type 0 where
  -- For every accepted window, segments are non-empty, in order, non-overlapping, inside the window; touching phase segments differ in phase
  -- or evidence.
  pub shape : (start end : ℤ) → window_number s start end ≡ 0
      → Within (placed w64 start) (placed w64 end) (segments (window_answer s start end)) × Apart seen_marks (segments (window_answer s start end))
  -- If the book names a venue and the window is plain, then at every instant: a phase segment stands there exactly when the point answer is
  -- known, with the same phase and evidence; an unknown segment exactly outside coverage; no segment exactly where coverage holds but no rule
  -- governs.
  pub points : (c : Coverage) → Names s c → (start end : ℤ) → window_number s start end ≡ 0 → Plain s start end
      → (at : ℤ) → Between start end at → Agreed s c at (shown_in (window_answer s start end) at) (point_said (point_answer s at))
  -- For such a window of at most 400 days each tally total is the number of nanoseconds given that answer.
  pub totals : (c : Coverage) → Names s c → (start end : ℤ) → tally_number s start end ≡ 0 → Plain s start end
      → tally_answer s start end ≡ encode_all (counted_forms s c (instant_of start) (instant_of end))
