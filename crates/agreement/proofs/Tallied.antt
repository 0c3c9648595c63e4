-- The totals of a row of a plain window of a book, by point answers: demand 3 of totals. Assumes nothing.
use mathlib.Core.Path.{◌≡◌, ap, subst, ◌∙◌}
use mathlib.Core.Bool.{not, ◌&&◌}
use mathlib.Core.List.{List}
use Rattle.std.specs.Prelude.{Option, None}
use Prim.Native.Nat.{ℕ, ◌+◌, ◌-◌, ◌≤◌, ◌<◌}
use lib.IntN.{ℤ}
use Rattle.zone.specs.Zone.{date_at}
use Rattle.records.specs.Records.{Coverage}
use Rattle.records.specs.Book.{records}
use Rattle.spans.specs.Spans.{Span}
use Rattle.spans.specs.Timeline.{Venue, inside, point_at}
use Rattle.spans.specs.Totals.{is_phase, is_unknown, any_mark, total, count, shows, free}
use Rattle.spans.proofs.Totals.{same_count}
use Rattle.day.specs.Days.{Values, values_of, point_of}
use Rattle.query.specs.Judging.{window_refusal}
use Rattle.query.proofs.Order.{window_passed}
use Rattle.span_records.specs.Shown.{Shown}
use Rattle.timeline.specs.Segments.{mark_of, segments, showing, timeline_of}
use Rattle.point.specs.Said.{point_mark}
use Rattle.zone.specs.Units.{instant_of}
use Rattle.plain.specs.Plain.{PlainWindow}
use Rattle.plain.specs.Books.{window, PlainFor, Plain}
use Rattle.agreement.specs.Books.{Names}
use Rattle.agreement.proofs.Totals.{phase_total, outside_total, hole_total}
use Rattle.agreement.proofs.Books.{accepted, window_shown, point_shown}

-- the row of n instants from `from` on, inside the window
module _ (s : List ℕ) (c : Coverage) (named : Names s c) (start end : ℤ) (passes : window_refusal start end ≡ 0) (plain : Plain s start end)
    (from n : ℕ) (begun : instant_of start ≤ from) (within : from + n ≤ instant_of end) where
  abbrev v : Values
  v = values_of (records s) c

  abbrev venue : Venue (Option Shown)
  venue = showing v.zone v.governing v.events

  abbrev spans : List (Span (Option Shown))
  spans = timeline_of v (window start end)

  run : PlainWindow venue (window start end)
  run = window_shown v (window start end) (subst (PlainFor (records s) (window start end)) named.coverage plain)

  opens : instant_of start < instant_of end
  opens = (window_passed start end passes).order

  -- in phase p: the instants whose point answer has it
  pub phase_instants : (p : ℕ) → total segments (is_phase p) from (from + n) spans ≡ count (λ t. shows (is_phase p) (point_mark (point_of v t))) from n
  phase_instants p =
      phase_total segments venue None v.coverage (window start end) (accepted s c named) opens run from n begun within p
      ∙ same_count (λ t. shows (is_phase p) (point_at mark_of venue v.coverage t)) (λ t. shows (is_phase p) (point_mark (point_of v t))) from n
      (λ t a b. ap (shows (is_phase p)) (point_shown v t))

  -- outside coverage
  pub outside_instants : total segments is_unknown from (from + n) spans ≡ count (λ t. not (inside v.coverage t)) from n
  outside_instants = outside_total segments venue None v.coverage (window start end) (accepted s c named) opens run from n begun within

  -- in no segment: the covered ones on a date that no rule governs
  pub hole_instants : n - total segments any_mark from (from + n) spans ≡ count (λ t. inside v.coverage t && free (v.governing (date_at v.zone t))) from n
  hole_instants = hole_total segments venue None v.coverage (window start end) (accepted s c named) opens run from n begun within
