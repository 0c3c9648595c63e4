-- Demand 3 of the answers' bytes: over a plain window, what the window's answer shows at an instant and what the point's answer says agree.
-- Assumes nothing.
use mathlib.Core.Path.{◌≡◌, sym, ap, ap₂, subst, ◌∙◌}
use mathlib.Core.Bool.{Bool, cond}
use mathlib.Core.List.{List}
use Rattle.std.specs.Prelude.{Option}
use Prim.Native.Nat.{ℕ}
use borrow.Author.Tests.{eq-eqb}
use lib.IntN.{ℤ}
use Rattle.records.specs.Limits.{base}
use Rattle.records.specs.Records.{Coverage}
use Rattle.records.specs.Book.{refusal, records}
use Rattle.records.specs.Valid.{Bytes}
use Rattle.records.proofs.Cascade.{neither}
use Rattle.spans.specs.Spans.{Mark, segment_at}
use Rattle.day.specs.Days.{values_of}
use Rattle.query.specs.Judging.{window_refusal}
use Rattle.timeline.specs.Segments.{segments, timeline_of}
use Rattle.timeline.specs.Asking.{segments_by, window_answer}
use Rattle.timeline_rows.proofs.Seen.{row_look}
use Rattle.point.specs.Asking.{point_number, point_answer}
use Rattle.point.specs.Said.{point_said}
use Rattle.point.proofs.Said.{point_said_law}
use Rattle.plain.specs.Books.{window, Plain}
use Rattle.agreement.specs.Books.{Names, Between, Agreed}
use Rattle.agreement.proofs.Books.{in_range, plain_agrees}
use Rattle.zone.specs.Units.{instant_of}
use Rattle.book_query.specs.Judging.{window_number}
use Rattle.rows.specs.Rows.{shown_in}

module _ (s : List ℕ) (start end : ℤ) (answered : window_number s start end ≡ 0) where
  pub window_accepted : refusal base s ≡ 0
  unfolding window_number
  window_accepted = (neither (refusal base s) (window_refusal start end) answered).0

  pub window_passes : window_refusal start end ≡ 0
  unfolding window_number
  window_passes = (neither (refusal base s) (window_refusal start end) answered).1

-- the book names a venue, whose coverage is c, and the window is answered
module _ (s : List ℕ) (b : Bytes s) (c : Coverage) (named : Names s c) (start end : ℤ) (answered : window_number s start end ≡ 0) where
  pub passes : window_refusal start end ≡ 0
  passes = window_passes s start end answered

  module _ (at : ℤ) (i : Between start end at) where
    -- the point query is answered too
    pub point_answered : point_number s at ≡ 0
    unfolding point_number
    point_answered =
        ap₂ (λ (q r : Bool). cond q (cond r 0 10) (refusal base s)) (eq-eqb (refusal base s) 0 named.accepted) (in_range s c named start end passes at i)

    shown_is : shown_in (window_answer s start end) at ≡ segment_at segments (timeline_of (values_of (records s) c) (window start end)) (instant_of at)
    shown_is =
        row_look s start end b named.accepted passes at (in_range s c named start end passes at i)
        ∙ ap (λ (o : Option Coverage). segment_at segments (segments_by (records s) (window start end) o) (instant_of at)) named.coverage

    -- If the window is plain: a phase segment stands at the instant exactly when the point answer is known, with the same phase and evidence;
    -- an unknown segment exactly outside coverage; no segment exactly where coverage holds but no rule governs.
    pub timeline_is_points : Plain s start end → Agreed s c at (shown_in (window_answer s start end) at) (point_said (point_answer s at))
    timeline_is_points p =
        subst (λ (o : Option Mark). Agreed s c at o (point_said (point_answer s at))) (sym shown_is)
        (subst (Agreed s c at (segment_at segments (timeline_of (values_of (records s) c) (window start end)) (instant_of at)))
        (sym (point_said_law s b named.accepted c named.coverage at)) (plain_agrees s c named start end passes at i p))
