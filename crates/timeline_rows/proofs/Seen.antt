-- The window's answer reads back: its bytes hold the timeline's segments, in order, and show at every instant what the timeline shows. Assumes nothing.
use mathlib.Core.Path.{◌≡◌, refl, sym, ap, ap₂, ◌∙◌, subst}
use mathlib.Core.Bool.{Bool, true, cond, ◌&&◌}
use mathlib.Core.List.{List, [], ◌∷◌, ◌++◌, map}
use Rattle.std.specs.Prelude.{Option, None, Some}
use Prim.Native.Nat.{ℕ, ◌+◌, ◌≤◌, ◌<◌}
use native.Mathlib.Decide.{dec_le, dec_lt}
use native.Mathlib.Omega.{arith}
use borrow.Author.Tests.{le-leb, lt-leb, lt-ltb, le-ltb}
use lib.Dec.{leb, ltb}
use lib.IntN.{ℤ}
use mir.Syntax.{w64}
use Rattle.wire.specs.Signs.{placed}
use Rattle.zone.specs.Units.{instant_number, instant_of}
use Rattle.zone.proofs.Domain.{instant_zero}
use Rattle.records.specs.Limits.{base}
use Rattle.records.specs.Book.{refusal, records, inside, instants}
use Rattle.records.specs.Valid.{Bytes}
use Rattle.venue.specs.Opening.{coverage_of}
use Rattle.spans.specs.Spans.{Mark, Span, look, holds, segment_at, Within, Differ, Apart}
use Rattle.query.specs.Judging.{window_refusal}
use Rattle.query.proofs.Order.{window_passed}
use Rattle.events.specs.declared.Occurrence.{Occurrence}
use Rattle.answer.specs.Forms.{Cover, Form}
use Rattle.rows.specs.Rows
use Rattle.rows.specs.Rows.{Event, Seen}
use Rattle.rows.specs.Written.{instant, events_of, seen_of}
use Rattle.rows.proofs.Writing.{written}
use Rattle.span_records.specs.Shown.{Shown, event_form}
use Rattle.timeline.specs.Segments.{mark_of, segments}
use Rattle.timeline.specs.Asking.{segment_forms, timeline_forms, stated_cover, segments_of, window_forms, window_answer}
use Rattle.timeline.proofs.Shape.{window_shape}
use Rattle.timeline_rows.proofs.Row.{number_placed, instant_of_law, window_row}
use Rattle.timeline_rows.specs.Seen.{seen_event, seen_as, seen_between, seen_span, seen_marks}

-- ---- the records of segments, read

module _ (fs : List Form) where
  behind_events : (os : List Occurrence) → events_of fs ≡ [] → events_of (map event_form os ++ fs) ≡ map seen_event os
  unfolding events_of
  behind_events [] e = e
  behind_events (o ∷ os) e = ap (λ (l : List Event). seen_event o ∷ l) (behind_events os e)

  behind_seen : (os : List Occurrence) → seen_of (map event_form os ++ fs) ≡ seen_of fs
  unfolding seen_of
  behind_seen [] = refl
  behind_seen (o ∷ os) = behind_seen os

module _ (c : Option Cover) where
  -- a segment's records do not begin with an event
  no_events : (ss : List (Span (Option Shown))) → events_of (timeline_forms c ss) ≡ []
  unfolding timeline_forms events_of
  no_events [] = refl
  no_events (s ∷ ss) = go s.body
    where
      go : (o : Option Shown) → events_of (segment_forms c s.from s.to o ++ timeline_forms c ss) ≡ []
      go None = refl
      go (Some x) = refl

  forms_seen : (ss : List (Span (Option Shown))) → seen_of (timeline_forms c ss) ≡ map seen_span ss
  unfolding timeline_forms seen_of
  forms_seen [] = refl
  forms_seen (s ∷ ss) = go s.body (forms_seen ss)
    where
      rest : List Form
      rest = timeline_forms c ss

      go : (o : Option Shown) → seen_of rest ≡ map seen_span ss
          → seen_of (segment_forms c s.from s.to o ++ rest) ≡ seen_between s.from s.to o ∷ map seen_span ss
      go None on = ap (λ (l : List (Span Seen)). seen_between s.from s.to None ∷ l) on
      go (Some x) on =
          ap₂ (λ (es : List Event) (l : List (Span Seen)). seen_as s.from s.to (mark_of (Some x)) es ∷ l)
          (behind_events rest x.events (no_events ss)) (behind_seen rest x.events ∙ on)

-- ---- all instants are moved by one number

seen_within : (lo hi p q : ℕ) (ss : List (Span (Option Shown))) → p ≡ lo + instant_zero → q ≡ hi + instant_zero → Within lo hi ss
    → Within p q (map seen_span ss)
seen_within lo hi p q [] e i w = omega (arith, e, i, w)
seen_within lo hi p q (s ∷ ss) e i w =
    let a = number_placed s.from in
    let b = number_placed s.to in
    let x = w.0 in
    let y = w.1 in
    (omega (arith, a, e, x), omega (arith, a, b, y), seen_within s.to hi (instant (instant_number s.to)) q ss b i w.2)

seen_apart : (ss : List (Span (Option Shown))) → Apart segments ss → Apart seen_marks (map seen_span ss)
seen_apart [] a = tt
seen_apart (s ∷ ss) a = (differ ss a.0, seen_apart ss a.1)
  where
    differ : (rs : List (Span (Option Shown))) → Differ segments s rs → Differ seen_marks (seen_span s) (map seen_span rs)
    differ [] d = tt
    differ (r ∷ rs) d = λ e i. d (omega (arith, e, number_placed s.to, number_placed r.from)) i

leb_moved : (a b k : ℕ) → leb (a + k) (b + k) ≡ leb a b
leb_moved a b k = go (dec_le a b)
  where
    go : Dec (a ≤ b) → leb (a + k) (b + k) ≡ leb a b
    go (yes h) = le-leb (a + k) (b + k) (omega arith) ∙ sym (le-leb a b h)
    go (no h) = lt-leb (a + k) (b + k) (omega arith) ∙ sym (lt-leb a b (omega arith))

ltb_moved : (a b k : ℕ) → ltb (a + k) (b + k) ≡ ltb a b
ltb_moved a b k = go (dec_lt a b)
  where
    go : Dec (a < b) → ltb (a + k) (b + k) ≡ ltb a b
    go (yes h) = lt-ltb (a + k) (b + k) (omega arith) ∙ sym (lt-ltb a b h)
    go (no h) = le-ltb (a + k) (b + k) (omega arith) ∙ sym (le-ltb a b (omega arith))

seen_holds : (s : Span (Option Shown)) (t : ℕ) → holds (seen_span s) (t + instant_zero) ≡ holds s t
seen_holds s t =
    ap₂ (λ (x y : ℕ). leb x (t + instant_zero) && ltb (t + instant_zero) y) (number_placed s.from) (number_placed s.to)
    ∙ ap₂ ◌&&◌ (leb_moved s.from t instant_zero) (ltb_moved t s.to instant_zero)

seen_look : (ss : List (Span (Option Shown))) (t : ℕ) → look (λ (x : Seen). x.mark) (map seen_span ss) (t + instant_zero) ≡ look mark_of ss t
unfolding look
seen_look [] t = refl
seen_look (s ∷ ss) t = ap₂ (λ (q : Bool) (o : Option Mark). cond q (Some (mark_of s.body)) o) (seen_holds s t) (seen_look ss t)

-- ---- for every accepted book and every accepted window

module _ (s : List ℕ) (m n : ℤ) (b : Bytes s) (a : refusal base s ≡ 0) (e : window_refusal m n ≡ 0) where
  -- the bytes hold the segments
  pub row_segments : Rows.segments (window_answer s m n) ≡ map seen_span (segments_of s m n)
  unfolding window_answer
  row_segments =
      (written (window_forms s m n) (window_row s m n b a e)).1
      ∙ forms_seen (stated_cover (coverage_of (records s))) (segments_of s m n)

  -- they are not empty, in order, do not overlap and lie inside the window, and two that touch differ
  pub row_shape : Within (placed w64 m) (placed w64 n) (Rows.segments (window_answer s m n)) × Apart seen_marks (Rows.segments (window_answer s m n))
  row_shape =
      let h = window_shape s m n a e in
      let w = window_passed m n e in
      let ss = segments_of s m n in (
        subst (Within (placed w64 m) (placed w64 n)) (sym row_segments)
            (seen_within _ _ _ _ ss (instant_of_law m w.start_in) (instant_of_law n w.end_in) h.within),
        subst (Apart seen_marks) (sym row_segments) (seen_apart ss h.apart),
      )

  -- at every instant they show what the timeline shows
  pub row_look : (z : ℤ) → inside instants z ≡ true
      → look (λ (x : Seen). x.mark) (Rows.segments (window_answer s m n)) (placed w64 z) ≡ segment_at segments (segments_of s m n) (instant_of z)
  row_look z i =
      ap₂ (look (λ (x : Seen). x.mark)) row_segments (instant_of_law z i) ∙ seen_look (segments_of s m n) (instant_of z)
