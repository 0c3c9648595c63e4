-- What the window's answer writes is a good row. Assumes nothing.
use mathlib.Core.Path.{◌≡◌, refl, sym, ap, ◌∙◌, subst}
use mathlib.Core.List.{List, [], ◌∷◌, ◌++◌, map}
use Rattle.std.specs.Prelude.{Option, None, Some}
use mathlib.Core.Bool.{true}
use Prim.Native.Nat.{ℕ, ◌+◌, ◌^◌, ◌≤◌, ◌<◌}
use native.Mathlib.Omega.{arith}
use borrow.Author.Tests.{leb-true}
use lib.IntN.{ℤ, pos, negsuc}
use lib.ListN.{length}
use lib.Signed.{le_z}
use mir.Syntax.{w64}
use mir.Val.{SFits}
use Rattle.wire.specs.Signs.{placed}
use Rattle.wire.proofs.Signs.{and_true, placed_meant}
use Rattle.zone.specs.Units.{instant_number, last_instant, instant_of}
use Rattle.zone.specs.Answers.{values}
use Rattle.zone.specs.declared.Uncertainty.{Uncertainty}
use Rattle.zone.specs.declared.Uncertainty.TheVariants.{Exact, PublishedGranularity, PublishedBound, ProcessStart, AmbiguousLocalTime, NonexistentLocalTime}
use Rattle.zone.proofs.Domain.{instant_zero, instant_placed}
use Rattle.records.specs.Limits.{base}
use Rattle.records.specs.Records.{Coverage}
use Rattle.records.specs.Book.{refusal, records, inside, instants, instants_after}
use Rattle.records.specs.Valid.{Bytes}
use Rattle.venue.specs.Opening.{coverage_of, header_of}
use Rattle.venue.proofs.Laws.{good_coverage}
use Rattle.venue.proofs.Known.{Known, start_number, end_number}
use Rattle.spans.specs.Spans.{Span, Within}
use Rattle.spans.specs.Timeline.{Part, blank}
use Rattle.spans.proofs.Lists.{ordered}
use Rattle.query.specs.Judging.{window_refusal}
use Rattle.query.proofs.Instants.{instant_meant}
use Rattle.query.proofs.Order.{window_passed}
use Rattle.events.specs.declared.Occurrence.{Occurrence}
use Rattle.answer.specs.Forms.{Cover, Form}
use Rattle.answer.specs.Fitting.{FitsCover}
use Rattle.answer.specs.Meaning.{event_of}
use Rattle.answer.proofs.Used.{instant_fits, values_fit, side_fits}
use Rattle.rows.specs.Rows.{good_row}
use Rattle.rows.specs.Written.{instant, Tagged, GoodPhase, GoodGap, GoodEvent, Owing, RowFrom}
use Rattle.rows.proofs.Writing.{written}
use Rattle.span_records.specs.Shown.{Shown, head_form, event_form}
use Rattle.timeline.specs.Asking.{segment_forms, timeline_forms, segments_by, stated_cover, segments_of, window_forms, window_answer}
use Rattle.timeline.proofs.Shape.{window_shape}
use Rattle.timeline.proofs.Bounds.{row_most, Every, Bodies, bodies_keep, Used, Good, Shows, segments_good}

-- ---- instants, placed

pub number_placed : (t : ℕ) → instant (instant_number t) ≡ t + instant_zero
number_placed t = ap (placed w64) (instant_placed t) ∙ placed_meant w64 (t + instant_zero)

pub instant_of_law : (z : ℤ) → inside instants z ≡ true → instant z ≡ instant_of z + instant_zero
instant_of_law z e = ap (placed w64) (sym (instant_meant z e)) ∙ placed_meant w64 (instant_of z + instant_zero)

tagged : (u : Uncertainty) → Tagged (values u)
tagged Exact = omega arith
tagged (PublishedGranularity n) = omega arith
tagged (PublishedBound n text) = omega arith
tagged (ProcessStart text) = omega arith
tagged (AmbiguousLocalTime d) = omega arith
tagged (NonexistentLocalTime d) = omega arith

-- ---- one segment's records

module _ (from to least : ℕ) (forward : from < to) (used : to ≤ last_instant) (order : least ≤ from + instant_zero) where
  numbers_rise : instant (instant_number from) < instant (instant_number to)
  numbers_rise = omega (arith, number_placed from, number_placed to)

  not_before : least ≤ instant (instant_number from)
  not_before = omega (arith, number_placed from)

  start_fits : SFits w64 (instant_number from)
  start_fits = instant_fits from (omega arith)

  end_fits : SFits w64 (instant_number to)
  end_fits = instant_fits to used

  good_gap : (c : Option Cover) → FitsCover c → GoodGap least (record { start = instant_number from; end = instant_number to; coverage = c })
  good_gap c f = record { fits = record { start = start_fits; end = end_fits; coverage = f }; forward = numbers_rise; order = not_before }

  good_phase : {n : ℕ} (x : Shown) → Good n x → n < 2 ^ 32 → GoodPhase least (head_form from to x.held x.whole (length x.events))
  good_phase {n} x g h =
      let p = g.phase in
      let c = g.rule.good.code in
      let l = g.few in
      record {
        fits = record {
          start = start_fits;
          end = end_fits;
          phase = omega (arith, p);
          code = omega (arith, c);
          label = g.rule.numbers.label;
          evidence = g.rule.numbers.evidence;
          derived = g.rule.numbers.derived;
          from = side_fits x.held.start g.start;
          to = side_fits x.held.end g.end;
          whole = values_fit x.whole g.whole;
          events = omega (arith, l, h);
        };
        phase = p;
        code = c;
        from = tagged x.held.start.uncertainty;
        to = tagged x.held.end.uncertainty;
        whole = tagged x.whole;
        forward = numbers_rise;
        order = not_before;
      }

good_event : (o : Occurrence) → Used o → GoodEvent (event_of o.code o.boundary o.evidence)
good_event o u =
    record {
      fits = record {
        code = u.code;
        at = instant_fits o.boundary.at.0 u.boundary.at;
        uncertainty = values_fit o.boundary.uncertainty u.boundary.uncertainty;
        evidence = u.evidence;
      };
      tag = tagged o.boundary.uncertainty;
    }

-- a phase's events, and what follows them
events_owed : (least : ℕ) (os : List Occurrence) (fs : List Form) → Every Used os → Owing least 0 fs
    → Owing least (length os) (map event_form os ++ fs)
unfolding Owing
events_owed least [] fs u h = h
events_owed least (o ∷ os) fs u h = (good_event o u.0, events_owed least os fs u.1 h)

-- ---- segments in order are a row

module _ (c : Option Cover) (f : FitsCover c) (hi n : ℕ) (used : hi ≤ last_instant) (few : n < 2 ^ 32) where
  pub segments_row : (lo least : ℕ) (ss : List (Span (Option Shown))) → Within lo hi ss → Bodies (Shows n) ss → least ≤ lo + instant_zero
      → Owing least 0 (timeline_forms c ss)
  unfolding timeline_forms Owing
  segments_row lo least [] w g h = tt
  segments_row lo least (s ∷ ss) w g h =
      go s.body g.0 (segments_row s.to (instant (instant_number s.to)) ss w.2 g.1 (omega (arith, number_placed s.to)))
    where
      ends : s.to ≤ last_instant
      ends = let o = ordered s.to hi ss w.2 in omega arith

      begins : least ≤ s.from + instant_zero
      begins = let a = w.0 in omega arith

      go : (o : Option Shown) → Shows n o → Owing (instant (instant_number s.to)) 0 (timeline_forms c ss)
          → Owing least 0 (segment_forms c s.from s.to o ++ timeline_forms c ss)
      go None k on = (good_gap s.from s.to least w.1 ends begins c f, on)
      go (Some x) k on = (
        good_phase s.from s.to least w.1 ends begins x k few,
        events_owed (instant (instant_number s.to)) x.events (timeline_forms c ss) k.events on,
      )

-- ---- the window's

module _ (s : List ℕ) (z : refusal base s ≡ 0) where
  -- coverage that an answer states
  cover_fits : (o : Option Coverage) → coverage_of (records s) ≡ o → FitsCover (stated_cover o)
  cover_fits None q = tt
  cover_fits (Some c) q =
      let k : Known s (header_of (records s) c) = record { accepted = z; covered = c; is = q; header = refl } in
      let g = good_coverage s z c q in
      let i : instant_of c.end ≤ last_instant = omega (arith, g.end_high) in
      let j : instant_of c.start ≤ last_instant = omega (arith, g.order) in
      let start = subst (SFits w64) (start_number k) (instant_fits (instant_of c.start) j) in
      let end = subst (SFits w64) (end_number k) (instant_fits (instant_of c.end) i) in
      (start, end)

  bodies_by : Bytes s → (w : Part) (o : Option Coverage) → coverage_of (records s) ≡ o → Bodies (Shows row_most) (segments_by (records s) w o)
  unfolding blank
  bodies_by b w None q = bodies_keep (Shows row_most) w.start w.end None [] tt tt
  bodies_by b w (Some c) q = segments_good s b z c q w

instant_used : (z : ℤ) → inside instants z ≡ true → instant_of z ≤ last_instant
instant_used (pos k) e = omega (arith, leb-true k instants_after (and_true (le_z instants.low (pos k)) (le_z (pos k) instants.high) e).1)
instant_used (negsuc k) e = omega arith

-- For every accepted book and every accepted window. Label, evidence, derived, text and an event's code have no range of their own: they fit two
-- bytes because a book's elements are bytes.
pub window_row : (s : List ℕ) (m n : ℤ) → Bytes s → refusal base s ≡ 0 → window_refusal m n ≡ 0 → RowFrom 0 (window_forms s m n)
window_row s m n b z e =
    let h = window_shape s m n z e in
    let o = coverage_of (records s) in
    let u = instant_used n (window_passed m n e).end_in in
    let w : Part = record { start = instant_of m; end = instant_of n } in
    segments_row (stated_cover o) (cover_fits s z o refl) (instant_of n) row_most u (omega arith) (instant_of m) 0 (segments_of s m n) h.within
    (bodies_by s z b w o refl) (omega arith)

-- the bytes are a good row
pub row_good : (s : List ℕ) (m n : ℤ) → Bytes s → refusal base s ≡ 0 → window_refusal m n ≡ 0 → good_row (window_answer s m n) ≡ true
unfolding window_answer
row_good s m n b z e = (written (window_forms s m n) (window_row s m n b z e)).0
