-- Demand 3 of books: over a plain window of the venue that a book names, the timeline and the point answers agree at every instant.
-- Assumes nothing.
use mathlib.Core.Path.{◌≡◌, refl, subst, ◌∙◌}
use mathlib.Core.Logic.{◌↔◌}
use mathlib.Core.Bool.{true}
use mathlib.Core.List.{List, [], ◌∷◌}
use Rattle.std.specs.Prelude.{Option, None, Some}
use Prim.Native.Nat.{ℕ, ◌+◌, ◌-◌, ◌≤◌}
use native.Mathlib.Omega.{arith}
use lib.IntN.{ℤ}
use lib.ListN.{length}
use lib.Signed.{lt_z, le_z}
use Rattle.records.specs.Limits.{base}
use Rattle.records.specs.Records.{Coverage, Point, Record, coverage_at}
use Rattle.records.specs.Book.{inside, instants, refusal, records}
use Rattle.venue.specs.Opening.{coverage_of, header_of}
use Rattle.venue.specs.Reading.{FromMidnight}
use Rattle.venue.proofs.Laws.{good_coverage, covered}
use Rattle.venue.proofs.Known.{Known, start_number, end_number}
use Rattle.spans.specs.Spans.{Mark, segment_at}
use Rattle.spans.specs.Timeline.{Part, Starts, point_at}
use Rattle.spans.proofs.Mapping.{on_shown, point_map}
use Rattle.day.specs.Days.{Values, Held, values_of, venue_of, point_of}
use Rattle.day.proofs.Listed.{governing_listed, source_good}
use Rattle.query.specs.Judging.{window_refusal}
use Rattle.query.proofs.Instants.{number_back}
use Rattle.query.proofs.Order.{lt_le, inside_between, GivenBack, instant_le, instant_lt, number_le, number_lt, window_passed, window_inside}
use Rattle.span_records.specs.Shown.{Shown, shown}
use Rattle.timeline.specs.Segments.{mark_of, segments, showing, timeline_of}
use Rattle.timeline.proofs.Parts.{merges}
use Rattle.point.specs.Said.{point_mark}
use Rattle.zone.specs.Units.{instant_of}
use Rattle.plain.specs.Plain.{PlainDate, PlainWindow}
use Rattle.agreement.specs.Agreeing.{Accepted, Covered, Agrees}
use Rattle.plain.specs.Books.{window, PlainFor, Plain}
use Rattle.agreement.specs.Books.{Names, Between, Agreed}
use Rattle.agreement.proofs.Agreeing.{plain}

-- ---- every accepted book but that of zero bytes names a venue

pub names : (s : List ℕ) → refusal base s ≡ 0 → (length s ≡ 0 → ⊥) → Names s (coverage_at s 0)
names s e n = record { accepted = e; coverage = covered s e n }

-- ---- a governing rule of an accepted book starts at 00:00

from_midnight : (ps : List Point) → FromMidnight ps → Starts ps
from_midnight [] h = h
from_midnight (p ∷ ps) h = h.0

-- ---- the venue, with what its spans show

module _ (v : Values) where
  abbrev shows : Held → Option Shown
  shows h = Some (shown v.zone v.events h)

  date_shown : (d : ℕ) → PlainDate (venue_of v) d → PlainDate (showing v.zone v.governing v.events) d
  date_shown d p = record { rising = p.rising; points = p.points; reading = p.reading }

  pub window_shown : (w : Part) → PlainWindow (venue_of v) w → PlainWindow (showing v.zone v.governing v.events) w
  window_shown w p =
      record {
        first = p.first;
        count = p.count;
        few = p.few;
        run = λ d a b. date_shown d (p.run d a b);
        opens = p.opens;
        closes = p.closes;
        later = p.later;
        before = date_shown (p.first - 1) p.before;
        after = date_shown (p.first + p.count) p.after;
      }

  -- its point answers
  pub point_shown : (t : ℕ) → point_at mark_of (showing v.zone v.governing v.events) v.coverage t ≡ point_mark (point_of v t)
  point_shown t = point_map shows mark_of (venue_of v) v.coverage t ∙ go (point_of v t)
    where
      go : (o : Option Held) → on_shown (λ (h : Held). mark_of (shows h)) o ≡ point_mark o
      go None = refl
      go (Some h) = refl

module _ (s : List ℕ) (c : Coverage) (named : Names s c) where
  abbrev values : Values
  values = values_of (records s) c

  pub accepted : Accepted segments (showing values.zone values.governing values.events) None values.coverage
  accepted =
      record {
        starts = λ d r g. from_midnight r.points (source_good s r (governing_listed s named.accepted d r g)).from_midnight;
        shows = λ r s e p. refl;
        merges = merges;
        lacks = refl;
        covers = (good_coverage s named.accepted c named.coverage).order;
      }

  abbrev opened : Known s (header_of (records s) c)
  opened = record { accepted = named.accepted; covered = c; is = named.coverage; header = refl }

  module _ (start end : ℤ) (passes : window_refusal start end ≡ 0) where
    -- an instant of the window is in range
    module _ (at : ℤ) (in_window : Between start end at) where
      pub in_range : inside instants at ≡ true
      in_range =
          let w = window_passed start end passes in
          inside_between instants start end at w.start_in w.end_in in_window.0 (lt_le at end in_window.1)

      kept : GivenBack at
      kept = number_back at in_range

      covered_is : Between c.start c.end at ↔ Covered values.coverage (instant_of at)
      covered_is = (
        λ h. (instant_le c.start at (start_number opened) kept h.0, instant_lt at c.end kept (end_number opened) h.1),
        λ h. (number_le c.start at (start_number opened) kept h.0, number_lt at c.end kept (end_number opened) h.1),
      )

      -- in integers
      agreed : (l p : Option Mark) → Agrees (showing values.zone values.governing values.events) values.coverage (instant_of at) l p
          → Agreed s c at l p
      agreed l p a =
          let k = covered_is in
          record {
            known = a.known;
            outside = (λ h b. a.outside.0 h (k.0 b), λ h. a.outside.1 (λ b. h (k.1 b)));
            nothing = (λ h. let x = a.nothing.0 h in (k.1 x.0, x.1), λ h. a.nothing.1 (k.0 h.0, h.1));
          }

      pub plain_agrees : Plain s start end
          → Agreed s c at (segment_at segments (timeline_of values (window start end)) (instant_of at)) (point_mark (point_of values (instant_of at)))
      plain_agrees pw =
          let w = window_passed start end passes in
          let t = instant_of at in
          let shown = segment_at segments (timeline_of values (window start end)) t in
          let run = subst (PlainFor (records s) (window start end)) named.coverage pw in
          agreed shown (point_mark (point_of values t))
          (subst (Agrees (showing values.zone values.governing values.events) values.coverage t shown) (point_shown values t)
          (plain segments (showing values.zone values.governing values.events) None values.coverage (window start end) accepted w.order
          (window_shown values (window start end) run) t
          (instant_le start at w.start_number kept in_window.0)
          (instant_lt at end kept w.end_number in_window.1)))

-- ---- a window inside a plain window is plain

inside_plain : (rs : List Record) (a b c d : ℕ) → a ≤ c → d ≤ b → (o : Option Coverage)
    → PlainFor rs (record { start = a; end = b }) o → PlainFor rs (record { start = c; end = d }) o
inside_plain rs a b c d h i None p = p
inside_plain rs a b c d h i (Some _) p =
    record {
      first = p.first;
      count = p.count;
      few = p.few;
      run = p.run;
      opens = omega (arith, p.opens);
      closes = omega (arith, p.closes);
      later = p.later;
      before = p.before;
      after = p.after;
    }

pub plain_inside : (s : List ℕ) (start end start' end' : ℤ) → window_refusal start end ≡ 0 → le_z start start' ≡ true → lt_z start' end' ≡ true
    → le_z end' end ≡ true
    → Plain s start end → (window_refusal start' end' ≡ 0) × Plain s start' end'
plain_inside s start end start' end' e a b c p =
    let passed = window_inside start end start' end' e a b c in
    let x = window_passed start end e in
    let y = window_passed start' end' passed in (
      passed,
      inside_plain (records s) (instant_of start) (instant_of end) (instant_of start') (instant_of end')
          (instant_le start start' x.start_number y.start_number a) (instant_le end' end y.end_number x.end_number c) (coverage_of (records s)) p,
    )
