-- Where no clock change stands near, windows are plain, so the theorem says something of every venue. Assumes nothing.
use mathlib.Core.Path.{◌≡◌, sym, ap, subst}
use mathlib.Core.Bool.{true}
use mathlib.Core.List.{List, [], map}
use Rattle.std.specs.Prelude.{Option, Some}
use Prim.Native.Nat.{ℕ, suc, ◌+◌, ◌-◌, ◌*◌, ◌≤◌, ◌<◌}
use native.Mathlib.Omega.{arith}
use borrow.Author.Tests.{leb-true}
use lib.IntN.{ℤ, pos, negsuc}
use lib.Signed.{le_z}
use Rattle.wire.proofs.Signs.{and_true}
use Rattle.calendar.specs.Answers.{first_day, last_day, zero_day}
use Rattle.zone.specs.Units.{day_ns, most_offset, most_offset_ns, offset_ns, reading_day, instant_of, seconds_instant}
use Rattle.zone.specs.Zone.{Zone, zone_of, changes_of, last_offset, offset_at}
use Rattle.zone.specs.Answers.{Valid}
use Rattle.zone.proofs.Offsets.{offset_most}
use Rattle.records.specs.Records.{Coverage, Transition, Rule}
use Rattle.records.specs.Book.{inside, instants, records, instants_before, instants_after}
use Rattle.venue.specs.Opening.{offset_of, transitions_of, rules_of, ats_of, offsets_of}
use Rattle.venue.specs.Reading.{GoodRule}
use Rattle.venue.proofs.Laws.{zone_valid}
use Rattle.spans.specs.Timeline.{Venue, Part, midnight}
use Rattle.day.specs.Governing.{governing_rule}
use Rattle.day.specs.Days.{Held, values_of, venue_by}
use Rattle.day.proofs.Listed.{governing_listed, source_good}
use Rattle.query.specs.Judging.{window_refusal}
use Rattle.query.proofs.Order.{window_passed}
use Rattle.plain.specs.Plain.{PlainDate, PlainWindow, longest_run}
use Rattle.plain.specs.Books.{window, PlainFor, Plain}
use Rattle.plain.proofs.Steady.{steady_date, begins_at, ends_at}
use Rattle.agreement.specs.Books.{Names}

module _ (first : ℕ) (ats os : List ℕ) (ok : Valid first ats os) (g : ℕ → Option Rule) (good : (d : ℕ) (r : Rule) → g d ≡ Some r → GoodRule r) where
  abbrev z : Zone
  z = zone_of first ats os

  abbrev v : Venue Held
  v = venue_by z g

  -- if the offset is o from four days before it to four days after it

  module _ (w : Part) (o : ℕ) (opens : w.start < w.end) (low : (first_day + 4) * day_ns ≤ w.start) (high : w.end + 4 * day_ns ≤ last_day * day_ns)
      (small : o ≤ 2 * most_offset) (steady : (t : ℕ) → w.start ≤ t + 4 * day_ns → t ≤ w.end + 4 * day_ns → offset_at z t ≡ o) where
    -- the date on which it starts, and the last that it meets
    abbrev start : ℕ
    start = reading_day (w.start + offset_ns o - most_offset_ns)

    abbrev last : ℕ
    last = reading_day (w.end - 1 + offset_ns o - most_offset_ns)

    date : (d : ℕ) → start ≤ suc d → d ≤ suc last → PlainDate v d
    date d a b = steady_date first ats os ok g good d o (omega arith) (omega arith) small (λ t l h. steady t (omega arith) (omega arith))

    pub steady_window : w.end ≤ w.start + (longest_run - 1) * day_ns → PlainWindow v w
    steady_window short =
        let n : start + (suc last - start) ≡ suc last = omega arith in
        record {
          first = start;
          count = suc last - start;
          few = omega arith;
          run = λ d a b. date d (omega arith) (omega arith);
          opens = omega (arith, begins_at first ats os ok g good start o (omega arith) (omega arith) small (λ t l h. steady t (omega arith) (omega arith)));
          closes = omega (arith, ap (midnight v) n, ends_at first ats os ok g good last o (omega arith) (omega arith) small (λ t l h. steady t (omega arith) (omega arith)));
          later = omega arith;
          before = date (start - 1) (omega arith) (omega arith);
          after = subst (PlainDate v) (sym n) (date (suc last) (omega arith) (omega arith));
        }

-- ---- a window of a book

-- an instant in range, since 1899-12-25
in_days : (n : ℤ) → inside instants n ≡ true → (zero_day * day_ns - instants_before ≤ instant_of n) × (instant_of n ≤ zero_day * day_ns + instants_after)
in_days (pos k) e =
    let h = leb-true k instants_after (and_true (le_z instants.low (pos k)) (le_z (pos k) instants.high) e).1 in
    (omega arith, omega arith)
in_days (negsuc k) e =
    let h = leb-true k (instants_before - 1) (and_true (le_z instants.low (negsuc k)) (le_z (negsuc k) instants.high) e).0 in
    (omega arith, omega arith)

module _ (s : List ℕ) (c : Coverage) (named : Names s c) (start end : ℤ) (passes : window_refusal start end ≡ 0)
    (short : instant_of end ≤ instant_of start + (longest_run - 1) * day_ns) where
  abbrev zone : Zone
  zone = (values_of (records s) c).zone

  -- the offset is one from four days before the window to four days after it
  pub steady_plain : (o : ℕ) → ((t : ℕ) → instant_of start ≤ t + 4 * day_ns → t ≤ instant_of end + 4 * day_ns → offset_at zone t ≡ o) → Plain s start end
  steady_plain o steady =
      let rs = records s in
      let w = window_passed start end passes in
      let a = in_days start w.start_in in
      let b = in_days end w.end_in in
      let order = w.order in
      let ok = zone_valid s named.accepted c named.coverage in
      let small = offset_most (offset_of c.offset) (ats_of rs) (offsets_of rs) (instant_of start) ok in
      subst (PlainFor rs (window start end)) (sym named.coverage)
      (steady_window (offset_of c.offset) (ats_of rs) (offsets_of rs) ok (governing_rule (rules_of rs))
      (λ d r g. source_good s r (governing_listed s named.accepted d r g)) (window start end) o order (omega arith) (omega arith)
      (subst (λ (k : ℕ). k ≤ 2 * most_offset) (steady (instant_of start) (omega arith) (omega arith)) small) steady short)

  -- the book lists no clock change
  pub unchanged_plain : transitions_of (records s) ≡ [] → Plain s start end
  unfolding last_offset
  unchanged_plain e =
      steady_plain (offset_of c.offset)
      (λ t a b. ap (λ (ts : List Transition). last_offset (offset_of c.offset)
      (changes_of (map (λ (x : Transition). seconds_instant x.at) ts) (map (λ (x : Transition). offset_of x.offset) ts)) t) e)
