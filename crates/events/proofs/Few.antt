-- How many events a span can have. Assumes nothing.
use mathlib.Core.Bool.{Bool, true, false, cond, ◌&&◌}
use mathlib.Core.List.{List, [], ◌∷◌, ◌++◌, map}
use Prim.Native.Nat.{ℕ, zero, suc, ◌+◌, ◌-◌, ◌*◌, ◌^◌, ◌≤◌, ◌<◌}
use native.Mathlib.Omega.{arith}
use lib.Dec.{leb}
use lib.ListN.{length, get_or, length-append, length-map}
use Rattle.zone.specs.Zone.{Zone, zone_of, date_at}
use Rattle.zone.specs.Units.{day_ns, most_offset_ns, nearest_instant}
use Rattle.zone.specs.Answers.{Valid}
use Rattle.zone.proofs.Domain.{date_small}
use Rattle.zone.proofs.Offsets.{offset_most}
use Rattle.records.specs.Records.{Event, event_at}
use Rattle.venue.specs.Opening.{day_of}
use Rattle.venue.specs.Reading.{ListedEvent, ListedEvents}
use Rattle.venue.proofs.Laws.{good_event}
use Rattle.records.specs.Limits.{base}
use Rattle.events.specs.Happenings.{happens, occurrence, on_times, on_date, on_dates, found, most_in_span, most_on_date}

-- each has at most 8 times
abbrev FewTimes : List Event → Type 0
FewTimes [] = Unit {0}
FewTimes (e ∷ es) = (length e.times ≤ 8) × FewTimes es

module _ (z : Zone) (from to : ℕ) where
  times_few : (d : ℕ) (e : Event) (xs : List ℕ) → length (on_times z from to d e xs) ≤ length xs
  unfolding on_times
  times_few d e [] = omega arith
  times_few d e (x ∷ xs) = go (happens from to (occurrence z d e x)) (times_few d e xs)
    where
      go : (b : Bool) → length (on_times z from to d e xs) ≤ length xs
          → length (cond b (occurrence z d e x ∷ on_times z from to d e xs) (on_times z from to d e xs)) ≤ suc (length xs)
      go true h = omega arith
      go false h = omega arith

  date_few : (d : ℕ) (es : List Event) → FewTimes es → length (on_date z from to d es) ≤ 8 * length es
  unfolding on_date
  date_few d [] f = omega arith
  date_few d (e ∷ es) f = go (leb (day_of e.first) d && leb d (day_of e.last)) (date_few d es f.1)
    where
      go : (b : Bool) → length (on_date z from to d es) ≤ 8 * length es
          → length (cond b (on_times z from to d e e.times ++ on_date z from to d es) (on_date z from to d es)) ≤ 8 * suc (length es)
      go true h = omega (arith, length-append (on_times z from to d e e.times) (on_date z from to d es), times_few d e e.times, f.0)
      go false h = omega arith

  dates_few : (es : List Event) → FewTimes es → (d n : ℕ) → length es ≤ base.events → length (on_dates z from to es d n) ≤ most_on_date * n
  unfolding on_dates
  dates_few es f d zero h = omega arith
  dates_few es f d (suc n) h =
      omega (arith, length-append (on_date z from to d es) (on_dates z from to es (suc d) n), date_few d es f, dates_few es f (suc d) n h)

-- the dates from a span's start to its end, where it is at most 56 hours long
dates_near : (first : ℕ) (ats offsets : List ℕ) → Valid first ats offsets → (from to : ℕ) → to ≤ from + (day_ns + most_offset_ns + most_offset_ns)
    → date_at (zone_of first ats offsets) to ≤ date_at (zone_of first ats offsets) from + 4
dates_near first ats offsets v from to h =
    let z = zone_of first ats offsets in
    let a = offset_most first ats offsets (nearest_instant from) v in
    let b = offset_most first ats offsets (nearest_instant to) v in
    omega arith

-- the events of an accepted book
book_few : (s places : List ℕ) → ((i : ℕ) → i < length places → ListedEvent s (get_or places i 0)) → FewTimes (map (event_at s) places)
book_few s [] l = tt
book_few s (p ∷ ps) l = ((good_event s p (l 0 (omega arith))).few, book_few s ps (λ i h. l (suc i) (omega arith)))

-- whatever the span
pub found_few : (s : List ℕ) (first : ℕ) (ats offsets events : List ℕ) → Valid first ats offsets → ListedEvents s events → length events ≤ base.events
    → (from to : ℕ) → length (found (zone_of first ats offsets) (map (event_at s) events) from to) ≤ 2 ^ 25
unfolding found
found_few s first ats offsets events v a l from to =
    let z = zone_of first ats offsets in
    let es = map (event_at s) events in
    let m : length es ≤ base.events = omega (arith, length-map events (event_at s)) in
    by_dates (date_at z from) (date_at z to) _ (date_small first ats offsets to v)
    (dates_few z from to es (book_few s events a) (date_at z from) (suc (date_at z to - date_at z from)) m)
  where
    by_dates : (d e n : ℕ) → e < 2 ^ 17 → n ≤ most_on_date * suc (e - d) → n ≤ 2 ^ 25
    by_dates d e n i j = omega arith

-- of at most 56 hours
pub few : (s : List ℕ) (first : ℕ) (ats offsets events : List ℕ) → Valid first ats offsets → ListedEvents s events → length events ≤ base.events
    → (from to : ℕ) → to ≤ from + (day_ns + most_offset_ns + most_offset_ns) → length (found (zone_of first ats offsets) (map (event_at s) events) from to) ≤ most_in_span
unfolding found
few s first ats offsets events v a l from to h =
    let z = zone_of first ats offsets in
    let es = map (event_at s) events in
    let m : length es ≤ base.events = omega (arith, length-map events (event_at s)) in
    by_dates (date_at z from) (date_at z to) _ (dates_near first ats offsets v from to h)
    (dates_few z from to es (book_few s events a) (date_at z from) (suc (date_at z to - date_at z from)) m)
  where
    by_dates : (d e n : ℕ) → e ≤ d + 4 → n ≤ most_on_date * suc (e - d) → n ≤ most_in_span
    by_dates d e n i j = omega arith
