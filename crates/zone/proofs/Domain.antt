-- Numbers in use: their instants, and readings of dates and times. Assumes nothing.
use Rattle.std.proofs.Common.{◌≡◌, ℕ, ◌+◌, ◌-◌, ◌*◌, ◌^◌, ◌<◌, ◌≤◌, List, ap, ◌∙◌, arith, lit≤, w64}
use Rattle.wire.specs.Signs.{meant, half}
use Rattle.wire.proofs.Signs.{origin, counted, counted_once, since_meant}
use Rattle.calendar.specs.Answers.{last_day, zero_day}
use Rattle.zone.specs.Units.{day_ns, most_offset_ns, offset_ns, instant_number, first_instant, last_instant, first_reading, last_reading, nearest_instant, nearest_reading, reading_day, reading_time, reading_at, second_ns, instant_of, seconds_instant}
use Rattle.zone.specs.Zone.{Zone, zone_of, offset_at, Reads, reading_of, date_at, resolve}
use Rattle.zone.specs.Answers.{Valid, taken}
use Rattle.zone.proofs.Offsets.{offset_most}
use Rattle.zone.proofs.Readings.{Among, among, taken_near}

-- ---- instants and their numbers

-- the instant 0, placed
abbrev pub instant_zero : ℕ
instant_zero = origin w64 (zero_day * day_ns) (lit≤ tt)

pub instant_placed : (t : ℕ) → instant_number t ≡ meant w64 (t + instant_zero)
instant_placed t = counted w64 (zero_day * day_ns) (lit≤ tt) t

pub instant_meant : (p : ℕ) → instant_of (meant w64 p) ≡ p - instant_zero
instant_meant p = since_meant w64 (zero_day * day_ns) p (omega arith)

pub second_meant : (p : ℕ) → seconds_instant (meant w64 p) ≡ (p - (half w64 - zero_day * 86400)) * second_ns
second_meant p = ap (λ (i : ℕ). i * second_ns) (since_meant w64 (zero_day * 86400) p (omega arith))

pub number_once : (s t : ℕ) → instant_number s ≡ instant_number t → s ≡ t
number_once s t e = counted_once w64 (zero_day * day_ns) (lit≤ tt) s t e

-- ---- dates and times

-- the reading at a time of a date has that date and that time
pub reading_parts : (d x : ℕ) → d ≤ last_day + 6 → x < day_ns → (reading_day (reading_at d x) ≡ d) × (reading_time (reading_at d x) ≡ x)
reading_parts d x h l =
    let z : reading_at d x ≡ d * day_ns + x = omega arith in
    (ap reading_day z ∙ omega arith, ap reading_time z ∙ omega arith)

-- and a reading is the one at its time of its date
pub reading_whole : (x : ℕ) → x < last_reading → reading_at (reading_day x) (reading_time x) ≡ x
reading_whole x h = omega arith

-- ---- in use, nothing saturates

module _ (first : ℕ) (ats os : List ℕ) (ok : Valid first ats os) where
  abbrev z : Zone
  z = zone_of first ats os

  -- the wall shows the reading of an instant
  pub reads_own : (t : ℕ) → first_instant ≤ t → t ≤ last_instant → Reads z t (reading_of z t)
  reads_own t a b =
      let n : nearest_instant t ≡ t = omega arith in
      let r : reading_of z t ≡ t + offset_ns (offset_at z t) - most_offset_ns = ap (λ (u : ℕ). u + offset_ns (offset_at z u) - most_offset_ns) n in
      omega arith

  -- an instant is among the instants of its own reading
  pub own : (t : ℕ) → first_instant + most_offset_ns ≤ t → t ≤ last_instant → Among t (resolve z (reading_of z t))
  own t a b =
      let r = reads_own t (omega arith) b in
      among first ats os ok (reading_of z t) (omega arith) t r

  -- what a reading converts to is an instant in use
  pub taken_in : (x : ℕ) → (first_instant ≤ taken (resolve z (nearest_reading x))) × (taken (resolve z (nearest_reading x)) ≤ last_instant)
  taken_in x =
      let h : (first_reading ≤ nearest_reading x) × (nearest_reading x ≤ last_reading) = omega arith in
      let n = taken_near first ats os ok (nearest_reading x) (omega arith) in
      omega (arith, h, n)

-- dates are small
pub date_small : (first : ℕ) (ats os : List ℕ) (t : ℕ) → Valid first ats os → date_at (zone_of first ats os) t < 2 ^ 17
date_small first ats os t v = omega (arith, offset_most first ats os (nearest_instant t) v)
