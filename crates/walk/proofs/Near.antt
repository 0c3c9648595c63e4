-- A date's boundaries stand near each other. Assumes nothing.
use mathlib.Core.Path.{◌≡◌, sym, subst}
use mathlib.Core.Bool.{Bool, true, false}
use mathlib.Core.List.{List}
use Prim.Native.Nat.{ℕ, zero, suc, ◌+◌, ◌-◌, ◌≤◌, ◌<◌, max}
use native.Mathlib.Decide.{dec_lt}
use native.Mathlib.Omega.{arith}
use lib.Dec.{eqb}
use lib.ListN.{length}
use Rattle.zone.specs.Units.{day_ns, most_offset_ns, nearest_reading, reading_at}
use Rattle.zone.specs.Zone.{Zone, zone_of, instant_by_before, instant_by_after, reads, resolve, resolved}
use Rattle.zone.specs.Answers.{Valid, taken}
use Rattle.zone.proofs.Offsets.{offset_most}
use Rattle.records.specs.Records.{Rule}
use Rattle.walk.specs.Walking.{span_ns}
use Rattle.walk.proofs.Edges.{instant_at, before, point_at, instant_next, instant_last}

-- x by an offset, for one instant or the other
near_taken : (p q o : Bool) (a b lo hi : ℕ) → lo ≤ a → a ≤ hi → lo ≤ b → b ≤ hi → (lo ≤ taken (resolved p q o a b)) × (taken (resolved p q o a b) ≤ hi)
near_taken true true true a b lo hi e f g h = (e, f)
near_taken true true false a b lo hi e f g h = (e, f)
near_taken true false o a b lo hi e f g h = (e, f)
near_taken false true o a b lo hi e f g h = (g, h)
near_taken false false o a b lo hi e f g h = (omega arith, omega arith)

module _ (first : ℕ) (ats os : List ℕ) (good : Valid first ats os) where
  abbrev z : Zone
  z = zone_of first ats os

  -- the instant taken for a reading
  near : (x : ℕ) → (x - most_offset_ns ≤ taken (resolve z x)) × (taken (resolve z x) ≤ x + most_offset_ns)
  unfolding resolve
  near x =
      let a = offset_most first ats os (x - most_offset_ns) good in
      let b = offset_most first ats os (x + most_offset_ns) good in
      near_taken (reads z (instant_by_before z x) x) (reads z (instant_by_after z x) x) (eqb (instant_by_before z x) (instant_by_after z x)) (instant_by_before z x) (instant_by_after z x) (x - most_offset_ns) (x + most_offset_ns)
      (omega arith) (omega arith) (omega arith) (omega arith)

  -- the first reading of a date
  unfoldable opens : ℕ → ℕ
  opens d = nearest_reading (reading_at d 0)

  on_date_law : (d x : ℕ) → (opens d ≤ nearest_reading (reading_at d x)) × (nearest_reading (reading_at d x) ≤ opens d + day_ns)
  unfolding opens
  on_date_law d x = (omega arith, omega arith)

  next_date : (d : ℕ) → nearest_reading (reading_at (suc d) 0) ≤ opens d + day_ns
  unfolding opens
  next_date d = omega arith

  -- the instants taken on it, and for the next midnight
  abbrev taken_at : ℕ → ℕ → ℕ
  taken_at d x = taken (resolve z (nearest_reading (reading_at d x)))

  from_first : (y t o : ℕ) → y - most_offset_ns ≤ t → o ≤ y → o ≤ t + most_offset_ns
  from_first y t o h i = omega arith

  taken_least : (d x : ℕ) → opens d ≤ taken_at d x + most_offset_ns
  taken_least d x = from_first (nearest_reading (reading_at d x)) (taken_at d x) (opens d) (near (nearest_reading (reading_at d x))).0 (on_date_law d x).0

  to_last : (y t o : ℕ) → t ≤ y + most_offset_ns → y ≤ o + day_ns → t ≤ o + day_ns + most_offset_ns
  to_last y t o h i = omega arith

  taken_most : (d x : ℕ) → taken_at d x ≤ opens d + day_ns + most_offset_ns
  taken_most d x = to_last (nearest_reading (reading_at d x)) (taken_at d x) (opens d) (near (nearest_reading (reading_at d x))).1 (on_date_law d x).1

  midnight_most : (d : ℕ) → taken_at (suc d) 0 ≤ opens d + day_ns + most_offset_ns
  midnight_most d =
      to_last (nearest_reading (reading_at (suc d) 0)) (taken_at (suc d) 0) (opens d) (near (nearest_reading (reading_at (suc d) 0))).1 (next_date d)

  module _ (r : Rule) (d : ℕ) (some_in : 1 ≤ length r.points) where
    abbrev at : ℕ → ℕ
    at k = instant_at z r d k

    raised_most : (a b c hi : ℕ) → a ≡ max b c → b ≤ hi → c ≤ hi → a ≤ hi
    raised_most a b c hi e h i = omega arith

    before_most : (k : ℕ) → k ≤ length r.points → before z r d k ≤ opens d + day_ns + most_offset_ns
    before_most zero h = omega arith
    before_most (suc k) h =
        raised_most (at k) (before z r d k) (taken_at d (point_at z r d k).time) (opens d + day_ns + most_offset_ns) (instant_next z r d k h)
        (before_most k (omega arith)) (taken_most d (point_at z r d k).time)

    at_most_law : (k : ℕ) → k < length r.points → at (suc k) ≤ opens d + day_ns + most_offset_ns
    at_most_law k h = go (dec_lt (suc k) (length r.points))
      where
        go : Dec (suc k < length r.points) → at (suc k) ≤ opens d + day_ns + most_offset_ns
        go (yes l) = before_most (suc (suc k)) l
        go (no l) =
            let e : suc k ≡ length r.points = omega arith in
            raised_most (at (suc k)) (before z r d (suc k)) (taken_at (suc d) 0) (opens d + day_ns + most_offset_ns)
            (subst (λ (i : ℕ). at i ≡ max (before z r d i) (taken_at (suc d) 0)) (sym e) (instant_last z r d some_in))
            (before_most (suc k) h) (midnight_most d)

    -- no span of a date is long
    pub short : (k : ℕ) → k < length r.points → at (suc k) ≤ at k + span_ns
    short k h = go (at k) (before z r d k) (taken_at d (point_at z r d k).time) (instant_next z r d k h) (taken_least d (point_at z r d k).time) (at_most_law k h)
      where
        go : (a b c : ℕ) → a ≡ max b c → opens d ≤ c + most_offset_ns → at (suc k) ≤ opens d + day_ns + most_offset_ns → at (suc k) ≤ a + span_ns
        go a b c e i j = omega arith
