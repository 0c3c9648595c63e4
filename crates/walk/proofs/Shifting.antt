-- Where the clock is steady, a date's boundaries are its midnight's shifts, none in doubt. Assumes nothing.
use Rattle.std.specs.Prelude.{None, Option, Some, ℕ}
use mathlib.Core.Path.{◌≡◌, sym, ap, ◌∙◌}
use mathlib.Core.List.{List, [], ◌∷◌}
use Prim.Native.Nat.{ℕ, zero, suc, ◌+◌, ◌*◌, ◌≤◌, ◌<◌, max}
use native.Mathlib.Nat.{not-suc-le-zero, le_of_suc-le-suc}
use native.Mathlib.Omega.{arith}
use lib.ListN.{length, get_or, set, length-set}
use Rattle.wire.specs.Fields.{wrote}
use Rattle.zone.specs.Units.{day_ns, most_offset, nearest_reading, reading_at}
use Rattle.zone.specs.Zone.{Zone, zone_of, date_at, resolve}
use Rattle.zone.specs.Answers.{Valid, taken}
use Rattle.zone.specs.Steady.{steady_of, day_by, midnight_by, OnWall, DayOnWall}
use Rattle.zone.specs.declared.Boundary.{Boundary}
use Rattle.zone.specs.declared.Uncertainty.{Uncertainty}
use Rattle.zone.specs.declared.Uncertainty.TheVariants.{Exact}
use Rattle.zone.proofs.Shifts.{steady_in, steady_date, steady_day_in, in_date, next_midnight as ends-date, steady_boundary}
use Rattle.records.specs.Records.{Point, Rule}
use Rattle.venue.specs.Reading.{EachPoint}
use Rattle.venue.specs.Reading as Reading
use Rattle.walk.specs.Walking.{edge_instants, ClearDate}
use Rattle.walk.specs.Shifting.{Shifts, SteadyOn}
use Rattle.walk.proofs.Filling.{Filling, filling_next, filled}

-- ---- a steady clock

abbrev boundary_at : Uncertainty → ℕ → Boundary
boundary_at u t = record { at = record { 0 = t }; uncertainty = u }

next_midnight : (o d : ℕ) → o ≤ 2 * most_offset → 3 ≤ d → midnight_by o (suc d) + 0 ≡ midnight_by o d + day_ns
next_midnight o d h i = omega arith

-- a day that is b, and the one after it
on_day : {a b : ℕ} → a ≡ b → (b ≤ a) × (a ≤ suc b)
on_day e = (omega arith, omega arith)

until : {a b : ℕ} → a ≡ b → a ≤ b
until e = omega arith

next_day : {a b : ℕ} → a ≡ b → (b ≤ suc a) × (suc a ≤ suc b)
next_day e = (omega arith, omega arith)

module _ (first : ℕ) (ats os : List ℕ) (ok : Valid first ats os) (c : ℕ) where
  abbrev z : Zone
  z = zone_of first ats os

  same : c ≤ c
  same = omega arith

  pub steady_on : (s : Option ℕ) → s ≡ steady_of z c c → (d : ℕ) → d ≡ date_at z c → SteadyOn z s d
  steady_on None e d f = tt
  steady_on (Some o) e d f =
      let here = on_day f in
      let next = next_day f in
      let day = steady_day_in first ats os ok c c o same (sym e) d here.0 here.1 in (
        day,
        record {
          times = λ x u h. steady_boundary first ats os ok c c o same (sym e) d x u here.0 h (in_date d x (date_at z c) (until f) h);
          next = λ u.
              steady_boundary first ats os ok c c o same (sym e) (suc d) 0 u next.0 (omega arith) (ends-date d (date_at z c) (until f))
              ∙ ap (boundary_at u) (next_midnight o d day.0 day.1);
        },
      )

  module _ {s : (Option ℕ)} {o : ℕ} (e : s ≡ steady_of z c c) (b : s ≡ Some o) where
    pub cursor_on : OnWall o c
    cursor_on = steady_in first ats os ok c c o same (sym e ∙ b) c same same

    pub cursor_date : {d : ℕ} → d ≡ day_by o c → d ≡ date_at z c
    cursor_date f = f ∙ sym (steady_date first ats os ok c c o same (sym e ∙ b) c same same)

pub shifts_by : {z : Zone} {d o : ℕ} {s : (Option ℕ)} → s ≡ Some o → SteadyOn z s d → DayOnWall o d × Shifts z d (midnight_by o d)
shifts_by b h = rw b at h

-- ---- none in doubt

time_in : (ps : List Point) (i : ℕ) → EachPoint ps → i < length ps → (get_or ps i Reading.midnight).time ≤ day_ns
time_in [] i e h = absurd (not-suc-le-zero h)
time_in (p ∷ ps) zero e h = omega (arith, e.0)
time_in (p ∷ ps) (suc i) e h = time_in ps i e.2 (le_of_suc-le-suc h)

pub shifts_clear : {z : Zone} {d m : ℕ} → Shifts z d m → (r : Rule) → EachPoint r.points → ClearDate z r d
shifts_clear s r e =
    record {
      points = λ i h u. ap (λ (b : Boundary). b.uncertainty) (s.times (get_or r.points i Reading.midnight).time u (time_in r.points i e h));
      midnight = λ u. ap (λ (b : Boundary). b.uncertainty) (s.next u);
    }

-- ---- an array filled with them, whatever the zone and the date

pub record Shifting (r : Rule) (m : ℕ) (old a : List ℕ) (b i : ℕ) : Type 0 where
  pub long : length a ≡ length old
  pub most : i ≤ length r.points
  pub filling : (z : Zone) (d : ℕ) → Shifts z d m → Filling z r d old a b i

module _ (r : Rule) (m : ℕ) (old a : List ℕ) (b i x : ℕ) (s : Shifting r m old a b i) (l : length r.points < length old)
    (k : 1 ≤ length r.points) where
  pub shifting_next : (y : ℕ) → i < length r.points → (y ≡ (get_or r.points i Reading.midnight).time) × (y < day_ns) → x ≡ max b (m + y)
      → Shifting r m old (set a i x) x (i + 1)
  shifting_next y h t e =
      record {
        long = length-set a i x ∙ s.long;
        most = omega arith;
        filling = λ z d g.
            filling_next z r d old a b i x (s.filling z d g) l k (m + y) h e
            (sym (ap (λ (q : Boundary). q.at.0) (g.times y Exact (omega (arith, t.1)))) ∙ ap (λ (q : ℕ). taken (resolve z (nearest_reading (reading_at d q)))) t.0);
      }

  pub shifted : (n : ℕ) → n ≡ length r.points → n ≤ i → x ≡ max b (m + day_ns) → (z : Zone) (d : ℕ) → Shifts z d m
      → set a n x ≡ wrote old 0 (edge_instants z r d)
  shifted n h j e z d g = filled z r d old a b i x (s.filling z d g) l k n (m + day_ns) h j e (sym (ap (λ (q : Boundary). q.at.0) (g.next Exact)))
