-- What a listed rule or event holds, field by field, and its points or times one by one. Assumes nothing.
use mathlib.Core.Path.{◌≡◌, refl, sym, ap, ap₂, ◌∙◌}
use mathlib.Core.Logic.{◌⊎◌, inl, inr}
use mathlib.Core.Bool.{false, not, ◌&&◌, ◌||◌}
use mathlib.Core.List.{List, [], ◌∷◌}
use Prim.Native.Nat.{ℕ, zero, suc, ◌+◌, ◌-◌, ◌*◌, ◌≤◌, ◌<◌}
use native.Mathlib.Nat.{sub-zero, le_of_suc-le-suc}
use native.Mathlib.Omega.{arith}
use borrow.Author.Tests.{ltb-false, leb-false, eqb-true, not-false}
use lib.ListN.{length, get_or}
use lib.Dec.{ltb, leb, eqb}
use lib.Signed.{lt_z}
use mir.Syntax.{w32, w64}
use Rattle.wire.specs.Fields.{field}
use Rattle.wire.specs.Signs.{half, since, meant, turned}
use Rattle.wire.proofs.Signs.{since_meant, order_lt}
use Rattle.calendar.specs.Answers.{first_day, last_day, zero_day}
use Rattle.zone.specs.Units.{day_ns}
use Rattle.zone.specs.declared.Uncertainty.TheVariants.{PublishedGranularity, PublishedBound}
use Rattle.records.specs.Layout.{number, tag, nanoseconds, text, count, time, phase, step, day_first, day_last, rule_kind, event_kind}
use Rattle.records.specs.Limits.{base}
use Rattle.records.specs.Records.{Published, Point, rule, event, rule_at, event_at, published_at, points_at, times_at, record_at}
use Rattle.records.specs.Book.{inside, days, widths, any, bad_days, bad_uncertainty, bad_rule, bad_time, bad_point, bad_fields, outside, late, falls_from, falls, falling, late_start, reversed, last_code, last_mask, last_phase, most_width, last_published}
use Rattle.records.proofs.Tests.{or_false, inside_range}
use Rattle.records.proofs.Frames.{is_three, is_four, room3, room4}
use Rattle.venue.specs.Opening.{day_of}
use Rattle.book.proofs.Judging.{points_length, times_length}
use Rattle.venue.specs.Reading.{Listed, published, midnight, Rising, FromMidnight, EachPoint, EachTime, ListedRule, ListedEvent}

-- ---- dates, as the fields place them

pub record Dates (a b : ℕ) : Type 0 where
  pub first_low : half w32 - zero_day + first_day ≤ a
  pub first_high : a ≤ half w32 - zero_day + last_day
  pub last_low : half w32 - zero_day + first_day ≤ b
  pub last_high : b ≤ half w32 - zero_day + last_day
  pub order : a ≤ b

dates : (a b : ℕ) → bad_days (meant w32 a) (meant w32 b) ≡ false → lt_z (meant w32 b) (meant w32 a) ≡ false → Dates a b
unfolding meant
dates a b e r =
    let o = or_false (not (inside days (meant w32 a))) (not (inside days (meant w32 b))) e in
    let x = inside_range w32 (half w32 - zero_day + first_day) (half w32 - zero_day + last_day) a o.0 in
    let y = inside_range w32 (half w32 - zero_day + first_day) (half w32 - zero_day + last_day) b o.1 in
    record {
      first_low = x.0;
      first_high = x.1;
      last_low = y.0;
      last_high = y.1;
      order = ltb-false b a (sym (order_lt w32 b a) ∙ r);
    }

pub day_value : (x : ℕ) → half w32 - zero_day + first_day ≤ x → x - (half w32 - zero_day) ≡ day_of (meant w32 x)
day_value x h = sym (since_meant w32 zero_day x (omega arith))

-- y is such a date's field, as it was read
day_read : {x y : ℕ} → y ≡ x → half w32 - zero_day + first_day ≤ x → x ≤ half w32 - zero_day + last_day
    → (y - (half w32 - zero_day) ≡ day_of (meant w32 x)) × (first_day ≤ y - (half w32 - zero_day)) × (y - (half w32 - zero_day) ≤ last_day)
day_read {x} {y} e l h = (ap (λ (k : ℕ). k - (half w32 - zero_day)) e ∙ day_value x l, omega arith, omega arith)

-- ---- an uncertainty: a width is not negative, and the tag says which it is

width_low : (t x n : ℕ) → bad_uncertainty (record { tag = t; nanoseconds = meant w64 x; text = n }) ≡ false → half w64 ≤ x
unfolding meant
width_low t x n e =
    let o = or_false (ltb last_published t || not (inside widths (meant w64 x))) _ e in
    let p = or_false (ltb last_published t) (not (inside widths (meant w64 x))) o.0 in
    (inside_range w64 (half w64) (half w64 + most_width) x p.1).0

module _ (t x n : ℕ) where
  abbrev pub told : Published
  told = record { tag = t; nanoseconds = meant w64 x; text = n }

  width_value : half w64 ≤ x → x - half w64 ≡ since 0 (meant w64 x)
  width_value h = sym (since_meant w64 0 x (omega arith) ∙ ap (λ (k : ℕ). x - k) (sub-zero (half w64)))

  pub granular : half w64 ≤ x → t ≡ 1 → PublishedGranularity (x - half w64) ≡ published told
  granular h e = rw e (ap PublishedGranularity (width_value h))

  pub bounded : half w64 ≤ x → t ≡ 2 → PublishedBound (x - half w64) n ≡ published told
  bounded h e = rw e (ap (λ (k : ℕ). PublishedBound k n) (width_value h))

-- ---- points and times

each_point : (ps : List Point) → any bad_point ps ≡ false → EachPoint ps
each_point [] e = tt
each_point (p ∷ ps) e =
    let o = or_false (bad_point p) (any bad_point ps) e in
    let b = or_false (bad_time p.time) (ltb last_phase p.phase) o.0 in
    (leb-false day_ns p.time b.0, ltb-false 7 p.phase b.1, each_point ps o.1)

each_time : (ts : List ℕ) → any bad_time ts ≡ false → EachTime ts
each_time [] e = tt
each_time (t ∷ ts) e = let o = or_false (bad_time t) (any bad_time ts) e in (leb-false day_ns t o.0, each_time ts o.1)

rising : (t : ℕ) (ps : List Point) → falls_from t ps ≡ false → Rising t ps
rising t [] e = tt
rising t (p ∷ ps) e = let o = or_false (leb p.time t) (falls_from p.time ps) e in (leb-false p.time t o.0, rising p.time ps o.1)

from_midnight : (ps : List Point) → late ps ≡ false → falls ps ≡ false → FromMidnight ps
from_midnight [] e r = let z : ◌≡◌ {A = ℕ} 0 1 = cc in omega arith
from_midnight (p ∷ ps) e r = (eqb-true p.time 0 (not-false (eqb p.time 0) e), rising p.time ps r)

some_point : (ps : List Point) → FromMidnight ps → 1 ≤ length ps
some_point [] e = absurd e
some_point (p ∷ ps) e = omega arith

-- the i-th
point_of : (ps : List Point) (i : ℕ) → EachPoint ps → i < length ps → ((get_or ps i midnight).time < day_ns) × ((get_or ps i midnight).phase ≤ last_phase)
point_of [] i e h = absurd (omega arith)
point_of (p ∷ ps) zero e h = (e.0, e.1)
point_of (p ∷ ps) (suc i) e h = point_of ps i e.2 (le_of_suc-le-suc h)

time_of : (ts : List ℕ) (i : ℕ) → EachTime ts → i < length ts → get_or ts i 0 < day_ns
time_of [] i e h = absurd (omega arith)
time_of (t ∷ ts) zero e h = e.0
time_of (t ∷ ts) (suc i) e h = time_of ts i e.1 (le_of_suc-le-suc h)

-- where the i-th of n stands
point_at : (s : List ℕ) (at n i : ℕ) → i < n
    → get_or (points_at s at n) i midnight ≡ record { time = number (time rule_kind) s (at + step rule_kind * i); phase = number (phase rule_kind) s (at + step rule_kind * i) }
unfolding points_at
point_at s at zero i h = absurd (omega arith)
point_at s at (suc n) zero h = let z : at + step rule_kind * 0 ≡ at = omega arith in rw z
point_at s at (suc n) (suc i) h = let z : at + step rule_kind + step rule_kind * i ≡ at + step rule_kind * suc i = omega arith in rw⁻¹ z (point_at s (at + step rule_kind) n i (omega arith))

time_at : (s : List ℕ) (at n i : ℕ) → i < n → get_or (times_at s at n) i 0 ≡ number (time event_kind) s (at + step event_kind * i)
unfolding times_at
time_at s at zero i h = absurd (omega arith)
time_at s at (suc n) zero h = let z : at + step event_kind * 0 ≡ at = omega arith in rw z
time_at s at (suc n) (suc i) h = let z : at + step event_kind + step event_kind * i ≡ at + step event_kind * suc i = omega arith in rw⁻¹ z (time_at s (at + step event_kind) n i (omega arith))

-- ---- a listed rule

pub record RuleFields (s : List ℕ) (p : ℕ) : Type 0 where
  pub dates_in : Dates (turned w32 (number day_first s p)) (turned w32 (number day_last s p))
  pub code : (rule_at s p).code ≤ last_code
  pub mask : (rule_at s p).mask ≤ last_mask
  pub width : half w64 ≤ turned w64 (number (nanoseconds rule_kind) s p)
  pub few : length (rule_at s p).points ≤ base.points

module _ {s : List ℕ} {p : ℕ} (l : ListedRule s p) where
  is_rule_law : record_at s p ≡ rule (rule_at s p)
  is_rule_law = is_three s p rule_kind l.frame (sym l.kind) refl

  pub rule_room : p + (time rule_kind).from + step rule_kind * number (count rule_kind) s p ≤ length s
  rule_room = room3 s p rule_kind l.frame (sym l.kind) refl

  abbrev rule_tests : (bad_fields base (rule (rule_at s p)) ≡ false) × (any bad_point (rule_at s p).points ≡ false)
  rule_tests = or_false (bad_fields base (rule (rule_at s p))) (any bad_point (rule_at s p).points) (ap (outside base) (sym is_rule_law) ∙ l.within)

  pub rule_fields : RuleFields s p
  unfolding bad_fields
  rule_fields =
      let r = rule_at s p in
      let a = or_false (bad_rule r) (ltb base.points (length r.points)) rule_tests.0 in
      let b = or_false ((bad_days r.first r.last || ltb last_code r.code) || ltb last_mask r.mask) _ a.0 in
      let c = or_false (bad_days r.first r.last || ltb last_code r.code) (ltb last_mask r.mask) b.0 in
      let d = or_false (bad_days r.first r.last) (ltb last_code r.code) c.0 in
      let weekly = eqb r.code 0 in
      let e = or_false ((weekly && not (eqb r.label 0)) || (not weekly && not (eqb r.mask 0))) (bad_uncertainty r.uncertainty) b.1 in
      record {
        dates_in = dates (turned w32 (number day_first s p)) (turned w32 (number day_last s p)) d.0 (ap reversed (sym is_rule_law) ∙ l.forward);
        code = ltb-false 3 r.code d.1;
        mask = ltb-false last_mask r.mask c.1;
        width = width_low r.uncertainty.tag (turned w64 (number (nanoseconds rule_kind) s p)) r.uncertainty.text e.1;
        few = ltb-false base.points (length r.points) a.1;
      }

  pub rule_each : EachPoint (rule_at s p).points
  rule_each = each_point (rule_at s p).points rule_tests.1

  pub rule_rises : FromMidnight (rule_at s p).points
  rule_rises = from_midnight (rule_at s p).points (ap late_start (sym is_rule_law) ∙ l.prompt) (ap falling (sym is_rule_law) ∙ l.rising)

  -- how many points, and the i-th, as they are read
  pub points_read : {r : ℕ} → r ≡ number (count rule_kind) s p → (r ≡ length (rule_at s p).points) × (1 ≤ r) × (r ≤ base.points)
  points_read {r} e =
      let n = points_length s p (number (count rule_kind) s p) in
      let low = some_point (rule_at s p).points rule_rises in
      let high = rule_fields.few in
      (omega arith, omega arith, omega arith)

  module _ {i : ℕ} (h : i < length (rule_at s p).points) where
    point_below : i < number (count rule_kind) s p
    point_below = let n = points_length s p (number (count rule_kind) s p) in omega arith

    point_room : p + step rule_kind * i + ((time rule_kind).from + step rule_kind) ≤ length s
    point_room = let b = point_below in omega (arith, rule_room)

    -- the same by the distance from one point to the next, as it is read
    pub point_inside : {w : ℕ} → w ≡ step rule_kind → (p + w * i + ((time rule_kind).from + step rule_kind) ≤ length s) × (length s ≤ base.bytes)
    point_inside e = (rw e (omega (arith, point_room)), l.small)

    abbrev here : get_or (rule_at s p).points i midnight ≡ record { time = number (time rule_kind) s (p + step rule_kind * i); phase = number (phase rule_kind) s (p + step rule_kind * i) }
    here = point_at s p (number (count rule_kind) s p) i point_below

    pub time_read : {r : ℕ} → r ≡ number (time rule_kind) s (p + step rule_kind * i) → (r ≡ (get_or (rule_at s p).points i midnight).time) × (r < day_ns)
    time_read {r} e = let z = e ∙ sym (ap (λ (q : Point). q.time) here) in (z, rw z (point_of (rule_at s p).points i rule_each h).0)

    pub phase_read : {r : ℕ} → r ≡ field 1 s (p + step rule_kind * i + (time rule_kind).from + 8) → (r ≡ (get_or (rule_at s p).points i midnight).phase) × (r ≤ last_phase)
    phase_read {r} e =
        let q : p + step rule_kind * i + (time rule_kind).from + 8 ≡ p + step rule_kind * i + (phase rule_kind).from = omega arith in
        let z = e ∙ ap (field 1 s) q ∙ sym (ap (λ (x : Point). x.phase) here) in
        (z, rw z (point_of (rule_at s p).points i rule_each h).1)

-- ---- a listed event

pub record EventFields (s : List ℕ) (p : ℕ) : Type 0 where
  pub dates_in : Dates (turned w32 (number day_first s p)) (turned w32 (number day_last s p))
  pub width : half w64 ≤ turned w64 (number (nanoseconds event_kind) s p)
  pub few : length (event_at s p).times ≤ base.times

module _ {s : List ℕ} {p : ℕ} (l : ListedEvent s p) where
  is_event : record_at s p ≡ event (event_at s p)
  is_event = is_four s p event_kind l.frame (sym l.kind) refl

  pub event_room : p + (time event_kind).from + step event_kind * number (count event_kind) s p ≤ length s
  event_room = room4 s p event_kind l.frame (sym l.kind) refl

  abbrev event_tests : (bad_fields base (event (event_at s p)) ≡ false) × (any bad_time (event_at s p).times ≡ false)
  event_tests = or_false (bad_fields base (event (event_at s p))) (any bad_time (event_at s p).times) (ap (outside base) (sym is_event) ∙ l.within)

  pub event_fields : EventFields s p
  unfolding bad_fields
  event_fields =
      let v = event_at s p in
      let a = or_false (bad_days v.first v.last || bad_uncertainty v.uncertainty) (ltb base.times (length v.times)) event_tests.0 in
      let b = or_false (bad_days v.first v.last) (bad_uncertainty v.uncertainty) a.0 in
      record {
        dates_in = dates (turned w32 (number day_first s p)) (turned w32 (number day_last s p)) b.0 (ap reversed (sym is_event) ∙ l.forward);
        width = width_low v.uncertainty.tag (turned w64 (number (nanoseconds event_kind) s p)) v.uncertainty.text b.1;
        few = ltb-false base.times (length v.times) a.1;
      }

  pub event_each : EachTime (event_at s p).times
  event_each = each_time (event_at s p).times event_tests.1

  pub times_read : {r : ℕ} → r ≡ number (count event_kind) s p → (r ≡ length (event_at s p).times) × (r ≤ base.times)
  times_read {r} e =
      let n = times_length s p (number (count event_kind) s p) in
      let high = event_fields.few in
      (omega arith, omega arith)

  module _ {i : ℕ} (h : i < length (event_at s p).times) where
    time_below : i < number (count event_kind) s p
    time_below = let n = times_length s p (number (count event_kind) s p) in omega arith

    event_time_room : p + step event_kind * i + ((time event_kind).from + step event_kind) ≤ length s
    event_time_room = let b = time_below in omega (arith, event_room)

    -- the same by the distance from one time to the next, as it is read
    pub event_time_inside : {w : ℕ} → w ≡ step event_kind → (p + w * i + ((time event_kind).from + step event_kind) ≤ length s) × (length s ≤ base.bytes)
    event_time_inside e = (rw e (omega (arith, event_time_room)), l.small)

    pub event_time_read : {r : ℕ} → r ≡ number (time event_kind) s (p + step event_kind * i) → (r ≡ get_or (event_at s p).times i 0) × (r < day_ns)
    event_time_read {r} e =
        let z = e ∙ sym (time_at s p (number (count event_kind) s p) i time_below) in
        (z, rw z (time_of (event_at s p).times i event_each h))

-- ---- the days of both, as they are read

module _ {k : ℕ} {s : List ℕ} {p : ℕ} (i : (k ≡ rule_kind) ⊎ (k ≡ event_kind)) (l : Listed k s p) where
  dates_at : Dates (turned w32 (number day_first s p)) (turned w32 (number day_last s p))
  dates_at = go i
    where
      go : (k ≡ rule_kind) ⊎ (k ≡ event_kind) → Dates (turned w32 (number day_first s p)) (turned w32 (number day_last s p))
      go (inl e) = let m : ListedRule s p = rw e at l in (rule_fields m).dates_in
      go (inr e) = let m : ListedEvent s p = rw e at l in (event_fields m).dates_in

  pub first_read : {y : ℕ} → y ≡ turned w32 (number day_first s p)
      → (half w32 - zero_day ≤ y)
      × (y - (half w32 - zero_day) ≡ day_of (meant w32 (turned w32 (number day_first s p))))
      × (first_day ≤ y - (half w32 - zero_day))
      × (y - (half w32 - zero_day) ≤ last_day)
  first_read e =
      let d = dates_at in
      let r = day_read e d.first_low d.first_high in
      (omega (arith, e, d.first_low), r.0, r.1, r.2)

  pub last_read : {y : ℕ} → y ≡ turned w32 (number day_last s p)
      → (half w32 - zero_day ≤ y)
      × (y - (half w32 - zero_day) ≡ day_of (meant w32 (turned w32 (number day_last s p))))
      × (first_day ≤ y - (half w32 - zero_day))
      × (y - (half w32 - zero_day) ≤ last_day)
  last_read e =
      let d = dates_at in
      let r = day_read e d.last_low d.last_high in
      (omega (arith, e, d.last_low), r.0, r.1, r.2)

-- ---- the uncertainty of both

pub record Uncertain (k : ℕ) (s : List ℕ) (p : ℕ) : Type 0 where
  pub room : p + (count k).from ≤ length s
  pub width : half w64 ≤ turned w64 (number (nanoseconds k) s p)

-- its fields as they are read, from the tag's place q on
module _ {k : ℕ} {s : List ℕ} {p q : ℕ} (u : Uncertain k s p) (e : q ≡ (tag k).from) where
  nanoseconds_place : p + q + 1 ≡ p + (nanoseconds k).from
  nanoseconds_place = omega arith

  text_place : p + q + 9 ≡ p + (text k).from
  text_place = omega arith

  pub width_read : {x : ℕ} → x ≡ turned w64 (field 8 s (p + q + 1)) → half w64 ≤ x
  width_read z = rw (z ∙ ap (λ (i : ℕ). turned w64 (field 8 s i)) nanoseconds_place) u.width

  pub told_read : {t x n : ℕ} → t ≡ field 1 s (p + q) → x ≡ turned w64 (field 8 s (p + q + 1)) → n ≡ field 2 s (p + q + 9)
      → told t x n ≡ published_at k s p
  told_read {t} {x} {n} a b c =
      ap₂ (λ (i j : ℕ). told i j n) (a ∙ ap (λ (i : ℕ). field 1 s (p + i)) e) (b ∙ ap (λ (i : ℕ). turned w64 (field 8 s i)) nanoseconds_place)
      ∙ ap (λ (i : ℕ). told (number (tag k) s p) (turned w64 (number (nanoseconds k) s p)) i) (c ∙ ap (field 2 s) text_place)

pub uncertain_at : {k : ℕ} {s : List ℕ} {p : ℕ} → (k ≡ rule_kind) ⊎ (k ≡ event_kind) → Listed k s p → Uncertain k s p
uncertain_at {k} {s} {p} (inl i) l =
    let m : ListedRule s p = rw i at l in
    let q : Uncertain rule_kind s p = record { room = omega (arith, rule_room m); width = (rule_fields m).width } in
    rw i q
uncertain_at {k} {s} {p} (inr i) l =
    let m : ListedEvent s p = rw i at l in
    let q : Uncertain event_kind s p = record { room = omega (arith, event_room m); width = (event_fields m).width } in
    rw i q
