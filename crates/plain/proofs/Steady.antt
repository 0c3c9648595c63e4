-- Where no clock change stands near, a date is plain, whatever its rule. Assumes nothing.
use mathlib.Core.Path.{◌≡◌, refl, ap, ap₂, ◌∙◌}
use mathlib.Core.List.{List, [], ◌∷◌, map}
use Rattle.std.specs.Prelude.{Option, None, Some}
use Prim.Native.Nat.{ℕ, suc, ◌+◌, ◌-◌, ◌*◌, ◌≤◌, ◌<◌}
use native.Mathlib.Omega.{arith}
use Rattle.calendar.specs.Answers.{first_day, last_day}
use Rattle.zone.specs.Units.{day_ns, most_offset, most_offset_ns, offset_ns, nearest_instant, nearest_reading, reading_at, reading_day}
use Rattle.zone.specs.Zone.{Zone, zone_of, offset_at, date_at, reading_of, instant_by, resolve}
use Rattle.zone.specs.Answers.{Valid, taken}
use Rattle.zone.specs.Steady.{steady_until}
use Rattle.zone.specs.Clocks.{zone_in}
use Rattle.zone.specs.declared.clock.Clock.{Clock}
use Rattle.venue.specs.Values.{rules_in}
use Rattle.venue.specs.declared.rule.Rules.{Rules}
use Rattle.zone.proofs.Offsets.{offset_most}
use Rattle.zone.proofs.Readings.{resolve_steady}
use Rattle.zone.proofs.Until.{until_in, until_steady}
use Rattle.records.specs.Records.{Point, Rule, rule_at}
use Rattle.venue.specs.Reading.{Rising, FromMidnight, EachPoint, GoodRule, ListedRules}
use Rattle.spans.specs.Timeline.{Venue, midnight}
use Rattle.day.specs.Governing.{governing_rule}
use Rattle.day.specs.Days.{Held, venue_by}
use Rattle.day.proofs.Listed.{governing_source, source_good}
use Rattle.plain.specs.Plain.{Rises, InOrder, PlainDate}
use Rattle.plain.specs.Private.{PlainUntil}

module _ (first : ℕ) (ats os : List ℕ) (ok : Valid first ats os) (g : ℕ → Option Rule) (good : (d : ℕ) (r : Rule) → g d ≡ Some r → GoodRule r) where
  abbrev z : Zone
  z = zone_of first ats os

  abbrev v : Venue Held
  v = venue_by z g

  -- if the offset is o from a day before it to a day after it

  module _ (d o : ℕ) (low : first_day ≤ d) (high : d ≤ last_day) (small : o ≤ 2 * most_offset)
      (steady : (t : ℕ) → (d - 1) * day_ns ≤ t → t ≤ (d + 2) * day_ns → offset_at z t ≡ o) where
    -- conversion is a shift
    shifted : (x : ℕ) → d * day_ns ≤ x → x ≤ (d + 1) * day_ns → taken (resolve z x) ≡ instant_by o x
    shifted x a b = ap taken (resolve_steady first ats os ok x (omega arith) o (λ t l h. steady t (omega arith) (omega arith)))

    at_time : (x : ℕ) → x < day_ns → v.conv d x ≡ instant_by o (d * day_ns + x)
    at_time x h =
        let r : nearest_reading (reading_at d x) ≡ d * day_ns + x = omega arith in
        ap (λ (y : ℕ). taken (resolve z y)) r ∙ shifted (d * day_ns + x) (omega arith) (omega arith)

    pub begins_at : midnight v d ≡ instant_by o (d * day_ns)
    begins_at = let n : d * day_ns + 0 ≡ d * day_ns = omega arith in at_time 0 (omega arith) ∙ ap (instant_by o) n

    pub ends_at : midnight v (suc d) ≡ instant_by o ((d + 1) * day_ns)
    ends_at =
        let r : nearest_reading (reading_at (suc d) 0) ≡ (d + 1) * day_ns = omega arith in
        ap (λ (y : ℕ). taken (resolve z y)) r ∙ shifted ((d + 1) * day_ns) (omega arith) (omega arith)

    rises : (x : ℕ) (ps : List Point) → x < day_ns → Rising x ps → EachPoint ps → Rises (v.conv d) (v.conv d x) (midnight v (suc d)) ps
    rises x [] h r e = omega (arith, at_time x h, ends_at)
    rises x (p ∷ ps) h r e = (omega (arith, at_time x h, at_time p.time e.0, r.0), rises p.time ps e.0 r.1 e.2)

    points : (ps : List Point) → FromMidnight ps → EachPoint ps → Rises (v.conv d) (midnight v d) (midnight v (suc d)) ps
    points [] f e = absurd f
    points (p ∷ ps) f e = (omega (arith, ap (v.conv d) f.0), rises p.time ps e.0 f.1 e.2)

    in_order_law : (r : Option Rule) → g d ≡ r → InOrder (v.conv d) (midnight v d) (midnight v (suc d)) r
    in_order_law None e = tt
    in_order_law (Some r) e = points r.points (good d r e).from_midnight (good d r e).each

    reading : (t : ℕ) → midnight v d ≤ t → t < midnight v (suc d) → date_at z t ≡ d
    reading t a b =
        let near : nearest_instant t ≡ t = omega (arith, begins_at, ends_at) in
        let is : reading_of z t ≡ t + offset_ns o - most_offset_ns =
        ap₂ (λ (i j : ℕ). i + offset_ns j - most_offset_ns) near (ap (offset_at z) near ∙ steady t (omega (arith, begins_at)) (omega (arith, ends_at))) in
        ap reading_day is ∙ omega (arith, begins_at, ends_at)

    pub steady_date : PlainDate v d
    steady_date = record { rising = omega (arith, begins_at, ends_at); points = in_order_law (g d) refl; reading = reading }

-- a date before the first near which the clock changes, of rules at listed places
pub until_plain : (s : List ℕ) (first : ℕ) (ats os rules : List ℕ) → Valid first ats os → ListedRules s rules
    → (d e : ℕ) → d ≤ e → e < steady_until ats d → PlainDate (venue_by (zone_of first ats os) (governing_rule (map (rule_at s) rules))) e
until_plain s first ats os rules ok listed d e from before =
    let in_use = until_in ats d e from before in
    steady_date first ats os ok (governing_rule (map (rule_at s) rules)) (λ c r g. source_good s r (governing_source s rules listed c r g)) e
    (offset_at (zone_of first ats os) ((d - 1) * day_ns)) in_use.0 in_use.1 (offset_most first ats os ((d - 1) * day_ns) ok)
    (until_steady ats d e from before first os ok)

-- the dates up to one that is not behind that first
pub until_run : (clock : Clock) (rules : Rules) (d last r : ℕ) → d < r → r ≤ last → r ≤ steady_until clock.ats.now d
    → PlainUntil (venue_by (zone_in clock) (governing_rule (rules_in rules))) d last r
until_run clock rules d last r h i j =
    record {
      most = i;
      run = λ e a b. until_plain rules.book.now clock.offset0 clock.ats.now clock.offsets.now rules.places.now clock.valid rules.listed d e a (omega arith);
      stops = λ l. absurd (omega arith);
    }
