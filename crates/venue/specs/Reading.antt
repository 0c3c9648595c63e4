-- The rules and events of an accepted book, by where they stand, and what is known of them. Assumes nothing.
use Rattle.std.specs.Prelude.{ℕ, ◌*◌, ◌≤◌, ◌<◌, ◌≡◌, false, cond, List, [], ◌∷◌, eqb, length, get_or}
use Rattle.wire.specs.Signs.{since}
use Rattle.calendar.specs.Answers.{first_day, last_day}
use Rattle.zone.specs.Units.{day_ns, instant_of}
use Rattle.zone.specs.declared.Uncertainty.{Uncertainty}
use Rattle.zone.specs.declared.Uncertainty.TheVariants.{Exact, PublishedGranularity, PublishedBound, ProcessStart}
use Rattle.records.specs.Limits.{base}
use Rattle.records.specs.Records.{Coverage, Published, Point, Rule, Event, record_at}
use Rattle.records.specs.Frame.{Framed}
use Rattle.records.specs.Book.{kind_at, outside, late_start, falling, reversed, last_mask, last_phase, last_code}
use Rattle.records.specs.Layout.{rule_kind, event_kind}
use Rattle.venue.specs.Opening.{day_of}

-- a good record of kind k stands at p, in no more bytes than a book may have
pub record Listed (k : ℕ) (s : List ℕ) (p : ℕ) : Type 0 where
  pub small : length s ≤ base.bytes
  pub frame : Framed s p
  pub kind : kind_at s p ≡ k
  pub within : outside base (record_at s p) ≡ false
  pub prompt : late_start (record_at s p) ≡ false
  pub rising : falling (record_at s p) ≡ false
  pub forward : reversed (record_at s p) ≡ false

-- a record of kind k stands at each of the places
abbrev pub AllListed : ℕ → List ℕ → List ℕ → Type 0
AllListed k s places = (i : ℕ) → i < length places → Listed k s (get_or places i 0)

-- a rule, and an event
abbrev pub ListedRule : List ℕ → ℕ → Type 0
ListedRule s p = Listed rule_kind s p

abbrev pub ListedRules : List ℕ → List ℕ → Type 0
ListedRules s places = AllListed rule_kind s places

abbrev pub ListedEvent : List ℕ → ℕ → Type 0
ListedEvent s p = Listed event_kind s p

abbrev pub ListedEvents : List ℕ → List ℕ → Type 0
ListedEvents s places = AllListed event_kind s places

-- a published uncertainty: tag 0 exact, 1 granularity, 2 bound, 3 process start
abbrev pub published : Published → Uncertainty
published u =
    cond (eqb u.tag 0) Exact
    (cond (eqb u.tag 1) (PublishedGranularity (since 0 u.nanoseconds))
    (cond (eqb u.tag 2) (PublishedBound (since 0 u.nanoseconds) u.text) (ProcessStart u.text)))

-- where a list has no such point
abbrev pub midnight : Point
midnight = record { time = 0; phase = 0 }

-- ---- what an accepted book gives

pub record GoodCoverage (c : Coverage) : Type 0 where
  pub start_low : first_day * day_ns ≤ instant_of c.start
  pub order : instant_of c.start < instant_of c.end
  pub end_high : instant_of c.end ≤ last_day * day_ns

-- points rise from 00:00
abbrev pub Rising : ℕ → List Point → Type 0
Rising t [] = Unit {0}
Rising t (p ∷ ps) = (t < p.time) × Rising p.time ps

abbrev pub FromMidnight : List Point → Type 0
FromMidnight [] = ⊥
FromMidnight (p ∷ ps) = (p.time ≡ 0) × Rising p.time ps

abbrev pub EachPoint : List Point → Type 0
EachPoint [] = Unit {0}
EachPoint (p ∷ ps) = (p.time < day_ns) × (p.phase ≤ last_phase) × EachPoint ps

abbrev pub EachTime : List ℕ → Type 0
EachTime [] = Unit {0}
EachTime (t ∷ ts) = (t < day_ns) × EachTime ts

pub record GoodRule (r : Rule) : Type 0 where
  pub first_low : first_day ≤ day_of r.first
  pub order : day_of r.first ≤ day_of r.last
  pub last_high : day_of r.last ≤ last_day
  pub code : r.code ≤ last_code
  pub mask : r.mask ≤ last_mask
  pub from_midnight : FromMidnight r.points
  pub each : EachPoint r.points
  pub few : length r.points ≤ base.points

pub record GoodEvent (e : Event) : Type 0 where
  pub first_low : first_day ≤ day_of e.first
  pub order : day_of e.first ≤ day_of e.last
  pub last_high : day_of e.last ≤ last_day
  pub each : EachTime e.times
  pub few : length e.times ≤ base.times
