-- A venue's values, a date's spans, and the point: document 01, phase rules 2 and 3. Assumes nothing.
use Rattle.std.specs.Prelude.{ℕ, suc, ◌-◌, cond, Bool, true, false, List, [], ◌∷◌, ltb}
use Rattle.std.specs.Prelude.{Option, None, Some}
use Rattle.zone.specs.Zone.{Zone, zone_of, date_at, resolve}
use Rattle.zone.specs.Units.{nearest_reading, reading_at, instant_of}
use Rattle.zone.specs.Answers.{taken, uncertain, widest_of}
use Rattle.zone.specs.declared.Boundary.{Boundary}
use Rattle.zone.specs.declared.Uncertainty.{Uncertainty}
use Rattle.records.specs.Records.{Coverage, Rule, Event, Record}
use Rattle.venue.specs.Opening.{offset_of, ats_of, offsets_of, rules_of, events_of}
use Rattle.venue.specs.Reading.{published}
use Rattle.spans.specs.Spans.{Span, look}
use Rattle.spans.specs.Timeline.{Edge, Venue, Part, point_at, spans}
use Rattle.day.specs.Governing.{governing_rule}

-- a venue's values: coverage, zone, which rule governs a date, and the event rules
pub record Values : Type 0 where
  pub coverage : Part
  pub zone : Zone
  pub governing : ℕ → Option Rule
  pub events : List Event

abbrev pub values_of : List Record → Coverage → Values
values_of rs c =
    record {
      coverage = record { start = instant_of c.start; end = instant_of c.end };
      zone = zone_of (offset_of c.offset) (ats_of rs) (offsets_of rs);
      governing = governing_rule (rules_of rs);
      events = events_of rs;
    }

-- what a span of a date holds: its two boundaries, a point's phase, and the rule that governs the date
pub record Held : Type 0 where
  pub start : Boundary
  pub end : Boundary
  pub phase : ℕ
  pub rule : Rule

-- a boundary carries its instant, raised or not, and its own uncertainty: the doubt, else the rule's
abbrev pub boundary_of : Zone → Rule → Edge → Boundary
boundary_of z r e =
    record {
      at = record { 0 = e.at };
      uncertainty = uncertain (resolve z (nearest_reading (reading_at e.date e.time))) (published r.uncertainty);
    }

abbrev pub venue_by : Zone → (ℕ → Option Rule) → Venue Held
venue_by z g =
    record {
      reads = λ t. date_at z t;
      conv = λ d x. taken (resolve z (nearest_reading (reading_at d x)));
      governing = g;
      body = λ r s p e. record { start = boundary_of z r s; end = boundary_of z r e; phase = p; rule = r };
    }

abbrev pub venue_of : Values → Venue Held
venue_of v = venue_by v.zone v.governing

-- the whole uncertainty of a span
abbrev pub whole : Held → Uncertainty
whole h = widest_of h.start.uncertainty h.end.uncertainty

-- the first of the spans that ends after t
unfoldable pub after : {A : Type 0} → ℕ → List (Span A) → Option A
after t [] = None
after t (s ∷ ss) = cond (ltb t s.to) (Some s.body) (after t ss)

-- a span of the date holds t
abbrev pub is_known : {A : Type 0} → Option A → Bool
is_known None = false
is_known (Some x) = true

abbrev pub holds_on : {A : Type 0} → Venue A → ℕ → ℕ → Bool
holds_on {A} v t d = is_known (look (λ (x : A). x) (spans v d) t)

-- the first of yesterday, today and tomorrow with one; tomorrow where none has
abbrev pub holding_date : {A : Type 0} → Venue A → ℕ → ℕ
holding_date v t = let d = v.reads t in cond (holds_on v t (d - 1)) (d - 1) (cond (holds_on v t d) d (suc d))

-- the point answer: a known one is a whole span, clipped by nothing
abbrev pub point_of : Values → ℕ → Option Held
point_of v t = point_at (λ (h : Held). h) (venue_of v) v.coverage t
