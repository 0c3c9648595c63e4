-- Which values the functions' arguments and answers mean: places in the book become the rules and events that stand there. Assumes nothing.
use Rattle.std.specs.Prelude.{ℕ, List, map, cond, leb, ◌≡◌}
use Rattle.std.specs.Prelude.{Option, None, Some}
use Rattle.zone.specs.Zone.{zone_of}
use Rattle.records.specs.Records.{Rule, rule_at, event_at}
use Rattle.venue.specs.Reading.{ListedRule}
use Rattle.venue.specs.declared.opened.Header.{Header}
use Rattle.day.specs.Governing.{governing_rule}
use Rattle.day.specs.Days.{Values, Held}
use Rattle.day.specs.declared.DaySegment.{DaySegment}

-- the values of an opened book: by its header, its clock changes and where its rules and events stand
abbrev pub values_at : List ℕ → Header → List ℕ → List ℕ → List ℕ → List ℕ → Values
values_at s h ats offsets rules events =
    record {
      coverage = record { start = h.coverage.start.0; end = h.coverage.end.0 };
      zone = zone_of h.offset0 ats offsets;
      governing = governing_rule (map (rule_at s) rules);
      events = map (event_at s) events;
    }

abbrev pub ruled : List ℕ → Option ℕ → Option Rule
ruled s None = None
ruled s (Some p) = Some (rule_at s p)

-- a rule stands where an answer says
abbrev pub ListedGoverned : List ℕ → Option ℕ → Type 0
ListedGoverned s None = Unit {0}
ListedGoverned s (Some p) = ListedRule s p

abbrev pub held_by : List ℕ → DaySegment → Held
held_by s g = record { start = g.start; end = g.end; phase = g.phase; rule = rule_at s g.rule }

abbrev pub held : List ℕ → Option DaySegment → Option Held
held s None = None
held s (Some g) = Some (held_by s g)

-- a rule stands where a segment says, and that is the place o
abbrev pub ChosenAt : List ℕ → Option ℕ → Option DaySegment → Type 0
ChosenAt s o None = Unit {0}
ChosenAt s o (Some g) = ListedRule s g.rule × (o ≡ Some g.rule)

-- a span, if it has begun at t
abbrev pub begun : Option DaySegment → ℕ → Option DaySegment
begun None t = None
begun (Some g) t = cond (leb g.start.at.0 t) (Some g) None
