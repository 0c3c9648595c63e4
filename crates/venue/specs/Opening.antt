-- What an accepted book holds, as a venue's values, and what opening it answers and stores. Assumes nothing.
use Rattle.std.specs.Prelude.{ℕ, zero, suc, cond, List, [], ◌∷◌, map, leb, eqb, ℤ, length}
use Rattle.std.specs.Prelude.{Option, None, Some, Result, Ok, Err}
use Rattle.wire.specs.Fields.{wrote}
use Rattle.wire.specs.Signs.{since}
use Rattle.calendar.specs.Answers.{zero_day}
use Rattle.zone.specs.Units.{most_offset, instant_of, seconds_instant}
use Rattle.records.specs.Limits.{base}
use Rattle.records.specs.Records.{Coverage, Transition, Rule, Event, Record, coverage, transition, rule, event}
use Rattle.records.specs.Book.{kind_at, next_at, many, refusal, records}
use Rattle.records.specs.Layout.{transition_kind, rule_kind, event_kind}
use Rattle.venue.specs.declared.opened.Header.{Header}

-- ---- numbers as they are kept: dates since 1899-12-25, offsets plus 57,600 s

abbrev pub offset_of : ℤ → ℕ
offset_of n = since most_offset n

abbrev pub day_of : ℤ → ℕ
day_of n = since zero_day n

-- ---- the records of a kind, as listed

-- of the first record
abbrev pub coverage_of : List Record → Option Coverage
coverage_of [] = None
coverage_of (coverage c ∷ rs) = Some c
coverage_of (transition t ∷ rs) = None
coverage_of (rule r ∷ rs) = None
coverage_of (event e ∷ rs) = None

unfoldable pub transitions_of : List Record → List Transition
transitions_of [] = []
transitions_of (coverage c ∷ rs) = transitions_of rs
transitions_of (transition t ∷ rs) = t ∷ transitions_of rs
transitions_of (rule r ∷ rs) = transitions_of rs
transitions_of (event e ∷ rs) = transitions_of rs

unfoldable pub rules_of : List Record → List Rule
rules_of [] = []
rules_of (coverage c ∷ rs) = rules_of rs
rules_of (transition t ∷ rs) = rules_of rs
rules_of (rule r ∷ rs) = r ∷ rules_of rs
rules_of (event e ∷ rs) = rules_of rs

unfoldable pub events_of : List Record → List Event
events_of [] = []
events_of (coverage c ∷ rs) = events_of rs
events_of (transition t ∷ rs) = events_of rs
events_of (rule r ∷ rs) = events_of rs
events_of (event e ∷ rs) = e ∷ events_of rs

-- the clock changes of records: their instants and the offsets from then on
abbrev pub ats_of : List Record → List ℕ
ats_of rs = map (λ (t : Transition). seconds_instant t.at) (transitions_of rs)

abbrev pub offsets_of : List Record → List ℕ
offsets_of rs = map (λ (t : Transition). offset_of t.offset) (transitions_of rs)

-- where the records of kind k stand, from `at` on, in so many turns
unfoldable pub places_from : ℕ → List ℕ → ℕ → ℕ → List ℕ
places_from k s zero at = []
places_from k s (suc turns) at =
    let rest = places_from k s turns (next_at s at) in
    cond (leb (length s) at) [] (cond (eqb (kind_at s at) k) (at ∷ rest) rest)

abbrev pub places : ℕ → List ℕ → List ℕ
places k s = places_from k s (length s) 0

-- the rules, and the events
abbrev pub rule_places : List ℕ → List ℕ
rule_places s = places rule_kind s

abbrev pub event_places : List ℕ → List ℕ
event_places s = places event_kind s

-- ---- opening

abbrev pub header_of : List Record → Coverage → Header
header_of rs c =
    record {
      coverage = record { start = record { 0 = instant_of c.start }; end = record { 0 = instant_of c.end } };
      offset0 = offset_of c.offset;
      transitions = many transition_kind rs;
      rules = many rule_kind rs;
      events = many event_kind rs;
    }

-- without coverage there is no data
abbrev pub venue_of : List Record → Option Coverage → Option Header
venue_of rs None = None
venue_of rs (Some c) = Some (header_of rs c)

unfoldable pub opened : List ℕ → Result (Option Header) ℕ
opened s = cond (eqb (refusal base s) 0) (Ok (venue_of (records s) (coverage_of (records s)))) (Err (refusal base s))

-- the number of each answer; of a book that is accepted it is that of what is asked of it, 0 where nothing is
abbrev pub number_opened : Result (Option Header) ℕ → ℕ → ℕ
number_opened (Err n) asked = n
number_opened (Ok h) asked = asked

-- what is stored, from the first place on, unless the book is refused
unfoldable pub stored : List ℕ → List ℕ → List ℕ → List ℕ
stored s old vs = cond (eqb (refusal base s) 0) (wrote old 0 vs) old
