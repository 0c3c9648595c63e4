-- Arrays as opening leaves them, and the venue that is read from them. Assumes nothing.
use Rattle.std.specs.Prelude.{ℕ, ◌≤◌, ◌≡◌, List, length, Option, Result}
use Rattle.zone.specs.Answers.{Valid}
use Rattle.records.specs.Limits.{base}
use Rattle.records.specs.Book.{records}
use Rattle.venue.specs.Opening.{ats_of, offsets_of, opened, stored, rule_places, event_places}
use Rattle.venue.specs.Reading.{ListedRules, ListedEvents}
use Rattle.venue.specs.declared.opened.Header.{Header}
use Rattle.venue.specs.declared.venue.Venue.{Venue}

-- arrays as opening leaves them, and what it answers
pub record Filled (s : List ℕ) (o : Result (Option Header) ℕ) (ats offsets rules events : List ℕ) : Type 0 where
  pub answer : o ≡ opened s
  pub old_ats : List ℕ
  pub old_offsets : List ℕ
  pub old_rules : List ℕ
  pub old_events : List ℕ
  pub ats_are : ats ≡ stored s old_ats (ats_of (records s))
  pub offsets_are : offsets ≡ stored s old_offsets (offsets_of (records s))
  pub rules_are : rules ≡ stored s old_rules (rule_places s)
  pub events_are : events ≡ stored s old_events (event_places s)
  pub ats_long : base.transitions ≤ length ats
  pub offsets_long : base.transitions ≤ length offsets
  pub rules_long : base.rules ≤ length rules
  pub events_long : base.events ≤ length events

-- a zone's slices, and places of rules and of events that an accepted book has
pub record Ready (s : List ℕ) (first : ℕ) (ats offsets rules events : List ℕ) : Type 0 where
  pub zone : Valid first ats offsets
  pub rules_listed : ListedRules s rules
  pub events_listed : ListedEvents s events
  pub few : length events ≤ base.events

-- the venue of the book s, whose header is h
pub record Holds (s : List ℕ) (h : Header) (v : Venue) : Type 0 where
  pub coverage : v.coverage ≡ h.coverage
  pub first : v.clock.offset0 ≡ h.offset0
  pub ats : v.clock.ats.now ≡ ats_of (records s)
  pub offsets : v.clock.offsets.now ≡ offsets_of (records s)
  pub rules_in : v.rules.book.now ≡ s
  pub rules : v.rules.places.now ≡ rule_places s
  pub events_in : v.events.book.now ≡ s
  pub events : v.events.places.now ≡ event_places s
