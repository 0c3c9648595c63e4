-- The arrays that opening fills: what their fronts hold, their lengths, and the venue that is read from them. Assumes nothing.
use mathlib.Core.Path.{◌≡◌, refl, sym, ap, ap₂, ◌∙◌}
use mathlib.Core.Bool.{Bool, cond}
use Rattle.std.specs.Prelude.{Option, Some, Result, Ok}
use mathlib.Core.List.{List, [], ◌∷◌, ◌++◌}
use Prim.Native.Nat.{ℕ, ◌+◌, ◌≤◌, ◌<◌}
use native.Mathlib.Decide.{ℕ_discrete}
use native.Mathlib.Omega.{arith}
use borrow.Author.Tests.{eq-eqb, ne_eqb}
use lib.Dec.{eqb}
use lib.ListN.{length, take, drop, replicate}
use Rattle.std.proofs.lemmas.List.{length-replicate}
use Rattle.wire.specs.Fields.{wrote}
use Rattle.wire.proofs.Writing.{wrote_length}
use Rattle.records.specs.Limits.{base}
use Rattle.records.specs.Book.{refusal, records}
use Rattle.records.specs.Layout.{transition_kind, rule_kind, event_kind}
use Rattle.zone.specs.Answers.{Valid}
use Rattle.venue.specs.Opening.{ats_of, offsets_of, opened, stored, rule_places, event_places, number_opened}
use Rattle.venue.specs.Reading.{ListedRules, ListedEvents}
use Rattle.venue.specs.Filled.{Filled, Ready}
use Rattle.venue.specs.declared.opened.Header.{Header}
use Rattle.venue.proofs.Passing.{few_records, ats_many, offsets_many}
use Rattle.venue.proofs.Laws.{places_listed, rules_count, events_count, zone_valid, good_coverage}
use Rattle.venue.proofs.Known.{Known, opened_venue, known_opened, counts}

-- ---- what was stored is what a reader may rely on

module _ {s : List ℕ} {h : Header} (k : Known s h) where
  pub covers : h.coverage.start.0 < h.coverage.end.0
  covers = rw k.header (good_coverage s k.accepted k.covered k.is).order

  pub clock_valid : Valid h.offset0 (ats_of (records s)) (offsets_of (records s))
  clock_valid = rw (ap (λ (x : Header). x.offset0) k.header) (zone_valid s k.accepted k.covered k.is)

  pub rules_stand : ListedRules s (rule_places s)
  rules_stand = places_listed rule_kind s k.accepted

  pub events_stand : ListedEvents s (event_places s)
  events_stand = places_listed event_kind s k.accepted

  pub events_few : length (event_places s) ≤ base.events
  events_few = let e = events_count s k.accepted in omega (arith, e.0, e.1)

  pub ready : Ready s h.offset0 (ats_of (records s)) (offsets_of (records s)) (rule_places s) (event_places s)
  ready = record { zone = clock_valid; rules_listed = rules_stand; events_listed = events_stand; few = events_few }

  -- the header's counts are no more than the limits
  pub most_transitions : h.transitions ≤ base.transitions
  most_transitions = omega (arith, (counts k).0, few_records transition_kind s k.accepted)

  pub most_rules : h.rules ≤ base.rules
  most_rules = let c = rules_count s k.accepted in omega (arith, (counts k).1, c.0, c.1)

  pub most_events : h.events ≤ base.events
  most_events = let c = events_count s k.accepted in omega (arith, (counts k).2, c.0, c.1)

-- ---- the fronts

take_front : (vs rest : List ℕ) → take (length vs) (vs ++ rest) ≡ vs
take_front [] rest = refl
take_front (v ∷ vs) rest = ap (λ (l : List ℕ). v ∷ l) (take_front vs rest)

-- as many as were stored are what was stored
pub stored_front : (s old vs new : List ℕ) (n : ℕ) → refusal base s ≡ 0 → new ≡ stored s old vs → n ≡ length vs → take n new ≡ vs
unfolding stored wrote
stored_front s old vs new n z e q =
    ap₂ take q e
    ∙ ap (λ (b : Bool). take (length vs) (cond b (wrote old 0 vs) old)) (eq-eqb (refusal base s) 0 z)
    ∙ take_front vs (drop (0 + length vs) old)

-- the arrays are filled where a header was answered
pub known : {s ats offsets rules events : List ℕ} {h : Header} → Filled s (Ok (Some h)) ats offsets rules events → Known s h
known {s} {ats} {offsets} {rules} {events} {h} w = opened_venue s h w.answer

module _ {s ats offsets rules events : List ℕ} {o : Result (Option Header) ℕ} (w : Filled s o ats offsets rules events) {h : Header} (k : Known s h) where
  pub ats_front : take h.transitions ats ≡ ats_of (records s)
  ats_front = stored_front s w.old_ats _ ats _ k.accepted w.ats_are ((counts k).0 ∙ sym (ats_many (records s)))

  pub offsets_front : take h.transitions offsets ≡ offsets_of (records s)
  offsets_front = stored_front s w.old_offsets _ offsets _ k.accepted w.offsets_are ((counts k).0 ∙ sym (offsets_many (records s)))

  pub rules_front : take h.rules rules ≡ rule_places s
  rules_front = stored_front s w.old_rules _ rules _ k.accepted w.rules_are (counts k).1

  pub events_front : take h.events events ≡ event_places s
  events_front = stored_front s w.old_events _ events _ k.accepted w.events_are (counts k).2

  -- they are no longer than the arrays
  pub ats_in : h.transitions ≤ length ats
  ats_in = omega (arith, most_transitions k, w.ats_long)

  pub offsets_in : h.transitions ≤ length offsets
  offsets_in = omega (arith, most_transitions k, w.offsets_long)

  pub rules_in : h.rules ≤ length rules
  rules_in = omega (arith, most_rules k, w.rules_long)

  pub events_in : h.events ≤ length events
  events_in = omega (arith, most_events k, w.events_long)

  -- and a clock, rules and events may be read from them
  pub front_ready : Ready s h.offset0 (take h.transitions ats) (take h.transitions offsets) (take h.rules rules) (take h.events events)
  front_ready = rw (ats_front, offsets_front, rules_front, events_front) (ready k)

  pub front_valid : Valid h.offset0 (take h.transitions ats) (take h.transitions offsets)
  front_valid = front_ready.zone

  pub front_rules : ListedRules s (take h.rules rules)
  front_rules = front_ready.rules_listed

  pub front_events : ListedEvents s (take h.events events)
  front_events = front_ready.events_listed

  pub front_few : length (take h.events events) ≤ base.events
  front_few = front_ready.few

-- ---- the lengths

-- opening leaves an array as long as it was
pub stored_length : (s old vs : List ℕ) {new : List ℕ} → (refusal base s ≡ 0 → length vs ≤ length old) → new ≡ stored s old vs
    → length new ≡ length old
unfolding stored
stored_length s old vs h e = ap length e ∙ go (ℕ_discrete (refusal base s) 0)
  where
    go : Dec (refusal base s ≡ 0) → length (cond (eqb (refusal base s) 0) (wrote old 0 vs) old) ≡ length old
    go (yes z) =
        ap (λ (b : Bool). length (cond b (wrote old 0 vs) old)) (eq-eqb (refusal base s) 0 z) ∙ wrote_length old 0 vs (let l = h z in omega arith)
    go (no z) = ap (λ (b : Bool). length (cond b (wrote old 0 vs) old)) (ne_eqb (refusal base s) 0 z)

module _ (s : List ℕ) (z : refusal base s ≡ 0) where
  pub ats_fit : length (ats_of (records s)) ≤ base.transitions
  ats_fit = omega (arith, ats_many (records s), few_records transition_kind s z)

  pub offsets_fit : length (offsets_of (records s)) ≤ base.transitions
  offsets_fit = omega (arith, offsets_many (records s), few_records transition_kind s z)

  pub rules_fit : length (rule_places s) ≤ base.rules
  rules_fit = let c = rules_count s z in omega (arith, c.0, c.1)

  pub events_fit : length (event_places s) ≤ base.events
  events_fit = let c = events_count s z in omega (arith, c.0, c.1)

-- what opening answers and stores, in arrays long enough for any book
pub filled : (s ats offsets rules events : List ℕ) {ats' offsets' rules' events' : List ℕ} {o : Result (Option Header) ℕ}
    → (o ≡ opened s)
    × (ats' ≡ stored s ats (ats_of (records s)))
    × (offsets' ≡ stored s offsets (offsets_of (records s)))
    × (rules' ≡ stored s rules (rule_places s))
    × (events' ≡ stored s events (event_places s))
    × (number_opened o 0 ≡ refusal base s)
    → base.transitions ≤ length ats → base.transitions ≤ length offsets → base.rules ≤ length rules → base.events ≤ length events
    → Filled s o ats' offsets' rules' events'
filled s ats offsets rules events e a b c d =
    record {
      answer = e.0;
      old_ats = ats;
      old_offsets = offsets;
      old_rules = rules;
      old_events = events;
      ats_are = e.1;
      offsets_are = e.2;
      rules_are = e.3;
      events_are = e.4;
      ats_long = omega (arith, stored_length s ats _ (λ z. omega (arith, ats_fit s z, a)) e.1);
      offsets_long = omega (arith, stored_length s offsets _ (λ z. omega (arith, offsets_fit s z, b)) e.2);
      rules_long = omega (arith, stored_length s rules _ (λ z. omega (arith, rules_fit s z, c)) e.3);
      events_long = omega (arith, stored_length s events _ (λ z. omega (arith, events_fit s z, d)) e.4);
    }

long_enough : (n : ℕ) (a : List ℕ) → a ≡ replicate n 0 → n ≤ length a
long_enough n a e = let l = length-replicate {A = ℕ} n 0 in omega (arith, ap length e, l)

-- a new room, as opening leaves it where the book names a venue
pub room_filled : {s ats offsets rules events ats' offsets' rules' events' : List ℕ} {h : Header} → Known s h
    → (ats ≡ replicate base.transitions 0)
    × (offsets ≡ replicate base.transitions 0)
    × (rules ≡ replicate base.rules 0)
    × (events ≡ replicate base.events 0)
    → ats' ≡ stored s ats (ats_of (records s)) → offsets' ≡ stored s offsets (offsets_of (records s)) → rules' ≡ stored s rules (rule_places s)
    → events' ≡ stored s events (event_places s) → Filled s (Ok (Some h)) ats' offsets' rules' events'
room_filled {s} {ats} {offsets} {rules} {events} k new a b c d =
    filled s ats offsets rules events (sym (known_opened k), a, b, c, d, sym k.accepted) (long_enough base.transitions ats new.0)
    (long_enough base.transitions offsets new.1) (long_enough base.rules rules new.2) (long_enough base.events events new.3)
