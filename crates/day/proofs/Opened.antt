-- The values of an opened book are those of its records: of the arrays that opening fills, of their fronts, and of the venue that is read
-- from them. Assumes nothing.
use mathlib.Core.Path.{◌≡◌, ap, ap₂, ◌∙◌}
use mathlib.Core.List.{List}
use Rattle.std.specs.Prelude.{Option, Result}
use Prim.Native.Nat.{ℕ}
use lib.ListN.{take}
use Rattle.records.specs.Records.{Rule, Event}
use Rattle.records.specs.Book.{records}
use Rattle.venue.specs.Opening.{ats_of, offsets_of, rule_places, event_places}
use Rattle.venue.specs.Filled.{Filled, Holds}
use Rattle.venue.specs.declared.opened.Header.{Header}
use Rattle.venue.specs.declared.venue.Venue.{Venue}
use Rattle.venue.proofs.Laws.{rules_listed, events_listed}
use Rattle.venue.proofs.Known.{Known}
use Rattle.venue.proofs.Fronts.{ats_front, offsets_front, rules_front, events_front}
use Rattle.day.specs.Governing.{governing_rule}
use Rattle.day.specs.Days.{Values, values_of}
use Rattle.day.specs.Meaning.{values_at}
use Rattle.day.specs.Venues.{values_in}

-- of what was stored
pub stored_values : (s : List ℕ) (h : Header) (k : Known s h)
    → values_at s h (ats_of (records s)) (offsets_of (records s)) (rule_places s) (event_places s) ≡ values_of (records s) k.covered
stored_values s h k =
    ap (λ (x : Header). values_at s x (ats_of (records s)) (offsets_of (records s)) (rule_places s) (event_places s)) k.header
    ∙ ap₂ (λ (rs : List Rule) (es : List Event). values rs es) (rules_listed s k.accepted) (events_listed s k.accepted)
  where
    values : List Rule → List Event → Values
    values rs es =
        let v = values_of (records s) k.covered in
        record { coverage = v.coverage; zone = v.zone; governing = governing_rule rs; events = es }

-- of the front slices of the arrays
pub front_values : {s ats offsets rules events : List ℕ} {o : Result (Option Header) ℕ} → Filled s o ats offsets rules events → {h : Header} (k : Known s h)
    → values_at s h (take h.transitions ats) (take h.transitions offsets) (take h.rules rules) (take h.events events)
    ≡ values_of (records s) k.covered
front_values {s} w {h} k = rw (ats_front w k, offsets_front w k, rules_front w k, events_front w k) (stored_values s h k)

-- of the venue
pub opened_values : {s : List ℕ} {h : Header} {v : Venue} → Holds s h v → (k : Known s h) → values_in v ≡ values_of (records s) k.covered
opened_values {s} {h} w k = rw (w.coverage, w.first, w.ats, w.offsets, w.rules_in, w.rules, w.events_in, w.events) (stored_values s h k)
