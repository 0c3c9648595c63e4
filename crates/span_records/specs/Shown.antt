-- A span of a date as records: kind 16 with its kinds 18 behind it. Assumes nothing.
use Rattle.std.specs.Prelude.{ℕ, ◌*◌, ◌≡◌, List, ◌∷◌, map, length}
use Rattle.wire.specs.Fields.{Put}
use Rattle.zone.specs.Zone.{Zone}
use Rattle.zone.specs.declared.Uncertainty.{Uncertainty}
use Rattle.records.specs.Records.{Event}
use Rattle.day.specs.Days.{Held, whole as whole_of}
use Rattle.events.specs.Happenings.{found, events_in}
use Rattle.events.specs.declared.Occurrence.{Occurrence}
use Rattle.answer.specs.Forms as Forms
use Rattle.answer.specs.Forms.{Form, phase, event, encode_all, event_size}
use Rattle.answer.specs.Meaning.{phase_of, event_of}
use Rattle.answer.specs.declared.Phase.{Phase}
use Rattle.span_records.specs.declared.Trail.{Trail}

-- what a phase segment shows: two boundaries, a phase and a rule, the whole uncertainty, the events. Of segments that were joined, the
-- first start boundary and rule, the last end boundary, the widest uncertainty and all events
pub record Shown : Type 0 where
  pub held : Held
  pub whole : Uncertainty
  pub events : List Occurrence

-- of a span of a date
abbrev pub shown : Zone → List Event → Held → Shown
shown z es h = record { held = h; whole = whole_of h; events = events_in z es h.start.at.0 h.end.at.0 }

-- its record from `from` to before `to`, with n events behind it: as the code holds it, and as kind 16
abbrev pub head_of : ℕ → ℕ → Held → Uncertainty → ℕ → Phase
head_of from to h u n =
    record {
      start = record { 0 = from };
      end = record { 0 = to };
      phase = h.phase;
      code = h.rule.code;
      label = h.rule.label;
      evidence = h.rule.evidence;
      derived = h.rule.derived;
      from = h.start;
      to = h.end;
      whole = u;
      events = n;
    }

abbrev pub head_form : ℕ → ℕ → Held → Uncertainty → ℕ → Forms.Phase
head_form from to h u n = phase_of (head_of from to h u n)

abbrev pub event_form : Occurrence → Form
event_form o = event (event_of o.code o.boundary o.evidence)

abbrev pub shown_forms : ℕ → ℕ → Shown → List Form
shown_forms from to x = phase (head_form from to x.held x.whole (length x.events)) ∷ map event_form x.events

-- the events of a span from `from` to before `to`, written from `at` on, and how many they are
pub record Trails (z : Zone) (es : List Event) (from to : ℕ) (old : List ℕ) (at : ℕ) (new : List ℕ) (r : Trail) : Type 0 where
  pub put : Put old at (encode_all (map event_form (events_in z es from to))) (event_size * length (found z es from to)) new r.behind
  pub count : r.count ≡ length (found z es from to)
