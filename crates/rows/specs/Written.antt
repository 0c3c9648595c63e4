-- Which answers, written one after the other, are a row, and what they say. Assumes nothing.
use Rattle.std.specs.Prelude.{ℕ, zero, suc, ◌≤◌, ◌<◌, List, [], ◌∷◌, ℤ}
use Rattle.std.specs.Int.{w64}
use Rattle.wire.specs.Signs.{placed}
use Rattle.spans.specs.Spans.{Span}
use Rattle.spans.specs.Spans
use Rattle.zone.specs.Answers.{Values}
use Rattle.records.specs.Book.{last_phase, last_code}
use Rattle.answer.specs.Forms
use Rattle.answer.specs.Forms.{Form, phase, unknown, event, point, mark, day, tally}
use Rattle.answer.specs.Fitting.{FitsPhase, FitsGap, FitsEvent}
use Rattle.rows.specs.Rows.{Event, Seen}

-- an instant as a placed number
abbrev pub instant : ℤ → ℕ
instant z = placed w64 z

-- tags are 0 to 5
abbrev pub Tagged : Values → Type 0
Tagged u = u.tag ≤ 5

pub record GoodPhase (least : ℕ) (p : Forms.Phase) : Type 0 where
  pub fits : FitsPhase p
  pub phase : p.phase ≤ last_phase
  pub code : p.code ≤ last_code
  pub from : Tagged p.from.uncertainty
  pub to : Tagged p.to.uncertainty
  pub whole : Tagged p.whole
  pub forward : instant p.start < instant p.end
  pub order : least ≤ instant p.start

pub record GoodGap (least : ℕ) (g : Forms.Gap) : Type 0 where
  pub fits : FitsGap g
  pub forward : instant g.start < instant g.end
  pub order : least ≤ instant g.start

pub record GoodEvent (e : Forms.Event) : Type 0 where
  pub fits : FitsEvent e
  pub tag : Tagged e.uncertainty

-- first so many events, then segments, none before `least`, each not before the one before it ends, and behind each phase as many events as it counts
unfoldable pub Owing : ℕ → ℕ → List Form → Type 0
Owing least zero [] = Unit {0}
Owing least (suc n) [] = ⊥
Owing least zero (phase p ∷ fs) = GoodPhase least p × Owing (instant p.end) p.events fs
Owing least (suc n) (phase p ∷ fs) = ⊥
Owing least zero (unknown g ∷ fs) = GoodGap least g × Owing (instant g.end) zero fs
Owing least (suc n) (unknown g ∷ fs) = ⊥
Owing least zero (event e ∷ fs) = ⊥
Owing least (suc n) (event e ∷ fs) = GoodEvent e × Owing least n fs
Owing least n (point m ∷ fs) = ⊥
Owing least n (mark r ∷ fs) = ⊥
Owing least n (day t ∷ fs) = ⊥
Owing least n (tally t ∷ fs) = ⊥

abbrev pub RowFrom : ℕ → List Form → Type 0
RowFrom least fs = Owing least 0 fs

abbrev pub event_said : Forms.Event → Event
event_said e = record { at = instant e.at; code = e.code }

-- the events at the front
unfoldable pub events_of : List Form → List Event
events_of [] = []
events_of (phase p ∷ fs) = []
events_of (unknown g ∷ fs) = []
events_of (event e ∷ fs) = event_said e ∷ events_of fs
events_of (point m ∷ fs) = []
events_of (mark r ∷ fs) = []
events_of (day t ∷ fs) = []
events_of (tally t ∷ fs) = []

abbrev pub phase_said : Forms.Phase → List Event → Span Seen
phase_said p es =
    record { from = instant p.start; to = instant p.end; body = record { mark = Spans.phase p.phase p.evidence; events = es } }

abbrev pub gap_said : Forms.Gap → Span Seen
gap_said g = record { from = instant g.start; to = instant g.end; body = record { mark = Spans.unknown; events = [] } }

-- the segments, each phase with the events behind it
unfoldable pub seen_of : List Form → List (Span Seen)
seen_of [] = []
seen_of (phase p ∷ fs) = phase_said p (events_of fs) ∷ seen_of fs
seen_of (unknown g ∷ fs) = gap_said g ∷ seen_of fs
seen_of (event e ∷ fs) = seen_of fs
seen_of (point m ∷ fs) = seen_of fs
seen_of (mark r ∷ fs) = seen_of fs
seen_of (day t ∷ fs) = seen_of fs
seen_of (tally t ∷ fs) = seen_of fs
