-- The records of a book as values: how one is written, and which one stands at a place. Assumes nothing.
use Rattle.std.specs.Prelude.{ℕ, zero, suc, ◌+◌, List, [], ◌∷◌, ◌++◌, map, ℤ, length}
use Rattle.std.specs.Int.{Width, w32, w64}
use Rattle.std.proofs.Common.{of_z}
use Rattle.wire.specs.Fields.{Field, bytes, laid}
use Rattle.records.specs.Layout.{Place, number, integer, size, kind, by, coverage_start, coverage_end, coverage_offset, transition_instant, transition_offset, day_first, day_last, coverage_kind, transition_kind, rule_kind, event_kind}
use Rattle.records.specs.Layout.{rule_code, rule_mask, rule_label, rule_evidence, rule_derived, event_code, event_evidence, tag, nanoseconds, text, count, time, phase, step}

-- coverage, in nanoseconds, and the first offset, in seconds
pub record Coverage : Type 0 where
  pub start : ℤ
  pub end : ℤ
  pub offset : ℤ

-- a clock change, in seconds
pub record Transition : Type 0 where
  pub at : ℤ
  pub offset : ℤ

-- a published uncertainty
pub record Published : Type 0 where
  pub tag : ℕ
  pub nanoseconds : ℤ
  pub text : ℕ

-- from a time of the day on, a phase
pub record Point : Type 0 where
  pub time : ℕ
  pub phase : ℕ

pub record Rule : Type 0 where
  pub first : ℤ
  pub last : ℤ
  pub code : ℕ
  pub mask : ℕ
  pub label : ℕ
  pub evidence : ℕ
  pub derived : ℕ
  pub uncertainty : Published
  pub points : List Point

pub record Event : Type 0 where
  pub first : ℤ
  pub last : ℤ
  pub code : ℕ
  pub evidence : ℕ
  pub uncertainty : Published
  pub times : List ℕ

pub data Record : Type 0 where
  coverage : Coverage → Record
  transition : Transition → Record
  rule : Rule → Record
  event : Event → Record

abbrev pub kind_of : Record → ℕ
kind_of (coverage c) = coverage_kind
kind_of (transition t) = transition_kind
kind_of (rule r) = rule_kind
kind_of (event e) = event_kind

-- ---- written

abbrev pub put : Place → ℕ → Field
put p x = record { width = p.width; value = x }

abbrev pub put_signed : Width → Place → ℤ → Field
put_signed w p x = put p (of_z w x)

abbrev pub published_fields : ℕ → Published → List Field → List Field
published_fields k u rest = put (tag k) u.tag ∷ put_signed w64 (nanoseconds k) u.nanoseconds ∷ put (text k) u.text ∷ rest

abbrev pub point_fields : List Point → List Field
point_fields [] = []
point_fields (p ∷ ps) = put (time rule_kind) p.time ∷ put (phase rule_kind) p.phase ∷ point_fields ps

abbrev pub time_fields : List ℕ → List Field
time_fields ts = map (put (time event_kind)) ts

-- what follows the length
abbrev pub fields_of : Record → List Field
fields_of (coverage c) =
    put kind coverage_kind ∷ put_signed w64 coverage_start c.start ∷ put_signed w64 coverage_end c.end ∷ put_signed w32 coverage_offset c.offset ∷ []
fields_of (transition t) = put kind transition_kind ∷ put_signed w64 transition_instant t.at ∷ put_signed w32 transition_offset t.offset ∷ []
fields_of (rule r) =
    put kind rule_kind ∷ put_signed w32 day_first r.first ∷ put_signed w32 day_last r.last ∷ put rule_code r.code ∷ put rule_mask r.mask
    ∷ put rule_label r.label ∷ put rule_evidence r.evidence ∷ put rule_derived r.derived
    ∷ published_fields rule_kind r.uncertainty (put (count rule_kind) (length r.points) ∷ point_fields r.points)
fields_of (event e) =
    put kind event_kind ∷ put_signed w32 day_first e.first ∷ put_signed w32 day_last e.last ∷ put event_code e.code ∷ put event_evidence e.evidence
    ∷ published_fields event_kind e.uncertainty (put (count event_kind) (length e.times) ∷ time_fields e.times)

unfoldable pub body : Record → List ℕ
body r = laid (fields_of r)

-- 2-byte length L of what follows, 2-byte kind, body
unfoldable pub encode : Record → List ℕ
encode r = bytes size.width (length (body r)) ++ body r

unfoldable pub encode_all : List Record → List ℕ
encode_all [] = []
encode_all (r ∷ rs) = encode r ++ encode_all rs

-- ---- read: what stands in s at the place `at`

abbrev pub published_at : ℕ → List ℕ → ℕ → Published
published_at k s at = record { tag = number (tag k) s at; nanoseconds = integer w64 (nanoseconds k) s at; text = number (text k) s at }

-- n points, and n times, behind n's field
unfoldable pub points_at : List ℕ → ℕ → ℕ → List Point
points_at s at zero = []
points_at s at (suc n) = record { time = number (time rule_kind) s at; phase = number (phase rule_kind) s at } ∷ points_at s (at + step rule_kind) n

unfoldable pub times_at : List ℕ → ℕ → ℕ → List ℕ
times_at s at zero = []
times_at s at (suc n) = number (time event_kind) s at ∷ times_at s (at + step event_kind) n

abbrev pub coverage_at : List ℕ → ℕ → Coverage
coverage_at s at = record { start = integer w64 coverage_start s at; end = integer w64 coverage_end s at; offset = integer w32 coverage_offset s at }

abbrev pub transition_at : List ℕ → ℕ → Transition
transition_at s at = record { at = integer w64 transition_instant s at; offset = integer w32 transition_offset s at }

abbrev pub rule_at : List ℕ → ℕ → Rule
rule_at s at =
    record {
      first = integer w32 day_first s at;
      last = integer w32 day_last s at;
      code = number rule_code s at;
      mask = number rule_mask s at;
      label = number rule_label s at;
      evidence = number rule_evidence s at;
      derived = number rule_derived s at;
      uncertainty = published_at rule_kind s at;
      points = points_at s at (number (count rule_kind) s at);
    }

abbrev pub event_at : List ℕ → ℕ → Event
event_at s at =
    record {
      first = integer w32 day_first s at;
      last = integer w32 day_last s at;
      code = number event_code s at;
      evidence = number event_evidence s at;
      uncertainty = published_at event_kind s at;
      times = times_at s at (number (count event_kind) s at);
    }

abbrev pub record_at : List ℕ → ℕ → Record
record_at s at =
    by (number kind s at) (coverage (coverage_at s at)) (transition (transition_at s at)) (rule (rule_at s at)) (event (event_at s at))
