-- Answers as values, and their bytes: document 01, "Answer forms". Every field stands behind the one before it and is said once. Assumes nothing.
use Rattle.std.specs.Prelude.{ℕ, ◌+◌, List, [], ◌∷◌, ◌++◌, map, ℤ, pos}
use Rattle.std.specs.Prelude.{Option, None, Some}
use Rattle.std.specs.Int.{w64}
use Rattle.wire.specs.Fields.{Field, laid}
use Rattle.zone.specs.Answers.{Values}
use Rattle.records.specs.Layout.{Place, then, size, kind}
use Rattle.records.specs.Records.{put, put_signed}

-- ---- values

-- a boundary: its instant and its uncertainty
pub record Side : Type 0 where
  pub at : ℤ
  pub uncertainty : Values

-- coverage, if it is present
pub record Cover : Type 0 where
  pub start : ℤ
  pub end : ℤ

pub record Phase : Type 0 where
  pub start : ℤ
  pub end : ℤ
  pub phase : ℕ
  pub code : ℕ
  pub label : ℕ
  pub evidence : ℕ
  pub derived : ℕ
  pub from : Side
  pub to : Side
  pub whole : Values
  pub events : ℕ

pub record Event : Type 0 where
  pub code : ℕ
  pub at : ℤ
  pub uncertainty : Values
  pub evidence : ℕ

pub record Gap : Type 0 where
  pub start : ℤ
  pub end : ℤ
  pub coverage : Option Cover

pub record Missing : Type 0 where
  pub at : ℤ
  pub coverage : Option Cover

pub record Totals : Type 0 where
  pub start : ℤ
  pub end : ℤ
  pub totals : List ℕ

pub data Form : Type 0 where
  phase : Phase → Form
  unknown : Gap → Form
  event : Event → Form
  point : Missing → Form
  mark : ℕ → Form
  day : Totals → Form
  tally : Totals → Form

-- ---- places

-- Uncertainty out, 19 bytes: tag, two i64, text u16
abbrev pub tag_behind : Place → Place
tag_behind p = then p 1

abbrev pub one_behind : Place → Place
one_behind p = then (tag_behind p) 8

abbrev pub two_behind : Place → Place
two_behind p = then (one_behind p) 8

abbrev pub text_behind : Place → Place
text_behind p = then (two_behind p) 2

-- 16 phase, L 103: start, end i64; phase, code u8; label, evidence, derived u16; boundary instant and uncertainty, start then end; whole
-- uncertainty; event count u32
abbrev pub start : Place
start = then kind 8

abbrev pub end : Place
end = then start 8

abbrev pub phase_place : Place
phase_place = then end 1

abbrev pub code_place : Place
code_place = then phase_place 1

abbrev pub label_place : Place
label_place = then code_place 2

abbrev pub evidence_place : Place
evidence_place = then label_place 2

abbrev pub derived_place : Place
derived_place = then evidence_place 2

abbrev pub from_place : Place
from_place = then derived_place 8

abbrev pub to_place : Place
to_place = then (text_behind from_place) 8

-- the whole uncertainty stands behind the end boundary's
abbrev pub whole_before : Place
whole_before = text_behind to_place

abbrev pub count_place : Place
count_place = then (text_behind whole_before) 4

-- 18 event, L 33: code u16, instant i64, uncertainty, evidence u16
abbrev pub event_code : Place
event_code = then kind 2

abbrev pub event_at : Place
event_at = then event_code 8

abbrev pub event_evidence : Place
event_evidence = then (text_behind event_at) 2

-- 17 unknown, L 35: start, end; then coverage present u8, its start, end
abbrev pub present_behind : Place → Place
present_behind p = then p 1

abbrev pub cover_start : Place → Place
cover_start p = then (present_behind p) 8

abbrev pub cover_end : Place → Place
cover_end p = then (cover_start p) 8

-- 19 point unknown, L 27: instant, then as 17
abbrev pub missing_at : Place
missing_at = then kind 8

-- 21 row mark, L 4: row u16
abbrev pub mark_row : Place
mark_row = then kind 2

-- 22 day row, 23 tally, L 98: start, end, ten u64 totals
abbrev pub total_place : Place
total_place = then end 8

-- ---- how many bytes: a start and an end, an uncertainty, a boundary with its own, coverage

abbrev pub ends_size : ℕ
ends_size = start.width + end.width

abbrev pub uncertainty_size : ℕ
uncertainty_size = 1 + 8 + 8 + 2

abbrev pub side_size : ℕ
side_size = 8 + uncertainty_size

abbrev pub cover_size : ℕ
cover_size = 1 + 8 + 8

-- ---- kinds, and the length L of what follows it

abbrev pub phase_kind : ℕ
phase_kind = 16

abbrev pub phase_length : ℕ
phase_length = 103

abbrev pub gap_kind : ℕ
gap_kind = 17

abbrev pub gap_length : ℕ
gap_length = 35

abbrev pub event_kind : ℕ
event_kind = 18

abbrev pub event_length : ℕ
event_length = 33

abbrev pub missing_kind : ℕ
missing_kind = 19

abbrev pub missing_length : ℕ
missing_length = 27

abbrev pub mark_kind : ℕ
mark_kind = 21

abbrev pub mark_length : ℕ
mark_length = 4

abbrev pub day_kind : ℕ
day_kind = 22

abbrev pub tally_kind : ℕ
tally_kind = 23

-- of a day row and of a tally, which have so many totals
abbrev pub row_length : ℕ
row_length = 98

abbrev pub many_totals : ℕ
many_totals = 10

abbrev pub kind_of : Form → ℕ
kind_of (phase p) = phase_kind
kind_of (unknown g) = gap_kind
kind_of (event e) = event_kind
kind_of (point m) = missing_kind
kind_of (mark r) = mark_kind
kind_of (day t) = day_kind
kind_of (tally t) = tally_kind

abbrev pub length_of : Form → ℕ
length_of (phase p) = phase_length
length_of (unknown g) = gap_length
length_of (event e) = event_length
length_of (point m) = missing_length
length_of (mark r) = mark_length
length_of (day t) = row_length
length_of (tally t) = row_length

-- all bytes of a record, the length's two included
abbrev pub phase_size : ℕ
phase_size = size.width + phase_length

abbrev pub gap_size : ℕ
gap_size = size.width + gap_length

abbrev pub event_size : ℕ
event_size = size.width + event_length

abbrev pub missing_size : ℕ
missing_size = size.width + missing_length

abbrev pub mark_size : ℕ
mark_size = size.width + mark_length

abbrev pub row_size : ℕ
row_size = size.width + row_length

-- ---- bytes

abbrev pub uncertainty_fields : Place → Values → List Field → List Field
uncertainty_fields p u rest =
    put (tag_behind p) u.tag ∷ put_signed w64 (one_behind p) u.one ∷ put_signed w64 (two_behind p) u.two ∷ put (text_behind p) u.text ∷ rest

-- present 1 and its start and end; absent all 0
abbrev pub cover_fields : Place → Option Cover → List Field
cover_fields p None = put (present_behind p) 0 ∷ put_signed w64 (cover_start p) (pos 0) ∷ put_signed w64 (cover_end p) (pos 0) ∷ []
cover_fields p (Some c) = put (present_behind p) 1 ∷ put_signed w64 (cover_start p) c.start ∷ put_signed w64 (cover_end p) c.end ∷ []

-- the totals one behind the other
abbrev pub totals_fields : Totals → List Field
totals_fields t = put_signed w64 start t.start ∷ put_signed w64 end t.end ∷ map (put total_place) t.totals

abbrev pub fields_of : Form → List Field
fields_of (phase p) =
    put_signed w64 start p.start ∷ put_signed w64 end p.end ∷ put phase_place p.phase ∷ put code_place p.code ∷ put label_place p.label
    ∷ put evidence_place p.evidence ∷ put derived_place p.derived
    ∷ put_signed w64 from_place p.from.at
    ∷ uncertainty_fields from_place p.from.uncertainty
    (put_signed w64 to_place p.to.at
    ∷ uncertainty_fields to_place p.to.uncertainty (uncertainty_fields whole_before p.whole (put count_place p.events ∷ [])))
fields_of (unknown g) = put_signed w64 start g.start ∷ put_signed w64 end g.end ∷ cover_fields end g.coverage
fields_of (event e) = put event_code e.code ∷ put_signed w64 event_at e.at ∷ uncertainty_fields event_at e.uncertainty (put event_evidence e.evidence ∷ [])
fields_of (point m) = put_signed w64 missing_at m.at ∷ cover_fields missing_at m.coverage
fields_of (mark r) = put mark_row r ∷ []
fields_of (day t) = totals_fields t
fields_of (tally t) = totals_fields t

abbrev pub all_fields : Form → List Field
all_fields f = put size (length_of f) ∷ put kind (kind_of f) ∷ fields_of f

unfoldable pub encode : Form → List ℕ
encode f = laid (all_fields f)

-- records one behind the other
unfoldable pub encode_all : List Form → List ℕ
encode_all [] = []
encode_all (f ∷ fs) = encode f ++ encode_all fs
