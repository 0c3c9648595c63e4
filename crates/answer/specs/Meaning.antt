-- Which values the code's answers mean, in document 01's numbers; and how long answers are. Assumes nothing.
use Rattle.std.specs.Prelude.{ℕ, ◌+◌, List, map}
use Rattle.std.specs.Prelude.{Option, None, Some}
use Rattle.wire.specs.Fields.{laid}
use Rattle.records.specs.Layout.{kind}
use Rattle.records.specs.Records.{put}
use Rattle.zone.specs.Units.{instant_number}
use Rattle.zone.specs.Answers.{values}
use Rattle.zone.specs.declared.Boundary.{Boundary}
use Rattle.answer.specs.Forms as Forms
use Rattle.answer.specs.Forms.{Side, Cover, Form, cover_fields, total_place, length_of}
use Rattle.answer.specs.declared.Phase.{Phase}
use Rattle.zone.specs.declared.Interval.{Interval}
use Rattle.answer.specs.declared.RowKind.{RowKind}
use Rattle.answer.specs.declared.RowKind.TheVariants.{Day, Closing}

abbrev pub side_of : Boundary → Side
side_of b = record { at = instant_number b.at.0; uncertainty = values b.uncertainty }

abbrev pub phase_of : Phase → Forms.Phase
phase_of p =
    record {
      start = instant_number p.start.0;
      end = instant_number p.end.0;
      phase = p.phase;
      code = p.code;
      label = p.label;
      evidence = p.evidence;
      derived = p.derived;
      from = side_of p.from;
      to = side_of p.to;
      whole = values p.whole;
      events = p.events;
    }

abbrev pub event_of : ℕ → Boundary → ℕ → Forms.Event
event_of code b evidence = record { code = code; at = instant_number b.at.0; uncertainty = values b.uncertainty; evidence = evidence }

abbrev pub cover_of : Option Interval → Option Cover
cover_of None = None
cover_of (Some i) = Some (record { start = instant_number i.start.0; end = instant_number i.end.0 })

-- 17 bytes
abbrev pub cover_bytes : Option Interval → List ℕ
cover_bytes c = laid (cover_fields kind (cover_of c))

abbrev pub missing_of : ℕ → Option Interval → Forms.Missing
missing_of t c = record { at = instant_number t; coverage = cover_of c }

abbrev pub gap_of : ℕ → ℕ → Option Interval → Forms.Gap
gap_of s e c = record { start = instant_number s; end = instant_number e; coverage = cover_of c }

-- eight bytes for each total
abbrev pub totals_bytes : List ℕ → List ℕ
totals_bytes ts = laid (map (put total_place) ts)

abbrev pub totals_of : ℕ → ℕ → List ℕ → Forms.Totals
totals_of s e ts = record { start = instant_number s; end = instant_number e; totals = ts }

-- kind 22 of a day, kind 23 of the closing total
abbrev pub row_form : RowKind → Forms.Totals → Form
row_form Day ts = Forms.day ts
row_form Closing ts = Forms.tally ts

-- bytes of a record: its length's two, and the length
abbrev pub bytes_of : Form → ℕ
bytes_of f = 2 + length_of f
