-- Document 01's starred point answer, computed from a book's bytes. Assumes nothing.
use Rattle.std.specs.Prelude.{ℕ, ◌*◌, ◌≡◌, refl, List, [], ◌∷◌, ℤ, pos}
use Rattle.std.specs.Prelude.{Option, None, Some}
use Rattle.wire.specs.Fields.{field, bytes, laid}
use Rattle.wire.specs.Signs.{meant}
use Rattle.zone.specs.Units.{second_ns, instant_number, instant_of}
use Rattle.zone.specs.Zone.{last_offset, resolve}
use Rattle.records.specs.Limits.{base}
use Rattle.records.specs.Records.{Coverage, Record, coverage, transition, rule, body, encode, encode_all, points_at, times_at}
use Rattle.records.specs.Book.{bad_frame, bad_fields, number_of, number_at, number_from, refusal, records_from, records}
use Rattle.venue.specs.Opening.{coverage_of, transitions_of, rules_of, events_of}
use Rattle.spans.specs.Spans.{keep, look}
use Rattle.spans.specs.Timeline.{cut, spans, point_at}
use Rattle.day.specs.Governing.{governing_from}
use Rattle.day.specs.Days.{Held, values_of, point_of}

-- covering 2026; offset 0, to 3,600 at 1,767,654,000 s; points 00:00 and 23:30 every day
abbrev book : List Record
book =
    coverage (record { start = pos (1767225600 * second_ns); end = pos (1798761600 * second_ns); offset = pos 0 })
    ∷ transition (record { at = pos 1767654000; offset = pos 3600 })
    ∷ rule
    (record {
      first = pos 20454;
      last = pos 20818;
      code = 0;
      mask = 127;
      label = 0;
      evidence = 1;
      derived = 0;
      uncertainty = record { tag = 0; nanoseconds = pos 0; text = 0 };
      points = record { time = 0; phase = 0 } ∷ record { time = 84600 * second_ns; phase = 3 } ∷ [];
    })
    ∷ []

abbrev pub bytes_of : List ℕ
bytes_of = encode_all book

pub accepted : refusal base bytes_of ≡ 0
unfolding field bytes laid meant body encode encode_all points_at times_at bad_frame bad_fields number_of number_at number_from refusal
accepted = refl

-- the point answer of the bytes of a book, as the numbers of its start and its end
abbrev answered : Option Held → Option (ℤ × ℤ)
answered None = None
answered (Some h) = Some (instant_number h.start.at.0, instant_number h.end.at.0)

abbrev pub point_in : List ℕ → Option Coverage → ℤ → Option (ℤ × ℤ)
point_in s None n = None
point_in s (Some c) n = answered (point_of (values_of (records s) c) (instant_of n))

-- * the point answer at 1,767,654,600 s is 1,767,571,200 to 1,767,655,800
pub starred : point_in bytes_of (coverage_of (records bytes_of)) (pos (1767654600 * second_ns)) ≡ Some (pos (1767571200 * second_ns), pos (1767655800 * second_ns))
unfolding field bytes laid meant body encode encode_all points_at times_at records_from records transitions_of rules_of events_of last_offset resolve keep look cut spans point_at governing_from
starred = refl
