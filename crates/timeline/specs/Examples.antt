-- Document 01's starred window answer, computed from the bytes of the book of the starred point answer. Assumes nothing.
use Rattle.std.specs.Prelude.{◌*◌, ◌≡◌, refl, List, [], ◌∷◌, ℤ, pos}
use Rattle.std.specs.Prelude.{Option, None, Some}
use Rattle.wire.specs.Fields.{field, bytes, laid}
use Rattle.wire.specs.Signs.{meant}
use Rattle.zone.specs.Units.{second_ns}
use Rattle.zone.specs.Zone.{last_offset, resolve}
use Rattle.records.specs.Records.{body, encode, encode_all, points_at, times_at}
use Rattle.records.specs.Book.{records_from, records}
use Rattle.venue.specs.Opening.{transitions_of, rules_of, events_of}
use Rattle.spans.specs.Spans.{keep, clip, reach, joined, join_from}
use Rattle.spans.specs.Timeline.{cut, spans, walk, unjoined, timeline}
use Rattle.day.specs.Governing.{governing_from}
use Rattle.day.specs.Examples.{bytes_of}
use Rattle.answer.specs.Forms.{Form, phase, unknown, event, point, mark, day, tally}
use Rattle.timeline.specs.Asking.{timeline_forms, window_forms}

-- where a phase segment starts, and its start boundary
abbrev starts : Form → Option (ℤ × ℤ)
starts (phase p) = Some (p.start, p.from.at)
starts (unknown g) = None
starts (event e) = None
starts (point m) = None
starts (mark r) = None
starts (day t) = None
starts (tally t) = None

abbrev pub first : List Form → Option (ℤ × ℤ)
first [] = None
first (f ∷ fs) = starts f

-- * the window from 1,767,654,600 s, an hour long, begins with a phase segment whose start boundary is 1,767,654,000
pub starred : first (window_forms bytes_of (pos (1767654600 * second_ns)) (pos (1767658200 * second_ns))) ≡ Some (pos (1767654600 * second_ns), pos (1767654000 * second_ns))
unfolding field bytes laid meant body encode encode_all points_at times_at records_from records transitions_of rules_of events_of last_offset resolve keep clip reach joined join_from cut spans walk unjoined timeline governing_from timeline_forms
starred = refl
