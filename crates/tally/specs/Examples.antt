-- Document 01's starred tally numbers, and the tally of Book A, computed from its bytes. Assumes nothing.
use Rattle.std.specs.Prelude.{ℕ, ◌+◌, ◌*◌, ◌≡◌, refl, List, [], ◌∷◌, ℤ, pos}
use Rattle.wire.specs.Fields.{field, bytes, laid}
use Rattle.wire.specs.Signs.{meant}
use Rattle.zone.specs.Units.{second_ns}
use Rattle.zone.specs.Zone.{last_offset, resolve}
use Rattle.records.specs.Records.{body, encode, encode_all, points_at, times_at}
use Rattle.records.specs.Book.{bad_frame, bad_fields, number_of, number_at, number_from, refusal, records_from, records}
use Rattle.records.specs.Examples.{book_a}
use Rattle.venue.specs.Opening.{transitions_of, rules_of, events_of}
use Rattle.spans.specs.Spans.{keep, clip, reach, joined, join_from}
use Rattle.spans.specs.Timeline.{cut, spans, walk, unjoined, timeline}
use Rattle.spans.specs.Totals.{total}
use Rattle.day.specs.Governing.{governing_from}
use Rattle.query.specs.Judging.{window_refusal}
use Rattle.answer.specs.Forms.{day, tally}
use Rattle.tally_rows.specs.Rows.{rows_from}
use Rattle.book_query.specs.Judging.{window_number}
use Rattle.tally.specs.Tallying.{tally_forms, tally_number}

abbrev pub book : List ℕ
book = encode_all book_a

abbrev seconds : ℕ → ℤ
seconds n = pos (n * second_ns)

-- closed and continuous, in seconds; nothing else
abbrev pub closed_and_open : ℕ → ℕ → List ℕ
closed_and_open c o = c * second_ns ∷ 0 ∷ 0 ∷ o * second_ns ∷ 0 ∷ 0 ∷ 0 ∷ 0 ∷ 0 ∷ 0 ∷ []

-- Closed 84,600 s, continuous 45,000 s
pub book_A : tally_forms book (seconds 1767571200) (seconds 1767700800)
    ≡ day (record { start = seconds 1767571200; end = seconds 1767657600; totals = closed_and_open 55800 30600 })
    ∷ day (record { start = seconds 1767657600; end = seconds 1767700800; totals = closed_and_open 28800 14400 })
    ∷ tally (record { start = seconds 1767571200; end = seconds 1767700800; totals = closed_and_open 84600 45000 }) ∷ []
unfolding field bytes laid meant body encode encode_all points_at times_at records_from records transitions_of rules_of events_of last_offset resolve keep clip reach joined join_from cut spans walk unjoined timeline governing_from total rows_from
book_A = refl

-- * 400 days pass, one ns more gets 13
pub starred : (tally_number book (seconds 1767571200) (seconds 1802131200) ≡ 0) × (tally_number book (seconds 1767571200) (pos (1802131200 * second_ns + 1)) ≡ 13)
unfolding field bytes laid meant body encode encode_all points_at times_at bad_frame bad_fields number_of number_at number_from refusal window_refusal window_number tally_number
starred = (refl, refl)
