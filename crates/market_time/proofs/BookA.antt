-- Document 01's Book A, from the book's own bytes: its window's answer, drawn; and demand 3 of it, over that window, which is plain. Assumes
-- nothing.
use Prim.Native.Nat.{ℕ, ◌*◌}
use native.Mathlib.Omega.{arith}
use mathlib.Core.Path.{◌≡◌, refl, sym, ap, ◌∙◌}
use mathlib.Core.Bool.{true, false}
use mathlib.Core.List.{List, [], ◌∷◌}
use lib.IntN.{ℤ, pos}
use lib.ListN.{get_or}
use Rattle.wire.specs.Fields.{field, bytes, laid}
use Rattle.wire.specs.Signs.{meant}
use Rattle.zone.specs.Units.{second_ns, instant_of}
use Rattle.zone.specs.Zone.{last_offset, resolve}
use Rattle.records.specs.Records.{Coverage, body, encode, encode_all, points_at, times_at}
use Rattle.records.specs.Book.{bad_frame, bad_fields, number_of, number_at, number_from, refusal, records_from, records}
use Rattle.records.proofs.Accepted.{encoded_bytes}
use Rattle.records.specs.Examples.{book_a}
use Rattle.venue.specs.Opening.{transitions_of, rules_of, events_of}
use Rattle.spans.specs.Spans.{keep, clip, reach, joined, join_from}
use Rattle.spans.specs.Timeline.{cut, spans, walk, unjoined, timeline}
use Rattle.spans.specs.Totals.{total}
use Rattle.day.specs.Governing.{governing_from}
use Rattle.events.specs.Happenings.{by_instant, found, on_dates, on_date}
use Rattle.answer.specs.Forms
use Rattle.board.specs.Cells.{cells_answer}
use Rattle.board.specs.Examples as Examples
use Rattle.board.specs.Examples.{starred_cells}
use Rattle.timeline.specs.Segments.{segments, timeline_of}
use Rattle.timeline.specs.Asking.{timeline_forms, window_forms, window_answer}
use Rattle.query.specs.Judging.{window_refusal}
use Rattle.book_query.specs.Judging.{window_number}
use Rattle.day.specs.Days.{values_of}
use Rattle.rows.specs.Rows.{shown_in}
use Rattle.point.specs.Asking.{point_answer}
use Rattle.point.specs.Said.{point_said}
use Rattle.plain.specs.Books.{window, Plain}
use Rattle.agreement.specs.Books.{Names, Between, Agreed}
use Rattle.agreement.proofs.Steady.{unchanged_plain}
use Rattle.tally_rows.specs.Rows.{row_totals}
use Rattle.tally.specs.Tallying.{tally_number, tally_answer}
use Rattle.tally.specs.Examples.{closed_and_open}
use Rattle.market_time.specs.Counted.{counted, counted_forms}
use Rattle.market_time.specs.Demand.{Demand}
use Rattle.market_time.proofs.Plain.{window_passes}
use Rattle.market_time.proofs.Tally.{row_counted}
use Rattle.market_time.proofs.Demand.{demand}

abbrev start : ℤ
start = pos (1767571200 * second_ns)

abbrev end : ℤ
end = pos (1767700800 * second_ns)

-- the records of the window's answer
listed : window_forms (encode_all book_a) start end ≡ Examples.book_a
unfolding field bytes laid meant body encode encode_all points_at times_at records_from records transitions_of rules_of events_of last_offset resolve keep clip reach joined join_from cut spans walk unjoined timeline governing_from timeline_forms by_instant found on_dates on_date
listed = refl

answered : window_answer (encode_all book_a) start end ≡ Forms.encode_all Examples.book_a
unfolding window_answer
answered = ap Forms.encode_all listed

-- the cells of some bytes over the window: 12 columns, 11 columns with now at its end, and 12 with now at 10 hours
abbrev cells : List ℕ → List (List ℕ)
cells row =
    cells_answer row start end (pos 12) false (pos (0 * second_ns))
    ∷ cells_answer row start end (pos 11) true (pos (1767700800 * second_ns))
    ∷ cells_answer row start end (pos 12) true (pos (1767607200 * second_ns)) ∷ []

-- `[...###.....#]` twice, and `[...|##.....#]`
pub starred : cells (window_answer (encode_all book_a) start end)
    ≡ (91 ∷ 46 ∷ 46 ∷ 46 ∷ 35 ∷ 35 ∷ 35 ∷ 46 ∷ 46 ∷ 46 ∷ 46 ∷ 46 ∷ 35 ∷ 93 ∷ [])
    ∷ (91 ∷ 46 ∷ 46 ∷ 46 ∷ 35 ∷ 35 ∷ 35 ∷ 46 ∷ 46 ∷ 46 ∷ 46 ∷ 46 ∷ 35 ∷ 93 ∷ [])
    ∷ (91 ∷ 46 ∷ 46 ∷ 46 ∷ 124 ∷ 35 ∷ 35 ∷ 46 ∷ 46 ∷ 46 ∷ 46 ∷ 46 ∷ 35 ∷ 93 ∷ []) ∷ []
starred = ap cells answered ∙ starred_cells

-- ---- demand 3, applied

abbrev book : List ℕ
book = encode_all book_a

-- all of 2026, offset 0
abbrev covered : Coverage
covered = record { start = pos (1767225600 * second_ns); end = pos (1798761600 * second_ns); offset = pos 0 }

named : Names book covered
unfolding field bytes laid meant body encode encode_all points_at times_at bad_frame bad_fields number_of number_at number_from refusal records_from records
named = record { accepted = refl; coverage = refl }

window_answered : window_number book start end ≡ 0
unfolding field bytes laid meant body encode encode_all points_at times_at bad_frame bad_fields number_of number_at number_from refusal window_refusal window_number
window_answered = refl

tally_answered : tally_number book start end ≡ 0
unfolding field bytes laid meant body encode encode_all points_at times_at bad_frame bad_fields number_of number_at number_from refusal window_refusal window_number tally_number
tally_answered = refl

no_changes : transitions_of (records book) ≡ []
unfolding field bytes laid meant body encode encode_all points_at times_at records_from records transitions_of
no_changes = refl

plain : Plain book start end
plain = unchanged_plain book covered named start end (window_passes book start end window_answered) (omega arith) no_changes

-- the book is lent: its elements are bytes
lent : Demand book
lent = demand book (encoded_bytes book_a)

-- at every instant of the 36 hours the timeline's bytes and the point answer's agree
pub timeline_is_points_A : (at : ℤ) → Between start end at → Agreed book covered at (shown_in (window_answer book start end) at) (point_said (point_answer book at))
timeline_is_points_A = lent.points covered named start end window_answered plain

-- each total of the tally's bytes is a number of nanoseconds
pub tally_is_points_A : tally_answer book start end ≡ Forms.encode_all (counted_forms book covered (instant_of start) (instant_of end))
tally_is_points_A = lent.totals covered named start end tally_answered plain

totals : row_totals segments (instant_of start) (instant_of end) (timeline_of (values_of (records book) covered) (window start end)) ≡ closed_and_open 84600 45000
unfolding field bytes laid meant body encode encode_all points_at times_at records_from records transitions_of rules_of events_of last_offset resolve keep clip reach joined join_from cut spans walk unjoined timeline governing_from total
totals = refl

-- 45,000 s of nanoseconds have a point answer that says continuous trading, and 84,600 s one that says closed
pub trading_A : (counted book 3 (instant_of start) (129600 * second_ns) ≡ 45000 * second_ns) × (counted book 0 (instant_of start) (129600 * second_ns) ≡ 84600 * second_ns)
trading_A =
    let e = sym (row_counted book covered (encoded_bytes book_a) named start end tally_answered plain (instant_of start) (129600 * second_ns) (omega arith) (omega arith)) ∙ totals in
    (ap (λ (ts : List ℕ). get_or ts 3 0) e, ap (λ (ts : List ℕ). get_or ts 0 0) e)
