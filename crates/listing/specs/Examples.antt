-- Small inputs, and document 01's Book A, with what is printed of them. Assumes nothing.
use Rattle.std.specs.Prelude.{ℕ, ◌*◌, ◌≡◌, refl, List, [], ◌∷◌, ◌++◌, map, ℤ, pos, negsuc, take}
use Rattle.std.specs.Int.{w64}
use Rattle.wire.specs.Fields.{field, bytes, laid}
use Rattle.wire.specs.Signs.{meant, placed, turned}
use Rattle.zone.specs.Units.{second_ns}
use Rattle.zone.specs.Zone.{last_offset, resolve}
use Rattle.records.specs.Records as Records
use Rattle.records.specs.Records.{body, encode_all, points_at, times_at}
use Rattle.records.specs.Examples.{book_a}
use Rattle.records.specs.Book.{bad_frame, bad_fields, number_of, number_at, number_from, refusal, records_from, records}
use Rattle.venue.specs.Opening.{transitions_of, rules_of, events_of}
use Rattle.spans.specs.Spans.{keep, clip, reach, joined, join_from}
use Rattle.spans.specs.Timeline.{blank, cut, spans, walk, unjoined, timeline}
use Rattle.day.specs.Governing.{governing_from}
use Rattle.events.specs.Happenings.{on_date, on_dates, found, by_instant}
use Rattle.query.specs.Judging.{window_refusal}
use Rattle.answer.specs.Forms as Forms
use Rattle.rows.specs.Rows.{events_from, segments_from}
use Rattle.timeline.specs.Asking.{timeline_forms, window_answer}
use Rattle.book_query.specs.Judging.{window_number}
use Rattle.listing.specs.Text.{digits, decimal, integer, instant}
use Rattle.listing.specs.Listing.{head_line, event_lines, all_lines, listing_number, listing}

-- numbers
pub numbers : map decimal (0 ∷ 9 ∷ 10 ∷ 100 ∷ 18446744073709551615 ∷ [])
    ≡ (48 ∷ []) ∷ (57 ∷ []) ∷ (49 ∷ 48 ∷ []) ∷ (49 ∷ 48 ∷ 48 ∷ [])
    ∷ (49 ∷ 56 ∷ 52 ∷ 52 ∷ 54 ∷ 55 ∷ 52 ∷ 52 ∷ 48 ∷ 55 ∷ 51 ∷ 55 ∷ 48 ∷ 57 ∷ 53 ∷ 53 ∷ 49 ∷ 54 ∷ 49 ∷ 53 ∷ []) ∷ []
unfolding decimal digits
numbers = refl

-- integers, the least of 64 bits among them
pub integers : map integer (pos 0 ∷ negsuc 0 ∷ negsuc 9223372036854775807 ∷ [])
    ≡ (48 ∷ []) ∷ (45 ∷ 49 ∷ [])
    ∷ (45 ∷ 57 ∷ 50 ∷ 50 ∷ 51 ∷ 51 ∷ 55 ∷ 50 ∷ 48 ∷ 51 ∷ 54 ∷ 56 ∷ 53 ∷ 52 ∷ 55 ∷ 55 ∷ 53 ∷ 56 ∷ 48 ∷ 56 ∷ []) ∷ []
unfolding decimal digits
integers = refl

-- ---- inputs

-- the record of a window
abbrev window : ℤ → ℤ → List ℕ
window a b =
    laid (record { width = 2; value = 18 } ∷ record { width = 2; value = 33 } ∷ record { width = 8; value = turned w64 (placed w64 a) }
    ∷ record { width = 8; value = turned w64 (placed w64 b) } ∷ [])

-- no input: `timeline 2 0`; a record cut short; another kind's
abbrev refused_by2 : List ℕ
refused_by2 = 116 ∷ 105 ∷ 109 ∷ 101 ∷ 108 ∷ 105 ∷ 110 ∷ 101 ∷ 32 ∷ 50 ∷ 32 ∷ 48 ∷ 10 ∷ []

pub bad_first_records : map listing ([] ∷ take 19 (window (pos 0) (pos 1)) ∷ (18 ∷ 0 ∷ 32 ∷ 0 ∷ take 16 (window (pos 0) (pos 1))) ∷ [])
    ≡ refused_by2 ∷ refused_by2 ∷ refused_by2 ∷ []
unfolding listing listing_number head_line decimal digits field bytes laid placed
bad_first_records = refl

-- a venue without data, before 1970: `timeline 0 1` and `U -12 -1`
pub nothing_known : listing (window (negsuc 11) (negsuc 0))
    ≡ 116 ∷ 105 ∷ 109 ∷ 101 ∷ 108 ∷ 105 ∷ 110 ∷ 101 ∷ 32 ∷ 48 ∷ 32 ∷ 49 ∷ 10
    ∷ 85 ∷ 32 ∷ 45 ∷ 49 ∷ 50 ∷ 32 ∷ 45 ∷ 49 ∷ 10 ∷ []
unfolding listing listing_number head_line all_lines event_lines instant decimal digits field bytes laid placed meant window_number window_answer refusal number_from records records_from window_refusal keep timeline_forms Forms.encode Forms.encode_all segments_from events_from blank
nothing_known = refl

-- the document's text of Book A
pub book_a_law : listing (window (pos (1767571200 * second_ns)) (pos (1767700800 * second_ns)) ++ encode_all book_a)
    ≡ 116 ∷ 105 ∷ 109 ∷ 101 ∷ 108 ∷ 105 ∷ 110 ∷ 101 ∷ 32 ∷ 48 ∷ 32 ∷ 52 ∷ 10
    ∷ 80 ∷ 32 ∷ 49 ∷ 55 ∷ 54 ∷ 55 ∷ 53 ∷ 55 ∷ 49 ∷ 50 ∷ 48 ∷ 48 ∷ 48 ∷ 48 ∷ 48 ∷ 48 ∷ 48 ∷ 48 ∷ 48 ∷ 48 ∷ 48 ∷ 32 ∷ 49 ∷ 55 ∷ 54 ∷ 55 ∷ 54 ∷ 48 ∷ 48 ∷ 48 ∷ 48 ∷ 48 ∷ 48 ∷ 48 ∷ 48 ∷ 48 ∷ 48 ∷ 48 ∷ 48 ∷ 48 ∷ 48 ∷ 32 ∷ 48 ∷ 32 ∷ 49 ∷ 10
    ∷ 80 ∷ 32 ∷ 49 ∷ 55 ∷ 54 ∷ 55 ∷ 54 ∷ 48 ∷ 48 ∷ 48 ∷ 48 ∷ 48 ∷ 48 ∷ 48 ∷ 48 ∷ 48 ∷ 48 ∷ 48 ∷ 48 ∷ 48 ∷ 48 ∷ 32 ∷ 49 ∷ 55 ∷ 54 ∷ 55 ∷ 54 ∷ 51 ∷ 48 ∷ 54 ∷ 48 ∷ 48 ∷ 48 ∷ 48 ∷ 48 ∷ 48 ∷ 48 ∷ 48 ∷ 48 ∷ 48 ∷ 48 ∷ 32 ∷ 51 ∷ 32 ∷ 49 ∷ 10
    ∷ 80 ∷ 32 ∷ 49 ∷ 55 ∷ 54 ∷ 55 ∷ 54 ∷ 51 ∷ 48 ∷ 54 ∷ 48 ∷ 48 ∷ 48 ∷ 48 ∷ 48 ∷ 48 ∷ 48 ∷ 48 ∷ 48 ∷ 48 ∷ 48 ∷ 32 ∷ 49 ∷ 55 ∷ 54 ∷ 55 ∷ 54 ∷ 56 ∷ 54 ∷ 52 ∷ 48 ∷ 48 ∷ 48 ∷ 48 ∷ 48 ∷ 48 ∷ 48 ∷ 48 ∷ 48 ∷ 48 ∷ 48 ∷ 32 ∷ 48 ∷ 32 ∷ 49 ∷ 10
    ∷ 80 ∷ 32 ∷ 49 ∷ 55 ∷ 54 ∷ 55 ∷ 54 ∷ 56 ∷ 54 ∷ 52 ∷ 48 ∷ 48 ∷ 48 ∷ 48 ∷ 48 ∷ 48 ∷ 48 ∷ 48 ∷ 48 ∷ 48 ∷ 48 ∷ 32 ∷ 49 ∷ 55 ∷ 54 ∷ 55 ∷ 55 ∷ 48 ∷ 48 ∷ 56 ∷ 48 ∷ 48 ∷ 48 ∷ 48 ∷ 48 ∷ 48 ∷ 48 ∷ 48 ∷ 48 ∷ 48 ∷ 48 ∷ 32 ∷ 51 ∷ 32 ∷ 49 ∷ 10 ∷ []
unfolding listing listing_number head_line all_lines event_lines instant decimal digits field bytes laid placed meant window_number window_answer bad_frame bad_fields number_of number_at refusal number_from body Records.encode encode_all points_at times_at records records_from transitions_of rules_of events_of last_offset resolve keep clip reach joined join_from cut spans walk unjoined timeline governing_from window_refusal timeline_forms Forms.encode Forms.encode_all segments_from events_from by_instant found on_dates on_date
book_a_law = refl
