-- The listing program: document 01, Checked examples, Book A. Assumes nothing.
use Rattle.std.specs.Prelude.{ℕ, ◌+◌, ◌*◌, cond, List, [], ◌∷◌, ◌++◌, ltb, eqb, ℤ, length, drop}
use Rattle.std.specs.Int.{w64}
use Rattle.records.specs.Layout.{Place, size, kind, then, integer}
use Rattle.spans.specs.Spans.{Mark, phase, unknown, Span}
use Rattle.rows.specs.Rows.{Event, Seen, framed, segments}
use Rattle.timeline.specs.Asking.{window_answer}
use Rattle.book_query.specs.Judging.{window_number}
use Rattle.listing.specs.Text.{decimal, instant, line}

-- ---- the input: kind 33 (L 18: start, end i64 ns), then a book

abbrev pub query_kind : ℕ
query_kind = 33

abbrev pub query_length : ℕ
query_length = 18

abbrev pub query_size : ℕ
query_size = size.width + query_length

abbrev pub start_place : Place
start_place = then kind 8

abbrev pub end_place : Place
end_place = then start_place 8

abbrev pub start : List ℕ → ℤ
start s = integer w64 start_place s 0

abbrev pub end : List ℕ → ℤ
end s = integer w64 end_place s 0

abbrev pub book : List ℕ → List ℕ
book s = drop query_size s

-- ---- its number and its answer

-- the most bytes of the input, and of the answer
abbrev pub most : ℕ
most = 65536

-- as many as the text has at most: two for each of the answer's, and the first line
abbrev pub text_bytes : ℕ
text_bytes = 2 * most + 64

abbrev pub answer : List ℕ → List ℕ
answer s = window_answer (book s) (start s) (end s)

-- 16 where the answer is longer than the room
abbrev pub room_number : ℕ → List ℕ → ℕ
room_number n a = cond (eqb n 0) (cond (ltb most (length a)) 16 0) n

-- 65,536 bytes in all or 1; a bad first record: 2; then the book's number, and the window's
unfoldable pub listing_number : List ℕ → ℕ
listing_number s = cond (ltb most (length s)) 1 (cond (framed query_kind query_length s 0) (room_number (window_number (book s) (start s) (end s)) (answer s)) 2)

-- ---- the text

-- `timeline`, number and segment count
abbrev pub timeline_word : List ℕ
timeline_word = 116 ∷ 105 ∷ 109 ∷ 101 ∷ 108 ∷ 105 ∷ 110 ∷ 101 ∷ []

unfoldable pub head_line : ℕ → ℕ → List ℕ
head_line n count = line timeline_word (decimal n ∷ decimal count ∷ [])

-- `P` start, end, phase, evidence, or `U` start, end
abbrev pub segment_line : ℕ → ℕ → Mark → List ℕ
segment_line from to (phase p e) = line (80 ∷ []) (instant from ∷ instant to ∷ decimal p ∷ decimal e ∷ [])
segment_line from to unknown = line (85 ∷ []) (instant from ∷ instant to ∷ [])

-- `E` instant, code
abbrev pub event_line : Event → List ℕ
event_line e = line (69 ∷ []) (instant e.at ∷ decimal e.code ∷ [])

unfoldable pub event_lines : List Event → List ℕ
event_lines [] = []
event_lines (e ∷ es) = event_line e ++ event_lines es

-- events stand below their segment
abbrev pub segment_lines : Span Seen → List ℕ
segment_lines g = segment_line g.from g.to g.body.mark ++ event_lines g.body.events

unfoldable pub all_lines : List (Span Seen) → List ℕ
all_lines [] = []
all_lines (g ∷ gs) = segment_lines g ++ all_lines gs

abbrev pub row_text : List (Span Seen) → List ℕ
row_text gs = head_line 0 (length gs) ++ all_lines gs

-- a refusal: that line alone, count 0
unfoldable pub listing : List ℕ → List ℕ
listing s = cond (eqb (listing_number s) 0) (row_text (segments (answer s))) (head_line (listing_number s) 0)
