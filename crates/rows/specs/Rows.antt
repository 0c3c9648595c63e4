-- A timeline's bytes read back: which are a good row, which a good sequence of marked rows, and what segments they hold. Document 01,
-- number 15. Instants of a row are any i64; they are placed, so that they compare as numbers. Assumes nothing.
use Rattle.std.specs.Prelude.{ℕ, zero, suc, ◌+◌, ◌-◌, ◌*◌, Bool, true, false, cond, ◌&&◌, ◌||◌, List, [], ◌∷◌, ltb, leb, eqb, length, ℤ}
use Rattle.std.specs.Int.{w64}
use Rattle.wire.specs.Signs.{turned, placed}
use Rattle.records.specs.Layout.{Place, number, size, kind}
use Rattle.spans.specs.Spans.{Mark, phase, unknown, Span, look}
use Rattle.answer.specs.Forms
use Rattle.answer.specs.Forms.{phase_kind, phase_length, gap_kind, gap_length, event_kind, event_length, mark_kind, mark_length, phase_size, gap_size, event_size, mark_size}
use Rattle.std.specs.Prelude.{Option}
use Rattle.records.specs.Book.{last_phase, last_code}

-- ---- the fields of a record at `at`

abbrev pub placed_at : Place → List ℕ → ℕ → ℕ
placed_at p s at = turned w64 (number p s at)

-- a segment's start and end
abbrev pub from_at : List ℕ → ℕ → ℕ
from_at s at = placed_at Forms.start s at

abbrev pub to_at : List ℕ → ℕ → ℕ
to_at s at = placed_at Forms.end s at

-- how many events follow a phase
abbrev pub count_at : List ℕ → ℕ → ℕ
count_at s at = number Forms.count_place s at

-- the place behind a phase and its events, and behind the other records
abbrev pub behind_phase : List ℕ → ℕ → ℕ
behind_phase s at = at + phase_size + event_size * count_at s at

abbrev pub behind_gap : ℕ → ℕ
behind_gap at = at + gap_size

abbrev pub behind_mark : ℕ → ℕ
behind_mark at = at + mark_size

-- ---- what is good

-- a record of the kind k with the length l stands whole at `at`
abbrev pub framed : ℕ → ℕ → List ℕ → ℕ → Bool
framed k l s at = (leb (at + size.width + l) (length s) && eqb (number size s at) l) && eqb (number kind s at) k

-- an uncertainty behind a place has a tag of the list: those that a book may state, ambiguous and nonexistent local time
abbrev pub last_tag : ℕ
last_tag = 5

abbrev pub tagged : Place → List ℕ → ℕ → Bool
tagged p s at = leb (number (Forms.tag_behind p) s at) last_tag

abbrev pub not_empty : List ℕ → ℕ → Bool
not_empty s at = ltb (from_at s at) (to_at s at)

unfoldable pub good_phase : List ℕ → ℕ → Bool
good_phase s at =
    ((framed phase_kind phase_length s at && leb (number Forms.phase_place s at) last_phase) && leb (number Forms.code_place s at) last_code)
    && (((tagged Forms.from_place s at && tagged Forms.to_place s at) && tagged Forms.whole_before s at) && not_empty s at)

unfoldable pub good_gap : List ℕ → ℕ → Bool
good_gap s at = (framed gap_kind gap_length s at && leb (number (Forms.present_behind Forms.end) s at) 1) && not_empty s at

unfoldable pub good_event : List ℕ → ℕ → Bool
good_event s at = framed event_kind event_length s at && tagged Forms.event_at s at

abbrev pub good_mark : List ℕ → ℕ → Bool
good_mark s at = framed mark_kind mark_length s at

-- a segment: a phase, or a stretch of which nothing is known
abbrev pub good_segment : List ℕ → ℕ → Bool
good_segment s at = good_phase s at || good_gap s at

-- n events stand one after the other
unfoldable pub good_events : List ℕ → ℕ → ℕ → Bool
good_events s at zero = true
good_events s at (suc n) = good_event s at && good_events s (at + event_size) n

-- From `at` on stand segments, the first not before `least`, each not before the one before it ends, and behind each phase as many events
-- as it counts. Where marks are allowed, a mark begins a row anew. At most n records are looked at.
unfoldable pub good_from : Bool → ℕ → List ℕ → ℕ → ℕ → Bool
good_from marks zero s at least = false
good_from marks (suc n) s at least =
    let phases = good_from marks n s (behind_phase s at) (to_at s at) in
    let gaps = good_from marks n s (behind_gap at) (to_at s at) in
    let anew = good_from marks n s (behind_mark at) 0 in
    cond (eqb at (length s)) true
    (cond (good_phase s at)
    ((leb least (from_at s at) && good_events s (at + phase_size) (count_at s at)) && phases)
    (cond (good_gap s at)
    (leb least (from_at s at) && gaps)
    (cond (marks && good_mark s at) anew false)))

-- a record has at least six bytes, so this looks at all
abbrev pub enough : List ℕ → ℕ
enough s = suc (length s)

-- zero bytes are a good row
unfoldable pub good_row : List ℕ → Bool
good_row s = good_from false (enough s) s 0 0

-- and no rows; others begin with a mark
unfoldable pub good_rows : List ℕ → Bool
good_rows s = eqb (length s) 0 || (good_mark s 0 && good_from true (enough s) s 0 0)

-- the number given back for a row
abbrev pub row_refusal : List ℕ → ℕ
row_refusal s = cond (good_row s) 0 15

-- ---- what good rows hold

pub record Event : Type 0 where
  pub at : ℕ
  pub code : ℕ

-- what a segment shows, and its events
pub record Seen : Type 0 where
  pub mark : Mark
  pub events : List Event

abbrev pub event_of : List ℕ → ℕ → Event
event_of s at = record { at = placed_at Forms.event_at s at; code = number Forms.event_code s at }

unfoldable pub events_from : List ℕ → ℕ → ℕ → List Event
events_from s at zero = []
events_from s at (suc n) = event_of s at ∷ events_from s (at + event_size) n

abbrev pub phase_seen : List ℕ → ℕ → Span Seen
phase_seen s at =
    record {
      from = from_at s at;
      to = to_at s at;
      body = record { mark = phase (number Forms.phase_place s at) (number Forms.evidence_place s at); events = events_from s (at + phase_size) (count_at s at) };
    }

abbrev pub gap_seen : List ℕ → ℕ → Span Seen
gap_seen s at = record { from = from_at s at; to = to_at s at; body = record { mark = unknown; events = [] } }

-- the segments from `at` on, to the end or the next mark
unfoldable pub segments_from : ℕ → List ℕ → ℕ → List (Span Seen)
segments_from zero s at = []
segments_from (suc n) s at =
    let phases = phase_seen s at ∷ segments_from n s (behind_phase s at) in
    let gaps = gap_seen s at ∷ segments_from n s (behind_gap at) in
    cond (leb (length s) at) [] (cond (eqb (number kind s at) phase_kind) phases (cond (eqb (number kind s at) gap_kind) gaps []))

-- where the next mark stands, or the end
unfoldable pub mark_from : ℕ → List ℕ → ℕ → ℕ
mark_from zero s at = length s
mark_from (suc n) s at =
    let phases = mark_from n s (behind_phase s at) in
    let gaps = mark_from n s (behind_gap at) in
    cond (leb (length s) at) (length s) (cond (eqb (number kind s at) phase_kind) phases (cond (eqb (number kind s at) gap_kind) gaps at))

abbrev pub left : List ℕ → ℕ → ℕ
left s at = enough s - at

-- what stands from `at` on is good, however many records there are
abbrev pub good_at : Bool → List ℕ → ℕ → ℕ → Bool
good_at marks s at least = good_from marks (left s at) s at least

abbrev pub segments_at : List ℕ → ℕ → List (Span Seen)
segments_at s at = segments_from (left s at) s at

-- a row's segments
abbrev pub segments : List ℕ → List (Span Seen)
segments s = segments_at s 0

-- what the first segment that holds an instant shows
abbrev pub shown_at : List (Span Seen) → ℕ → Option Mark
shown_at ss t = look (λ (x : Seen). x.mark) ss t

-- of a row's bytes, at document 01's number of an instant
abbrev pub shown_in : List ℕ → ℤ → Option Mark
shown_in s at = shown_at (segments s) (placed w64 at)

-- a row that a mark begins
pub record Row : Type 0 where
  pub number : ℕ
  pub segments : List (Span Seen)

unfoldable pub rows_from : ℕ → List ℕ → ℕ → List Row
rows_from zero s at = []
rows_from (suc n) s at =
    cond (leb (length s) at) []
    (record { number = number Forms.mark_row s at; segments = segments_at s (behind_mark at) } ∷ rows_from n s (mark_from (left s (behind_mark at)) s (behind_mark at)))

abbrev pub rows : List ℕ → List Row
rows s = rows_from (enough s) s 0
