-- Small rows, judged and read. Assumes nothing.
use Rattle.std.specs.Prelude.{◌≡◌, refl, Bool, true, false, List, [], ◌∷◌, ◌++◌, map, ℕ, ◌+◌, ◌-◌, ℤ, pos, negsuc, take, set}
use Rattle.std.specs.Prelude.{None}
use Rattle.wire.specs.Fields.{field, bytes, laid}
use Rattle.wire.specs.Signs.{placed}
use Rattle.zone.specs.Answers.{Values}
use Rattle.answer.specs.Forms
use Rattle.answer.specs.Forms.{Form, phase, unknown, event, point, mark, day, tally, encode, encode_all, phase_length, gap_length, event_length, mark_length, phase_size}
use Rattle.rows.specs.Rows.{good_phase, good_gap, good_event, good_events, good_from, good_row, good_rows, events_from, segments_from, segments, mark_from, rows_from, rows}
use Rattle.rows.specs.Written.{events_of, seen_of}

abbrev tagged : ℕ → Values
tagged t = record { tag = t; one = pos 0; two = pos 0; text = 0 }

abbrev side : ℤ → ℕ → Forms.Side
side z t = record { at = z; uncertainty = tagged t }

-- nothing known from a to b
abbrev gap : ℤ → ℤ → Form
gap a b = unknown (record { start = a; end = b; coverage = None })

-- a phase p of a rule of the code c, from a to b, with a tag of its start, its end and the whole, that counts n events
abbrev phased : ℕ → ℕ → ℤ → ℤ → ℕ → ℕ → ℕ → ℕ → Form
phased p c a b t u w n =
    phase (record {
      start = a;
      end = b;
      phase = p;
      code = c;
      label = 0;
      evidence = 9;
      derived = 0;
      from = side a t;
      to = side b u;
      whole = tagged w;
      events = n;
    })

-- of an announced change, with a tag of its end
abbrev counting : ℕ → ℤ → ℤ → ℕ → ℕ → Form
counting p a b t n = phased p 3 a b 0 t 0 n

abbrev happening : ℤ → ℕ → ℕ → Form
happening z c t = event (record { code = c; at = z; uncertainty = tagged t; evidence = 1 })

abbrev happens : ℤ → ℕ → Form
happens z c = happening z c 5

abbrev totals : Forms.Totals
totals = record { start = pos 0; end = pos 1; totals = 0 ∷ 0 ∷ 0 ∷ 1 ∷ 0 ∷ 0 ∷ 0 ∷ 0 ∷ 0 ∷ 0 ∷ [] }

-- bytes, whether they are a good row, and whether they are good marked rows
pub record Example : Type 0 where
  pub bytes : List ℕ
  pub row : Bool
  pub rows : Bool

abbrev of : List Form → Bool → Bool → Example
of fs r m = record { bytes = encode_all fs; row = r; rows = m }

-- the same bytes but for the one at a place
abbrev altered : List Form → ℕ → ℕ → Example
altered fs i b = record { bytes = set (encode_all fs) i b; row = false; rows = false }

-- a phase from 0 to 1 with the three tags and one event with a tag
abbrev with_tags : ℕ → ℕ → ℕ → ℕ → List Form
with_tags t u w e = phased 3 0 (pos 0) (pos 1) t u w 1 ∷ happening (pos 0) 1 e ∷ []

abbrev one : List Form
one = gap (pos 0) (pos 1) ∷ []

abbrev two : List Form
two = counting 7 (negsuc 9) (pos 5) 5 1 ∷ happens (pos 99) 4 ∷ gap (pos 5) (pos 6) ∷ []

abbrev marked : List Form
marked = mark 3 ∷ two ++ mark 3 ∷ mark 0 ∷ two

-- Document 01's clauses of number 15, one after the other.
abbrev pub examples : List Example
examples =
    -- zero bytes: a good row, and no rows
    of [] true true
    ∷ of (gap (negsuc 0) (pos 0) ∷ []) true false
    ∷ of two true false
    -- a record cut short, and a byte too many, which is one cut short
    ∷ record { bytes = take 36 (encode_all one); row = false; rows = false }
    ∷ record { bytes = take 3 (encode_all one); row = false; rows = false }
    ∷ record { bytes = encode_all one ++ 0 ∷ []; row = false; rows = false }
    -- a wrong length: of a phase, an unknown, an event, a mark, one less and one more
    ∷ altered (counting 3 (pos 0) (pos 1) 0 0 ∷ []) 0 (phase_length - 1)
    ∷ altered (counting 3 (pos 0) (pos 1) 0 0 ∷ []) 0 (phase_length + 1)
    ∷ altered one 0 (gap_length - 1)
    ∷ altered one 1 1
    ∷ altered two phase_size (event_length - 1)
    ∷ altered (mark 1 ∷ []) 0 (mark_length + 1)
    -- a kind other than 16, 17 and 18: a point unknown, a day row, a tally, a book's, and a mark in a single row
    ∷ of (point (record { at = pos 0; coverage = None }) ∷ []) false false
    ∷ of (day totals ∷ []) false false
    ∷ of (tally totals ∷ []) false false
    ∷ altered one 2 1
    ∷ of (mark 0 ∷ one) false true
    -- a phase of 8; a rule code of 4; a coverage mark of 2
    ∷ of (counting 8 (pos 0) (pos 1) 0 0 ∷ []) false false
    ∷ of (phased 3 4 (pos 0) (pos 1) 0 0 0 0 ∷ []) false false
    ∷ altered one (Forms.present_behind Forms.end).from 2
    -- each tag, of a start, an end, the whole and an event; and 6 of each
    ∷ of (with_tags 0 1 2 3) true false
    ∷ of (with_tags 4 5 0 1) true false
    ∷ of (with_tags 2 3 4 5) true false
    ∷ of (with_tags 6 0 0 0) false false
    ∷ of (with_tags 0 6 0 0) false false
    ∷ of (with_tags 0 0 6 0) false false
    ∷ of (with_tags 0 0 0 6) false false
    -- the start equal to the end, and after it
    ∷ of (gap (pos 0) (pos 0) ∷ []) false false
    ∷ of (counting 3 (pos 1) (negsuc 0) 0 0 ∷ []) false false
    -- before the previous end; at it
    ∷ of (gap (pos 0) (pos 2) ∷ gap (pos 1) (pos 3) ∷ []) false false
    ∷ of (gap (pos 0) (pos 2) ∷ gap (pos 2) (pos 3) ∷ []) true false
    -- an event too few, an event too many, an event elsewhere
    ∷ of (counting 3 (pos 0) (pos 1) 0 1 ∷ []) false false
    ∷ of (counting 3 (pos 0) (pos 1) 0 0 ∷ happens (pos 0) 1 ∷ []) false false
    ∷ of (happens (pos 0) 1 ∷ two) false false
    ∷ of (mark 0 ∷ gap (pos 0) (pos 1) ∷ happens (pos 0) 1 ∷ []) false false
    -- for the count, bytes not beginning with a mark; marks alone, with order begun anew, between a phase and its event
    ∷ of (gap (pos 0) (pos 2) ∷ mark 1 ∷ []) false false
    ∷ of (mark 65535 ∷ []) false true
    ∷ of marked false true
    ∷ of (mark 1 ∷ gap (pos 0) (pos 2) ∷ mark 1 ∷ gap (pos 1) (pos 3) ∷ []) false true
    ∷ of (mark 1 ∷ counting 3 (pos 0) (pos 1) 0 1 ∷ mark 2 ∷ happens (pos 0) 1 ∷ []) false false
    ∷ []

pub row_judged : map (λ (e : Example). good_row e.bytes) examples ≡ map (λ (e : Example). e.row) examples
unfolding field bytes laid encode encode_all good_phase good_gap good_event good_events good_from good_row
row_judged = refl

pub rows_judged : map (λ (e : Example). good_rows e.bytes) examples ≡ map (λ (e : Example). e.rows) examples
unfolding field bytes laid encode encode_all good_phase good_gap good_event good_events good_from good_rows
rows_judged = refl

pub row_read : segments (encode_all two) ≡ seen_of two
unfolding field bytes laid placed encode encode_all events_from segments_from events_of seen_of
row_read = refl

pub rows_read : rows (encode_all marked)
    ≡ record { number = 3; segments = seen_of two } ∷ record { number = 3; segments = [] } ∷ record { number = 0; segments = seen_of two } ∷ []
unfolding field bytes laid placed encode encode_all events_from segments_from mark_from rows_from events_of seen_of
rows_read = refl
