-- Document 01's cells of Book A, the numbers of columns, and small rows. Assumes nothing.
use Rattle.std.specs.Prelude.{◌≡◌, refl, Bool, true, false, List, [], ◌∷◌, map, ℕ, ◌*◌, ℤ, pos, negsuc}
use Rattle.std.specs.Prelude.{None}
use Rattle.wire.specs.Fields.{field, bytes, laid}
use Rattle.wire.specs.Signs.{placed}
use Rattle.zone.specs.Units.{second_ns}
use Rattle.zone.specs.Answers.{Values}
use Rattle.spans.specs.Spans.{look}
use Rattle.query.specs.Judging.{window_refusal}
use Rattle.answer.specs.Forms.{Form, phase, unknown, mark, encode, encode_all}
use Rattle.rows.specs.Rows.{good_phase, good_gap, good_event, good_events, good_from, good_row, good_rows, events_from, segments_from, mark_from, rows_from}
use Rattle.classes.specs.Classes.{class_reply, count_reply, number_of}
use Rattle.board.specs.Cells.{columns_of, phase_glyph, cells_from, cells_number, cells_answer}

abbrev exact : Values
exact = record { tag = 0; one = pos 0; two = pos 0; text = 0 }

-- a phase from a to b, whose span ends at z, in seconds
abbrev cut : ℕ → ℕ → ℕ → ℕ → Form
cut p a b z =
    phase (record {
      start = pos (a * second_ns);
      end = pos (b * second_ns);
      phase = p;
      code = 0;
      label = 0;
      evidence = 1;
      derived = 0;
      from = record { at = pos (a * second_ns); uncertainty = exact };
      to = record { at = pos (z * second_ns); uncertainty = exact };
      whole = exact;
      events = 0;
    })

abbrev shows : ℕ → ℕ → ℕ → Form
shows p a b = cut p a b b

abbrev gap : ℕ → ℕ → Form
gap a b = unknown (record { start = pos (a * second_ns); end = pos (b * second_ns); coverage = None })

abbrev monday : ℕ
monday = 1767571200

abbrev tuesday : ℕ
tuesday = 1767700800

-- Book A's timeline, 36 hours from a Monday; the last span is cut by the window
abbrev pub book_a : List Form
book_a =
    shows 0 monday 1767600000 ∷ shows 3 1767600000 1767630600 ∷ shows 0 1767630600 1767686400
    ∷ cut 3 1767686400 tuesday 1767717000 ∷ []

abbrev drawn_a : ℤ → Bool → ℕ → List ℕ
drawn_a columns marked at = cells_answer (encode_all book_a) (pos (monday * second_ns)) (pos (tuesday * second_ns)) columns marked (pos (at * second_ns))

-- `[...###.....#]`, and with now at 10 hours `[...|##.....#]`; 11 columns make 12, and a now at the end puts no mark
pub starred_cells : drawn_a (pos 12) false 0 ∷ drawn_a (pos 11) true tuesday ∷ drawn_a (pos 12) true 1767607200 ∷ []
    ≡ (91 ∷ 46 ∷ 46 ∷ 46 ∷ 35 ∷ 35 ∷ 35 ∷ 46 ∷ 46 ∷ 46 ∷ 46 ∷ 46 ∷ 35 ∷ 93 ∷ [])
    ∷ (91 ∷ 46 ∷ 46 ∷ 46 ∷ 35 ∷ 35 ∷ 35 ∷ 46 ∷ 46 ∷ 46 ∷ 46 ∷ 46 ∷ 35 ∷ 93 ∷ [])
    ∷ (91 ∷ 46 ∷ 46 ∷ 46 ∷ 124 ∷ 35 ∷ 35 ∷ 46 ∷ 46 ∷ 46 ∷ 46 ∷ 46 ∷ 35 ∷ 93 ∷ []) ∷ []
unfolding field bytes laid placed encode encode_all events_from segments_from look phase_glyph cells_from cells_answer
starred_cells = refl

-- columns: 11 make 12, and so do negative ones; 512 stay
pub starred_columns : map columns_of (pos 11 ∷ negsuc 4 ∷ pos 512 ∷ []) ≡ 12 ∷ 12 ∷ 512 ∷ []
starred_columns = refl

-- the number of cells of no row, with so many columns
abbrev pub columns_number : ℤ → ℕ
columns_number columns = cells_number [] (pos (monday * second_ns)) (pos (tuesday * second_ns)) columns false (pos 0)

pub columns_numbered : map columns_number (pos 11 ∷ pos 512 ∷ pos 513 ∷ []) ≡ 0 ∷ 0 ∷ 14 ∷ []
unfolding window_refusal good_from good_row cells_number
columns_numbered = refl

-- a row, a window in seconds, columns, a now, and the number
pub record Numbered : Type 0 where
  pub row : List ℕ
  pub start : ℕ
  pub end : ℕ
  pub columns : ℤ
  pub marked : Bool
  pub at : ℕ
  pub number : ℕ

-- past the range of queries
abbrev never : ℕ
never = 7226582401

-- each number wins over the later ones; a now that is not marked is not judged
abbrev numbered : List Numbered
numbered =
    record { row = 0 ∷ []; start = 9; end = 5; columns = pos 513; marked = true; at = never; number = 10 }
    ∷ record { row = 0 ∷ []; start = 9; end = never; columns = pos 513; marked = false; at = never; number = 10 }
    ∷ record { row = 0 ∷ []; start = 9; end = 5; columns = pos 513; marked = false; at = never; number = 11 }
    ∷ record { row = 0 ∷ []; start = 9; end = 9; columns = pos 513; marked = false; at = never; number = 12 }
    ∷ record { row = 0 ∷ []; start = 5; end = 9; columns = pos 513; marked = false; at = never; number = 14 }
    ∷ record { row = 0 ∷ []; start = 5; end = 9; columns = pos 512; marked = false; at = never; number = 15 }
    ∷ record { row = []; start = 5; end = 9; columns = pos 513; marked = true; at = 0; number = 14 }
    ∷ record { row = []; start = 5; end = 9; columns = pos 512; marked = true; at = 0; number = 0 }
    ∷ []

pub cells_numbered : map (λ (e : Numbered). cells_number e.row (pos (e.start * second_ns)) (pos (e.end * second_ns)) e.columns e.marked (pos (e.at * second_ns))) numbered
    ≡ map (λ (e : Numbered). e.number) numbered
unfolding field window_refusal good_phase good_gap good_event good_events good_from good_row cells_number
cells_numbered = refl

-- classes: not trading before 08:00, trading at it, and nothing shown at the end; not known; the numbers 10 and 15
pub classes_told : map (λ (at : ℕ). class_reply (encode_all book_a) (pos (at * second_ns))) (monday ∷ 1767600000 ∷ tuesday ∷ never ∷ [])
    ≡ record { number = 0; shown = 2 } ∷ record { number = 0; shown = 1 } ∷ record { number = 0; shown = 4 } ∷ record { number = 10; shown = 0 } ∷ []
unfolding field bytes laid placed encode encode_all good_phase good_gap good_event good_events good_from good_row events_from segments_from look class_reply
classes_told = refl

pub class_not_known : map (λ (s : List ℕ). class_reply s (pos (5 * second_ns))) (encode_all (gap 5 6 ∷ []) ∷ [] ∷ (0 ∷ []) ∷ [])
    ≡ record { number = 0; shown = 3 } ∷ record { number = 0; shown = 4 } ∷ record { number = 15; shown = 0 } ∷ []
unfolding field bytes laid placed encode encode_all good_phase good_gap good_event good_events good_from good_row events_from segments_from look class_reply
class_not_known = refl

-- five rows, one without a segment and one whose segment ends at the instant
pub counts_told : count_reply
    (encode_all (mark 0 ∷ shows 3 5 7 ∷ mark 1 ∷ shows 0 1 5 ∷ shows 1 5 6 ∷ mark 1 ∷ gap 5 6 ∷ mark 7 ∷ mark 0 ∷ shows 2 1 5 ∷ []))
    (pos (5 * second_ns))
    ≡ record { number = 0; venues = 5; trading = 1; not_trading = 1; not_known = 1 }
unfolding field bytes laid placed encode encode_all good_phase good_gap good_event good_events good_from good_rows events_from segments_from mark_from rows_from look number_of count_reply
counts_told = refl
