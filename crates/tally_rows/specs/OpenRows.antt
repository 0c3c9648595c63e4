-- The pages: rows that are written one after the other while the stretches of a window come. Assumes nothing.
use Rattle.std.specs.Prelude.{ℕ, zero, suc, ◌+◌, ◌-◌, ◌*◌, ◌≤◌, ◌<◌, min, max, ◌≡◌, Bool, cond, List, [], ◌∷◌, ◌++◌, map, eqb, leb, length, get_or, set}
use Rattle.std.specs.Prelude.{Option, None, Some}
use Rattle.wire.specs.Fields.{wrote, Put}
use Rattle.zone.specs.Units.{day_ns}
use Rattle.spans.specs.Spans.{Mark, phase, unknown, Span, Body}
use Rattle.spans.specs.Totals.{is_phase, is_unknown, any_mark, total}
use Rattle.answer.specs.Forms.{Form, day, encode, encode_all, row_size, many_totals}
use Rattle.answer.specs.Meaning.{totals_of}
use Rattle.tally_rows.specs.Rows.{row_end, rows_from, rows_of, day_form, forms_by}
use Rattle.tally_rows.specs.declared.OpenRow.{OpenRow}

-- ---- stretches: the spans of a window, as they come

abbrev pub marks : Body Mark
marks = record { mark = λ m. m; merge = λ a b. a }

abbrev pub stretch_of : ℕ → ℕ → Mark → Span Mark
stretch_of from to m = record { from = from; to = to; body = m }

abbrev pub raw_forms : List (Span Mark) → ℕ → ℕ → List Form
raw_forms ss start end = forms_by marks ss start end

-- ---- a row's totals as they are counted

-- the totals of the phases stand first, each at its number; then what lies outside coverage, and what lies in no segment
abbrev pub unknown_slot : ℕ
unknown_slot = 8

abbrev pub nowhere_slot : ℕ
nowhere_slot = 9

-- the kind of mark that the i-th total counts, but for the last
abbrev pub kind_at : ℕ → Mark → Bool
kind_at i m = cond (eqb i unknown_slot) (is_unknown m) (is_phase i m)

-- a mark is counted at its slot; a phase is one of eight
abbrev pub slot_of : Mark → ℕ
slot_of (phase p e) = p
slot_of unknown = unknown_slot

abbrev pub Low : Mark → Type 0
Low (phase p e) = p < unknown_slot
Low unknown = Unit {0}

pub record Slot (m : Mark) (j : ℕ) : Type 0 where
  pub is : j ≡ slot_of m
  pub low : Low m

-- as it begins: all of it lies in no segment
abbrev pub fresh : ℕ → List ℕ
fresh n = 0 ∷ 0 ∷ 0 ∷ 0 ∷ 0 ∷ 0 ∷ 0 ∷ 0 ∷ 0 ∷ n ∷ []

abbrev pub shifted : List ℕ → ℕ → ℕ → List ℕ
shifted row j n = set (set row j (get_or row j 0 + n)) nowhere_slot (get_or row nowhere_slot 0 - n)

-- `all` are a window's stretches, `left` those that are still to come
pub record RowFilled (all left : List (Span Mark)) (a b : ℕ) (row : List ℕ) : Type 0 where
  pub long : length row ≡ many_totals
  pub each : (i : ℕ) → i < nowhere_slot → get_or row i 0 + total marks (kind_at i) a b left ≡ total marks (kind_at i) a b all
  pub rest : get_or row nowhere_slot 0 ≡ ((b - a) - total marks any_mark a b all) + total marks any_mark a b left

-- ---- stretches in order

-- each begins at t or later
abbrev pub Ahead : ℕ → List (Span Mark) → Type 0
Ahead t [] = Unit {0}
Ahead t (s ∷ ss) = (t ≤ s.from) × Ahead t ss

-- each ends at `end` or before, and before the next begin
abbrev pub Ordered : ℕ → List (Span Mark) → Type 0
Ordered end [] = Unit {0}
Ordered end (s ∷ ss) = (s.to ≤ end) × Ahead s.to ss × Ordered end ss

-- ---- the pages: rows that are written, and the row that is open

abbrev pub day_forms : List (Span Mark) → ℕ → ℕ → ℕ → List Form
day_forms all n end at = map (day_form marks all) (rows_from n end at)

-- the row that is open is from a to b, and its record will stand at `at`
pub record OpenAt (all left : List (Span Mark)) (start end : ℕ) (room : List ℕ) (a b at : ℕ) (row now : List ℕ) : Type 0 where
  pub small : (k : Mark → Bool) (x y : ℕ) → total marks k x y all ≤ y - x
  pub ordered : Ordered end left
  pub later : (k : Mark → Bool) (x y : ℕ) → b ≤ x → total marks k x y left ≡ total marks k x y all
  pub filled : RowFilled all left a b row
  pub edge : b ≡ row_end end a
  pub inside : a < end
  pub done : List Form
  pub fuel : ℕ
  pub enough : end ≤ a + fuel * day_ns
  pub same : map (day_form marks all) (rows_of start end) ≡ done ++ day_forms all fuel end a
  pub put : Put room 0 (encode_all done) at now at
  pub fits : length (encode_all (raw_forms all start end)) ≤ length room

-- and the closing totals
pub record Standing (all left : List (Span Mark)) (start end : ℕ) (room now : List ℕ) (p : OpenRow) (row whole : List ℕ) : Type 0 where
  pub current : OpenAt all left start end room p.start.0 p.end.0 p.at row now
  pub closing : RowFilled all left start end whole

-- ---- a stretch

-- how much of the row from a to before b lies from `from` to before `to`
abbrev pub part_of : ℕ → ℕ → ℕ → ℕ → ℕ
part_of a b from to = min b to - max a from

-- the open row from a to before b, its totals, and the bytes, where its record will stand at `at`
pub record Sheet : Type 0 where
  pub a : ℕ
  pub b : ℕ
  pub at : ℕ
  pub row : List ℕ
  pub bytes : List ℕ

abbrev pub sheet_of : OpenRow → List ℕ → List ℕ → Sheet
sheet_of p row now = record { a = p.start.0; b = p.end.0; at = p.at; row = row; bytes = now }

-- a stretch is counted in the open row; if the row ends before the stretch does it is written, and the stretch is counted in the next. In n rows at most
unfoldable pub rolled : ℕ → ℕ → ℕ → ℕ → ℕ → Sheet → Option Sheet
rolled zero end from to slot s = None
rolled (suc n) end from to slot s =
    let row = shifted s.row slot (part_of s.a s.b from to) in
    let b = row_end end s.b in
    let bytes = wrote s.bytes s.at (encode (day (totals_of s.a s.b row))) in
    cond (leb to s.b) (Some (record { a = s.a; b = s.b; at = s.at; row = row; bytes = s.bytes }))
    (rolled n end from to slot (record { a = s.b; b = b; at = s.at + row_size; row = fresh (b - s.b); bytes = bytes }))

pub record Coming (now : List ℕ) (p : OpenRow) (start end from to slot : ℕ) (row whole : List ℕ) : Type 0 where
  pub all : List (Span Mark)
  pub left : List (Span Mark)
  pub room : List ℕ
  pub mark : Mark
  pub is : Slot mark slot
  pub stands : Standing all (stretch_of from to mark ∷ left) start end room now p row whole

pub record Counted (now : List ℕ) (p : OpenRow) (start end from to slot : ℕ) (row whole now' : List ℕ) (p' : OpenRow) (row' whole' : List ℕ) : Type 0 where
  pub on : (all left : List (Span Mark)) (room : List ℕ) (mark : Mark) → Slot mark slot
      → Standing all (stretch_of from to mark ∷ left) start end room now p row whole
      → Standing all left start end room now' p' row' whole'
  pub reached : to ≤ p'.end.0
  pub kept : length now' ≡ length now
  pub fuel : ℕ
  pub rolls : rolled fuel end from to slot (sheet_of p row now) ≡ Some (sheet_of p' row' now')
  pub closes : whole' ≡ shifted whole slot (part_of start end from to)

-- ---- the end

pub record Ending (now : List ℕ) (p : OpenRow) (start end : ℕ) (row whole : List ℕ) : Type 0 where
  pub all : List (Span Mark)
  pub room : List ℕ
  pub stands : Standing all [] start end room now p row whole

pub record Ended (now : List ℕ) (p : OpenRow) (start end : ℕ) (row whole now' : List ℕ) (r : ℕ) : Type 0 where
  pub on : (all : List (Span Mark)) (room : List ℕ) → Standing all [] start end room now p row whole
      → Put room 0 (encode_all (raw_forms all start end)) r now' r
  pub kept : length now' ≡ length now

-- ---- the start

pub record First (start end : ℕ) (p : OpenRow) (row whole : List ℕ) : Type 0 where
  pub begins : p.start.0 ≡ start
  pub ends : p.end.0 ≡ row_end end start
  pub placed : p.at ≡ 0
  pub fresh_row : row ≡ fresh (row_end end start - start)
  pub fresh_whole : whole ≡ fresh (end - start)
