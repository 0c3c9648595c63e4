-- A row drawn as cells. Document 01, "Board". Instants are placed, so that they compare as numbers. Assumes nothing.
use Rattle.std.specs.Prelude.{ℕ, zero, suc, ◌+◌, ◌-◌, ◌*◌, ◌/◌, max, Bool, not, cond, ◌&&◌, List, [], ◌∷◌, ◌++◌, ltb, leb, eqb, ℤ, pos, negsuc, get_or}
use Rattle.std.specs.Prelude.{Option, None, Some}
use Rattle.std.specs.Int.{w64}
use Rattle.wire.specs.Signs.{placed}
use Rattle.records.specs.Book.{inside, instants, refuse, or_then}
use Rattle.spans.specs.Spans.{Mark, phase, unknown, Span}
use Rattle.query.specs.Judging.{window_refusal}
use Rattle.rows.specs.Rows.{Seen, segments, row_refusal, shown_at}
use Rattle.board.specs.declared.grid.Grid.{Grid}

abbrev pub fewest_columns : ℕ
fewest_columns = 12

abbrev pub most_columns : ℕ
most_columns = 512

-- columns below 12, negative ones too, become 12
abbrev pub columns_of : ℤ → ℕ
columns_of (pos n) = max fewest_columns n
columns_of (negsuc n) = fewest_columns

-- cell c shows the instant start + floor(span x c / columns)
abbrev pub cell_instant : Grid → ℕ → ℕ
cell_instant g c = g.start + g.span * c / g.columns

-- `.` `-` `=` `#` `:` `=` `_` `!` for the phases 0 to 7; `*`, the Rust's sign, for a phase that no good row has
unfoldable pub phase_glyph : ℕ → ℕ
phase_glyph p = get_or (46 ∷ 45 ∷ 61 ∷ 35 ∷ 58 ∷ 61 ∷ 95 ∷ 33 ∷ []) p 42

-- blank where nothing stands, `?` for unknown
abbrev pub glyph : Option Mark → ℕ
glyph None = 32
glyph (Some unknown) = 63
glyph (Some (phase p e)) = phase_glyph p

-- `|` in the marker's column
abbrev pub cell_or : ℕ → ℕ → ℕ → ℕ
cell_or marker c byte = cond (eqb c marker) 124 byte

abbrev pub cell : Grid → List (Span Seen) → ℕ → ℕ
cell g ss c = cell_or g.marker c (glyph (shown_at ss (cell_instant g c)))

-- n cells from the cell c on
unfoldable pub cells_from : Grid → List (Span Seen) → ℕ → ℕ → List ℕ
cells_from g ss zero c = []
cells_from g ss (suc n) c = cell g ss c ∷ cells_from g ss n (suc c)

-- floor(offset x columns / span) for a now inside the window; else `columns`, which is none of the columns
abbrev pub marker_column : ℕ → ℕ → ℕ → Bool → ℕ → ℕ
marker_column start end columns marked at =
    cond (marked && (leb start at && ltb at end)) ((at - start) * columns / (end - start)) columns

abbrev pub grid_of : ℕ → ℕ → ℕ → Bool → ℕ → Grid
grid_of start end columns marked at =
    record { start = start; span = end - start; columns = columns; marker = marker_column start end columns marked at }

-- the cells, enclosed by brackets
abbrev pub drawn : Grid → List (Span Seen) → List ℕ
drawn g ss = 91 ∷ (cells_from g ss g.columns 0 ++ 93 ∷ [])

abbrev pub text : List ℕ → ℕ → ℕ → ℤ → Bool → ℕ → List ℕ
text row start end columns marked at = drawn (grid_of start end (columns_of columns) marked at) (segments row)

-- 14: columns over 512; 15: bad bytes
abbrev pub judged_cells : List ℕ → ℤ → ℕ
judged_cells row columns = refuse (ltb most_columns (columns_of columns)) 14 (row_refusal row)

-- 10: an edge, or a now that counts, outside its range; 11 and 12 of the window; then the others
unfoldable pub cells_number : List ℕ → ℤ → ℤ → ℤ → Bool → ℤ → ℕ
cells_number row start end columns marked at =
    refuse (marked && not (inside instants at)) 10
    (or_then (window_refusal start end) (judged_cells row columns))

unfoldable pub cells_answer : List ℕ → ℤ → ℤ → ℤ → Bool → ℤ → List ℕ
cells_answer row start end columns marked at = text row (placed w64 start) (placed w64 end) columns marked (placed w64 at)
