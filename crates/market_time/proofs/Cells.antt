-- Every cell of a plain window's own timeline, but for the marker's, shows the point answer at its instant. Assumes nothing.
use mathlib.Core.Path.{◌≡◌, sym, ap, ◌∙◌}
use mathlib.Core.Bool.{Bool, cond}
use mathlib.Core.List.{List}
use Prim.Native.Nat.{ℕ, suc, ◌+◌, ◌-◌, ◌<◌}
use native.Mathlib.Omega.{arith}
use borrow.Author.Tests.{le-leb, lt-ltb, ne_eqb}
use lib.IntN.{ℤ}
use lib.ListN.{get_or}
use lib.Signed.{le_z, lt_z}
use mir.Syntax.{w64}
use Rattle.wire.specs.Signs.{placed, meant}
use Rattle.wire.proofs.Signs.{placed_meant, order_lt, order_le}
use Rattle.zone.proofs.Domain.{instant_zero, instant_placed}
use Rattle.records.specs.Records.{Coverage}
use Rattle.records.specs.Valid.{Bytes}
use Rattle.spans.specs.Spans.{look}
use Rattle.query.proofs.Order.{GivenBack, window_passed}
use Rattle.rows.specs.Rows as Rows
use Rattle.timeline.specs.Asking.{window_answer}
use Rattle.point.specs.Asking.{point_answer}
use Rattle.point.specs.Said.{point_said}
use Rattle.plain.specs.Books.{Plain}
use Rattle.agreement.specs.Books.{Names, Between, Agreed}
use Rattle.board.specs.Cells.{columns_of, cell_instant, glyph, marker_column, grid_of, cells_answer}
use Rattle.board.proofs.Columns.{columns_some, floor_less}
use Rattle.board.proofs.Drawn.{cell_at}
use Rattle.zone.specs.Units.{instant_of}
use Rattle.book_query.specs.Judging.{window_number}
use Rattle.rows.specs.Rows.{shown_in}
use Rattle.market_time.proofs.Plain.{passes, timeline_is_points}

-- an integer that its instant gives back, placed
placed_kept : (z : ℤ) → GivenBack z → (z ≡ meant w64 (instant_of z + instant_zero)) × (placed w64 z ≡ instant_of z + instant_zero)
placed_kept z k =
    let m = sym k ∙ instant_placed (instant_of z) in
    (m, ap (placed w64) m ∙ placed_meant w64 (instant_of z + instant_zero))

module _ (s : List ℕ) (b : Bytes s) (c : Coverage) (named : Names s c) (start end : ℤ) (answered : window_number s start end ≡ 0) (plain : Plain s start end)
    (columns : ℤ) (marked : Bool) (at : ℤ) where
  -- the instant that a cell shows, placed and as an integer, and the marker's column
  abbrev cell_placed : ℕ → ℕ
  cell_placed i = cell_instant (grid_of (placed w64 start) (placed w64 end) (columns_of columns) marked (placed w64 at)) i

  abbrev pub cell_time : ℕ → ℤ
  cell_time i = meant w64 (cell_placed i)

  abbrev pub marker : ℕ
  marker = marker_column (placed w64 start) (placed w64 end) (columns_of columns) marked (placed w64 at)

  pub record CellSays (i : ℕ) : Type 0 where
    pub drawn : get_or (cells_answer (window_answer s start end) start end columns marked at) (suc i) 0 ≡ glyph (shown_in (window_answer s start end) (cell_time i))
    pub inside : Between start end (cell_time i)
    pub agrees : Agreed s c (cell_time i) (shown_in (window_answer s start end) (cell_time i)) (point_said (point_answer s (cell_time i)))

  module _ (i : ℕ) (h : i < columns_of columns) where
    in_window : Between start end (cell_time i)
    in_window =
        let w = window_passed start end (passes s b c named start end answered) in
        let p = placed_kept start w.start_number in
        let q = placed_kept end w.end_number in
        let x = cell_placed i in
        let long : 0 < placed w64 end - placed w64 start = omega (arith, p.1, q.1, w.order) in
        let less = floor_less (placed w64 end - placed w64 start) (columns_of columns) (omega (arith, columns_some columns)) i h long in (
          ap (λ (z : ℤ). le_z z (cell_time i)) p.0 ∙ order_le w64 (instant_of start + instant_zero) x ∙ le-leb (instant_of start + instant_zero) x (omega (arith, p.1)),
          ap (lt_z (cell_time i)) q.0 ∙ order_lt w64 x (instant_of end + instant_zero) ∙ lt-ltb x (instant_of end + instant_zero) (omega (arith, p.1, q.1, less)),
        )

    -- but for the marker's
    pub cells_are_points : (i ≡ marker → ⊥) → CellSays i
    unfolding cells_answer
    cells_are_points f =
        let ss = Rows.segments (window_answer s start end) in
        let x = cell_placed i in
        record {
          drawn =
              cell_at (grid_of (placed w64 start) (placed w64 end) (columns_of columns) marked (placed w64 at)) ss i h
              ∙ ap (λ (q : Bool). cond q 124 (glyph (look (λ (y : Rows.Seen). y.mark) ss x))) (ne_eqb i marker f)
              ∙ ap (λ (t : ℕ). glyph (look (λ (y : Rows.Seen). y.mark) ss t)) (sym (placed_meant w64 x));
          inside = in_window;
          agrees = timeline_is_points s b c named start end answered (cell_time i) in_window plain;
        }
