-- The reply beside the cells, by the order of the numbers. Assumes nothing.
use mathlib.Core.Path.{◌≡◌, refl, sym, ap, ◌∙◌}
use mathlib.Core.Bool.{Bool, true, false, not, cond, ◌&&◌}
use mathlib.Core.List.{List}
use Prim.Native.Nat.{ℕ, ◌+◌, ◌-◌, ◌≤◌, ◌<◌}
use native.Mathlib.Omega.{arith}
use borrow.Author.Tests.{lt-ltb, le-ltb, eq-eqb, ne_eqb}
use lib.Dec.{eqb}
use lib.IntN.{ℤ}
use lib.ListN.{length, set}
use mir.Syntax.{w64}
use Rattle.std.specs.Prelude.{Ok, Err}
use Rattle.wire.specs.Fields.{wrote}
use Rattle.wire.specs.Signs.{placed}
use Rattle.wire.proofs.Signs.{placed_meant}
use Rattle.zone.specs.declared.Interval.{Interval}
use Rattle.zone.proofs.Domain.{instant_zero}
use Rattle.records.specs.Book.{inside, instants}
use Rattle.query.specs.Judging.{window_refusal, window_of}
use Rattle.query.proofs.Instants.{instant_meant}
use Rattle.query.proofs.Windows.{window_between, window_refused}
use Rattle.lend.specs.Lending.{Lent}
use Rattle.lend.specs.declared.Reply.{Reply}
use Rattle.lend.proofs.Replies.{lent_refused, lent_short, lent_written, lent_same}
use Rattle.rows.specs.Rows.{good_row, segments}
use Rattle.zone.specs.Units.{instant_of}
use Rattle.board.specs.Cells.{columns_of, cells_from, marker_column, grid_of, drawn, text, judged_cells, cells_number, cells_answer, most_columns}
use Rattle.board.specs.declared.grid.Grid.{Grid}
use Rattle.board.proofs.Drawn.{enclosed, drawn_length}

-- ---- of a window that passes

abbrev pub made_grid : ℕ → ℕ → ℕ → ℕ → Grid
made_grid start end many marker = record { start = start; span = end - start; columns = many; marker = marker }

module _ (row : List ℕ) (start end : ℕ) (columns : ℤ) (marked : Bool) (at : ℕ) (room : List ℕ) (many : ℕ) (e : many ≡ columns_of columns) where
  pub told_many : most_columns < many → Lent (judged_cells row columns) (text row start end columns marked at) room room (record { number = 14; length = 0 })
  told_many h =
      let l : most_columns < columns_of columns = omega arith in
      let n : 14 ≡ judged_cells row columns = simp (lt-ltb most_columns (columns_of columns) l) in
      lent_same (lent_refused (text row start end columns marked at) room {number = 14} (λ z. omega arith)) n refl

  module _ (h : many ≤ most_columns) where
    few : columns_of columns ≤ most_columns
    few = omega arith

    pub told_bad : good_row row ≡ false → Lent (judged_cells row columns) (text row start end columns marked at) room room (record { number = 15; length = 0 })
    told_bad g =
        let n : 15 ≡ judged_cells row columns = simp (le-ltb most_columns (columns_of columns) few, g) in
        lent_same (lent_refused (text row start end columns marked at) room {number = 15} (λ z. omega arith)) n refl

    module _ (g : good_row row ≡ true) where
      passes : judged_cells row columns ≡ 0
      passes = simp (le-ltb most_columns (columns_of columns) few, g)

      long : length (text row start end columns marked at) ≡ columns_of columns + 2
      long = drawn_length (grid_of start end (columns_of columns) marked at) (segments row)

      pub told_short : length room < many + 2
          → Lent (judged_cells row columns) (text row start end columns marked at) room room (record { number = 16; length = 0 })
      told_short l = lent_short (text row start end columns marked at) room passes (omega (arith, long))

      pub told : many + 2 ≤ length room → (m : ℕ) → m ≡ marker_column start end many marked at
          → (mid : List ℕ) → mid ≡ wrote (set room 0 91) 1 (cells_from (made_grid start end many m) (segments row) many 0)
          → Lent (judged_cells row columns) (text row start end columns marked at) room (set mid (many + 2 - 1) 93) (record { number = 0; length = many + 2 })
      told l m q mid w =
          let k : made_grid start end many m ≡ grid_of start end (columns_of columns) marked at =
          ap (made_grid start end many) q ∙ ap (λ (x : ℕ). made_grid start end x (marker_column start end x marked at)) e in
          let z : set mid (many + 2 - 1) 93 ≡ wrote room 0 (drawn (made_grid start end many m) (segments row)) =
          enclosed (made_grid start end many m) (segments row) room mid l w (many + 2 - 1) (omega arith) in
          lent_written (text row start end columns marked at) room passes (omega (arith, long))
          (z ∙ ap (λ (g : Grid). wrote room 0 (drawn g (segments row))) k) {n = many + 2} (omega (arith, long))

-- ---- of any window

pub placed_in : (z : ℤ) → inside instants z ≡ true → placed w64 z ≡ instant_of z + instant_zero
placed_in z e = ap (placed w64) (sym (instant_meant z e)) ∙ placed_meant w64 (instant_of z + instant_zero)

-- a now that passes, or does not
pub now_passes : (outside : Bool) → ◌≡◌ {A = ℕ} 0 (cond outside 10 0) → outside ≡ false
now_passes true e = absurd (omega arith)
now_passes false e = refl

module _ (row : List ℕ) (start end columns : ℤ) (marked : Bool) (at : ℤ) (room : List ℕ) where
  pub cells_outside : {k : ℕ} → k ≡ cond (marked && not (inside instants at)) 10 0 → (k ≡ 0 → ⊥)
      → Lent (cells_number row start end columns marked at) (cells_answer row start end columns marked at) room room (record { number = k; length = 0 })
  unfolding cells_number
  cells_outside {k} e some = go (marked && not (inside instants at)) refl e
    where
      go : (outside : Bool) → (marked && not (inside instants at)) ≡ outside → k ≡ cond outside 10 0
          → Lent (cells_number row start end columns marked at) (cells_answer row start end columns marked at) room room (record { number = k; length = 0 })
      go true h i =
          let n : k ≡ cells_number row start end columns marked at = simp h i in
          lent_same (lent_refused (cells_answer row start end columns marked at) room {number = k} some) n refl
      go false h i = absurd (some i)

  module _ (h : (marked && not (inside instants at)) ≡ false) where
    pub cells_refused : {k : ℕ} → Err k ≡ window_of start end
        → Lent (cells_number row start end columns marked at) (cells_answer row start end columns marked at) room room (record { number = k; length = 0 })
    unfolding cells_number
    cells_refused {k} w =
        let v = window_refused start end w in
        let e : eqb (window_refusal start end) 0 ≡ false = ne_eqb (window_refusal start end) 0 (λ z. v.1 (v.0 ∙ z)) in
        let n : k ≡ cells_number row start end columns marked at = simp (h, e) v.0 in
        lent_same (lent_refused (cells_answer row start end columns marked at) room {number = k} v.1) n refl

    module _ {asked : Interval} (w : Ok asked ≡ window_of start end) where
      pub placed_order : placed w64 start < placed w64 end
      placed_order =
          let v = window_between start end w in
          omega (arith, placed_in start v.start_in, placed_in end v.end_in, v.start, v.end, v.order)

      pub cells_told : (left : List ℕ) (r : Reply)
          → Lent (judged_cells row columns) (text row (placed w64 start) (placed w64 end) columns marked (placed w64 at)) room left r
          → Lent (cells_number row start end columns marked at) (cells_answer row start end columns marked at) room left r
      unfolding cells_number cells_answer
      cells_told left r t =
          let e : eqb (window_refusal start end) 0 ≡ true = eq-eqb (window_refusal start end) 0 (window_between start end w).passed in
          lent_same t (simp (h, e)) refl
