-- Cells, stretch by stretch. Assumes nothing.
use mathlib.Core.Path.{◌≡◌, refl, sym, ap, ap₂, ◌∙◌, subst}
use mathlib.Core.Bool.{true}
use mathlib.Core.List.{List, [], ◌∷◌, ◌++◌}
use Rattle.std.specs.Prelude.{None, Some}
use Prim.Native.Nat.{ℕ, zero, suc, ◌+◌, ◌-◌, ◌^◌, ◌≤◌, ◌<◌}
use native.Mathlib.Nat.{zero-add, add-zero, suc-add}
use native.Mathlib.Decide.{dec_lt}
use native.Mathlib.Omega.{arith}
use lib.ListN.{length, get_or, set, length-set, length-append}
use Rattle.wire.specs.Fields.{wrote}
use Rattle.wire.proofs.Writing.{wrote_length, wrote_wrote, wrote_one, wrote_nothing}
use Rattle.spans.specs.Spans.{Span, look, Within}
use Rattle.spans.proofs.Lists.{look_in, look_late, before}
use Rattle.rows.specs.Rows as Rows
use Rattle.rows.specs.Rows.{good_row, segments, segments_at, shown_at}
use Rattle.rows.specs.Telling.{mark_of, segment_of, span_of, end_of}
use Rattle.rows.specs.declared.RowSegment.{RowSegment}
use Rattle.rows.proofs.Laws.{good_within, InRow, row_in, Segmented, row_on, row_split}
use Rattle.board.specs.Cells.{cell_instant, phase_glyph, glyph, cell_or, cell, cells_from, drawn}
use Rattle.board.specs.Private.{Good, alike, CellsFilled}
use Rattle.board.specs.declared.grid.Grid.{Grid}
use Rattle.board.proofs.Columns.{instant_rises, instant_in}

-- ---- glyphs

past : (l : List ℕ) (p d : ℕ) → length l ≤ p → get_or l p d ≡ d
past [] p d h = refl
past (x ∷ l) zero d h = absurd (omega arith)
past (x ∷ l) (suc p) d h = past l p d (omega arith)

-- none of the eight
pub glyph_other : (p : ℕ) → 8 ≤ p → 42 ≡ phase_glyph p
unfolding phase_glyph
glyph_other p h = sym (past (46 ∷ 45 ∷ 61 ∷ 35 ∷ 58 ∷ 61 ∷ 95 ∷ 33 ∷ []) p 42 h)

-- ---- writing

pub set_wrote : (l : List ℕ) (at v : ℕ) → at < length l → set l at v ≡ wrote l at (v ∷ [])
set_wrote l at v h = sym (wrote_one l at v [] (omega arith) ∙ wrote_nothing (set l at v) (at + 1))

module _ (g : Grid) (byte : ℕ) where
  alike_length : (n c : ℕ) → length (alike g byte n c) ≡ n
  unfolding alike
  alike_length zero c = refl
  alike_length (suc n) c = ap suc (alike_length n (suc c))

  alike_more : (n c : ℕ) → alike g byte (suc n) c ≡ alike g byte n c ++ cell_or g.marker (c + n) byte ∷ []
  unfolding alike
  alike_more zero c = ap (λ (x : ℕ). cell_or g.marker x byte ∷ []) (sym (add-zero c))
  alike_more (suc n) c =
      ap (λ (l : List ℕ). cell_or g.marker c byte ∷ l)
      (alike_more n (suc c) ∙ ap (λ (x : ℕ). alike g byte n (suc c) ++ cell_or g.marker x byte ∷ []) (omega arith))

-- the cells from `first` to before c are filled
pub record Filling (g : Grid) (first limit byte : ℕ) (old new : List ℕ) (c : ℕ) : Type 0 where
  pub same : new ≡ wrote old (1 + first) (alike g byte (c - first) first)
  pub after : first ≤ c
  pub inside : c ≤ g.columns
  pub kept : length new ≡ length old
  pub before : (i : ℕ) → first ≤ i → i < c → cell_instant g i < limit

module _ (g : Grid) (o : Good g) (first limit byte : ℕ) (old : List ℕ) (room : g.columns + 2 ≤ length old) where
  pub fill_start : first ≤ g.columns → Filling g first limit byte old old first
  unfolding alike
  fill_start h =
      let z : first - first ≡ 0 = omega arith in
      record {
        same = sym (ap (λ (n : ℕ). wrote old (1 + first) (alike g byte n first)) z ∙ wrote_nothing old (1 + first));
        after = omega arith;
        inside = h;
        kept = refl;
        before = λ i a b. absurd (omega arith);
      }

  module _ (new : List ℕ) (c : ℕ) (f : Filling g first limit byte old new c) where
    pub fill_one : c < g.columns → (t : ℕ) → t ≡ cell_instant g c → t < limit → (v : ℕ) → v ≡ cell_or g.marker c byte
        → (d : ℕ) → d ≡ c + 1 → Filling g first limit byte old (set new (1 + c) v) d
    fill_one h t e l v q d j =
        let n = c - first in
        let a = f.after in
        let k = f.kept in
        let z : d - first ≡ suc n = omega arith in
        let w : first + n ≡ c = omega arith in
        let y : 1 + c ≡ 1 + first + length (alike g byte n first) = omega (arith, alike_length g byte n first) in
        let one : set new (1 + c) v ≡ wrote new (1 + c) (v ∷ []) = set_wrote new (1 + c) v (omega arith) in
        let both : wrote (wrote old (1 + first) (alike g byte n first)) (1 + c) (v ∷ []) ≡ wrote old (1 + first) (alike g byte n first ++ v ∷ []) =
        wrote_wrote old (1 + first) (1 + c) (alike g byte n first) (v ∷ []) y (omega arith) in
        let more : alike g byte n first ++ v ∷ [] ≡ alike g byte (d - first) first =
        ap (λ (x : ℕ). alike g byte n first ++ x ∷ []) (q ∙ ap (λ (x : ℕ). cell_or g.marker x byte) (sym w))
        ∙ sym (alike_more g byte n first) ∙ ap (λ (m : ℕ). alike g byte m first) (sym z) in
        record {
          same = one ∙ ap (λ (s : List ℕ). wrote s (1 + c) (v ∷ [])) f.same ∙ both ∙ ap (wrote old (1 + first)) more;
          after = omega arith;
          inside = omega arith;
          kept = length-set new (1 + c) v ∙ k;
          before = λ i p r. until i p r;
        }
      where
        until : (i : ℕ) → first ≤ i → i < d → cell_instant g i < limit
        until i p r = go (dec_lt i c)
          where
            go : Dec (i < c) → cell_instant g i < limit
            go (yes b) = f.before i p b
            go (no b) = let z : i ≡ c = omega (arith, j, r, b) in rw z (omega (arith, e, l))

    pub fill_limit : (t : ℕ) → t ≡ cell_instant g c → limit ≤ t → CellsFilled g first limit byte old new c
    fill_limit t e l =
        record {
          same = f.same;
          after = f.after;
          inside = f.inside;
          kept = f.kept;
          before = f.before;
          behind = λ i a b. let r = instant_rises g o c i a in omega arith;
        }

    pub fill_end : g.columns ≤ c → CellsFilled g first limit byte old new c
    fill_end h =
        record {
          same = f.same;
          after = f.after;
          inside = f.inside;
          kept = f.kept;
          before = f.before;
          behind = λ i a b. absurd (omega arith);
        }

-- ---- drawing

module _ (g : Grid) (ss : List (Span Rows.Seen)) where
  pub cells_length : (n c : ℕ) → length (cells_from g ss n c) ≡ n
  unfolding cells_from
  cells_length zero c = refl
  cells_length (suc n) c = ap suc (cells_length n (suc c))

  cells_split : (n m c : ℕ) → cells_from g ss (n + m) c ≡ cells_from g ss n c ++ cells_from g ss m (c + n)
  unfolding cells_from
  cells_split zero m c = ap₂ (cells_from g ss) (zero-add m) (sym (add-zero c))
  cells_split (suc n) m c =
      ap (λ (x : ℕ). cells_from g ss x c) (suc-add n m)
      ∙ ap (λ (l : List ℕ). cell g ss c ∷ l) (cells_split n m (suc c) ∙ ap (λ (x : ℕ). cells_from g ss n (suc c) ++ cells_from g ss m x) (omega arith))

  -- cells that show the same
  cells_alike : (byte n c : ℕ) → ((i : ℕ) → c ≤ i → i < c + n → glyph (shown_at ss (cell_instant g i)) ≡ byte) → cells_from g ss n c ≡ alike g byte n c
  unfolding cells_from alike
  cells_alike byte zero c e = refl
  cells_alike byte (suc n) c e =
      ap₂ (λ (x : ℕ) (l : List ℕ). cell_or g.marker c x ∷ l) (e c (omega arith) (omega arith))
      (cells_alike byte n (suc c) (λ i a b. e i (omega arith) (omega arith)))

-- the cells up to c are drawn
pub record Painted (g : Grid) (ss : List (Span Rows.Seen)) (old new : List ℕ) (c : ℕ) : Type 0 where
  pub same : new ≡ wrote old 1 (cells_from g ss c 0)
  pub inside : c ≤ g.columns
  pub kept : length new ≡ length old

module _ (g : Grid) (ss : List (Span Rows.Seen)) (old : List ℕ) (room : g.columns + 2 ≤ length old) where
  pub paint_start : Painted g ss old old 0
  unfolding cells_from
  paint_start = record { same = sym (wrote_nothing old 1); inside = omega arith; kept = refl }

  pub paint_more : (new : List ℕ) (c : ℕ) → Painted g ss old new c → (limit byte : ℕ) (newer : List ℕ) (d : ℕ) → CellsFilled g c limit byte new newer d
      → ((i : ℕ) → c ≤ i → i < d → glyph (shown_at ss (cell_instant g i)) ≡ byte) → Painted g ss old newer d
  paint_more new c p limit byte newer d f e =
      let n = d - c in
      let a = f.after in
      let b = f.inside in
      let z : c + n ≡ d = omega arith in
      let y : 1 + c ≡ 1 + length (cells_from g ss c 0) = omega (arith, cells_length g ss c 0) in
      let w : alike g byte n c ≡ cells_from g ss n c = sym (cells_alike g ss byte n c (λ i s t. e i s (omega arith))) in
      let long : length (cells_from g ss n c) ≡ n = cells_length g ss n c in
      let one : cells_from g ss c 0 ++ cells_from g ss n c ≡ cells_from g ss d 0 =
      sym (cells_split g ss c n 0 ∙ ap (λ (x : ℕ). cells_from g ss c 0 ++ cells_from g ss n x) (zero-add c))
      ∙ ap (λ (x : ℕ). cells_from g ss x 0) z in
      record {
        same = f.same ∙ ap (wrote new (1 + c)) w ∙ ap (λ (s : List ℕ). wrote s (1 + c) (cells_from g ss n c)) p.same
            ∙ wrote_wrote old 1 (1 + c) (cells_from g ss c 0) (cells_from g ss n c) y (omega arith) ∙ ap (wrote old 1) one;
        inside = b;
        kept = f.kept ∙ p.kept;
      }

-- the segments from a place on show what all show, from the cell c on
pub record Ahead (g : Grid) (s : List ℕ) (at c : ℕ) : Type 0 where
  pub rest : (i : ℕ) → c ≤ i → i < g.columns → shown_at (segments s) (cell_instant g i) ≡ shown_at (segments_at s at) (cell_instant g i)
  pub low : ℕ
  pub order : Within low (2 ^ 64) (segments_at s at)
  pub on : InRow s at

pub record Drawing (g : Grid) (s old new : List ℕ) (at c : ℕ) : Type 0 where
  pub painted : Painted g (segments s) old new c
  pub ahead : Ahead g s at c

module _ (g : Grid) (o : Good g) (s old : List ℕ) (room : g.columns + 2 ≤ length old) where
  pub draw_start : good_row s ≡ true → Drawing g s old old 0 0
  draw_start e =
      record {
        painted = paint_start g (segments s) old room;
        ahead = record { rest = λ i a b. refl; low = 0; order = good_within s e; on = row_in s e };
      }

  module _ (new : List ℕ) (at c : ℕ) (d : Drawing g s old new at c) where
    -- nothing more stands in the row: the other cells are blank
    module _ (none_left : segments_at s at ≡ []) (newer : List ℕ) (r : ℕ) (f : CellsFilled g c (2 ^ 64 - 1) (glyph None) new newer r) where
      pub all_filled : r ≡ g.columns
      all_filled = go (dec_lt r g.columns)
        where
          go : Dec (r < g.columns) → r ≡ g.columns
          go (yes h) =
              let a = f.behind r (omega arith) h in
              let b = instant_in g o r h in
              let e = o.end in
              absurd (omega arith)
          go (no h) = let i = f.inside in omega arith

      blank : (i : ℕ) → c ≤ i → i < r → glyph (shown_at (segments s) (cell_instant g i)) ≡ glyph None
      unfolding look
      blank i a b =
          let h = f.inside in
          ap glyph (d.ahead.rest i a (omega arith) ∙ ap (λ (ss : List (Span Rows.Seen)). shown_at ss (cell_instant g i)) none_left)

      pub draw_blank : Drawing g s old newer at r
      draw_blank =
          let z = all_filled in
          record {
            painted = paint_more g (segments s) old room new c d.painted (2 ^ 64 - 1) (glyph None) newer r f blank;
            ahead = record { rest = λ i a b. absurd (omega arith); low = d.ahead.low; order = d.ahead.order; on = d.ahead.on };
          }

    -- a segment: blank up to it, then its glyph
    module _ (x : RowSegment) (is : x ≡ segment_of s at) (t : Segmented s at) (mid newer : List ℕ) (held r : ℕ) (byte : ℕ)
        (f : CellsFilled g c x.from.0 (glyph None) new mid held) (e : byte ≡ glyph (Some (mark_of x.shows)))
        (h : CellsFilled g held x.to.0 byte mid newer r) where
      abbrev span : Span Rows.Seen
      span = span_of s x

      abbrev rest : List (Span Rows.Seen)
      rest = segments_at s (end_of x)

      order : Within d.ahead.low (2 ^ 64) (span ∷ rest)
      order = subst (Within d.ahead.low (2 ^ 64)) (row_split t is) d.ahead.order

      by : (i : ℕ) → c ≤ i → i < g.columns → shown_at (segments s) (cell_instant g i) ≡ shown_at (span ∷ rest) (cell_instant g i)
      by i a b = d.ahead.rest i a b ∙ ap (λ (ss : List (Span Rows.Seen)). shown_at ss (cell_instant g i)) (row_split t is)

      early : (i : ℕ) → c ≤ i → i < held → glyph (shown_at (segments s) (cell_instant g i)) ≡ glyph None
      early i a b =
          let k = f.inside in
          let l = f.before i a b in
          let w = order in
          let m : Within x.from.0 (2 ^ 64) (span ∷ rest) = (omega arith, w.1, w.2) in
          ap glyph (by i a (omega arith) ∙ before (λ (y : Rows.Seen). y.mark) (cell_instant g i) x.from.0 (2 ^ 64) (span ∷ rest) l m)

      inner : (i : ℕ) → held ≤ i → i < r → glyph (shown_at (segments s) (cell_instant g i)) ≡ byte
      inner i a b =
          let k = f.after in
          let n = h.inside in
          let l = h.before i a b in
          let m = f.behind i a (omega arith) in
          ap glyph (by i (omega arith) (omega arith) ∙ look_in (λ (y : Rows.Seen). y.mark) (cell_instant g i) span rest m l) ∙ sym e

      late : (i : ℕ) → r ≤ i → i < g.columns → shown_at (segments s) (cell_instant g i) ≡ shown_at rest (cell_instant g i)
      late i a b =
          let k = f.after in
          let n = h.after in
          let l = h.behind i a b in
          by i (omega arith) b ∙ look_late (λ (y : Rows.Seen). y.mark) (cell_instant g i) span rest l

      pub draw_on : Drawing g s old newer (end_of x) r
      draw_on =
          record {
            painted = paint_more g (segments s) old room mid held (paint_more g (segments s) old room new c d.painted x.from.0 (glyph None) mid held f early)
                x.to.0 byte newer r h inner;
            ahead = record { rest = late; low = x.to.0; order = order.2; on = row_on t is };
          }

-- brackets enclose
pub enclosed : (g : Grid) (ss : List (Span Rows.Seen)) (old mid : List ℕ) → g.columns + 2 ≤ length old
    → mid ≡ wrote (set old 0 91) 1 (cells_from g ss g.columns 0)
    → (n : ℕ) → n ≡ 1 + g.columns → set mid n 93 ≡ wrote old 0 (drawn g ss)
enclosed g ss old mid room e n q =
    let cs = cells_from g ss g.columns 0 in
    let l : length cs ≡ g.columns = cells_length g ss g.columns 0 in
    let first : set old 0 91 ≡ wrote old 0 (91 ∷ []) = set_wrote old 0 91 (omega arith) in
    let two : mid ≡ wrote old 0 (91 ∷ cs) =
    e ∙ ap (λ (s : List ℕ). wrote s 1 cs) first ∙ wrote_wrote old 0 1 (91 ∷ []) cs refl (omega arith) in
    let k : length mid ≡ length old = ap length two ∙ wrote_length old 0 (91 ∷ cs) (omega arith) in
    set_wrote mid n 93 (omega arith) ∙ ap (λ (s : List ℕ). wrote s n (93 ∷ [])) two
    ∙ wrote_wrote old 0 n (91 ∷ cs) (93 ∷ []) (omega arith) (omega arith)

pub drawn_length : (g : Grid) (ss : List (Span Rows.Seen)) → length (drawn g ss) ≡ g.columns + 2
drawn_length g ss =
    let l = cells_length g ss g.columns 0 in
    let k = length-append (cells_from g ss g.columns 0) (93 ∷ []) in
    omega arith

-- the byte behind the opening bracket and c others is the cell c
pub cell_at : (g : Grid) (ss : List (Span Rows.Seen)) (c : ℕ) → c < g.columns → get_or (drawn g ss) (suc c) 0 ≡ cell g ss c
unfolding cells_from
cell_at g ss c h = from g.columns 0 c h ∙ ap (cell g ss) (zero-add c)
  where
    from : (n at i : ℕ) → i < n → get_or (cells_from g ss n at ++ 93 ∷ []) i 0 ≡ cell g ss (at + i)
    from zero at i h = absurd (omega arith)
    from (suc n) at zero h = ap (cell g ss) (sym (add-zero at))
    from (suc n) at (suc i) h = from n (suc at) i (omega arith) ∙ ap (cell g ss) (omega arith)
