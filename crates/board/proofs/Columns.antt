-- A window cut into columns: floors of products that may need more than 64 bits. Assumes nothing.
use mathlib.Core.Path.{◌≡◌, refl, sym, ap, ◌∙◌}
use mathlib.Core.Bool.{true}
use Prim.Native.Nat.{ℕ, suc, ◌+◌, ◌-◌, ◌*◌, ◌/◌, ◌%◌, ◌^◌, ◌≤◌, ◌<◌}
use native.Mathlib.Nat.{div-add-mod, mul-add-div, mul-add-mod_self_left, div-eq_of_lt, mod-eq_of_lt, zero-div, zero-mod, mod-lt}
use native.Mathlib.Nat.{div-le_of_le-mul, div-lt_iff_lt-mul, le-div_iff_mul-le, div-mul-le_self}
use native.Mathlib.Nat.{mul-add, add-mul, mul-zero, mul_comm, mul-suc, mul-le-mul_left, mul-le-mul_right, mul-lt-mul_of_pos_left, mul-lt-mul_of_pos_right}
use native.Mathlib.Decide.{dec_lt}
use native.Mathlib.Numerals.{add-one}
use native.Mathlib.Omega.{arith}
use borrow.Author.Tests.{le-leb, lt-ltb}
use lib.IntN.{ℤ, pos, negsuc}
use mir.Syntax.{w64}
use Rattle.wire.specs.Signs.{half, placed}
use Rattle.board.specs.Cells.{columns_of, cell_instant, marker_column, most_columns, fewest_columns}
use Rattle.board.specs.Private.{Good, PaceOf, ColumnOf, amount, Sum}
use Rattle.board.specs.declared.grid.Grid.{Grid}
use Rattle.board.specs.declared.grid.Pace.{Pace}
use Rattle.board.specs.declared.grid.Column.{Column}
use Rattle.board.specs.declared.grid.Mixed.{Mixed}

-- ---- columns

module _ (z : ℤ) (p : ℕ) (e : p ≡ placed w64 z) where
  pub few_columns : p < half w64 + fewest_columns → fewest_columns ≡ columns_of z
  unfolding placed
  few_columns h = go z e
    where
      go : (z : ℤ) → p ≡ placed w64 z → fewest_columns ≡ columns_of z
      go (pos n) e = omega arith
      go (negsuc n) e = refl

  pub enough_columns : half w64 + fewest_columns ≤ p → p - half w64 ≡ columns_of z
  unfolding placed
  enough_columns h = go z e
    where
      go : (z : ℤ) → p ≡ placed w64 z → p - half w64 ≡ columns_of z
      go (pos n) e = omega arith
      go (negsuc n) e = absurd (omega arith)

pub columns_some : (z : ℤ) → fewest_columns ≤ columns_of z
columns_some (pos n) = omega arith
columns_some (negsuc n) = omega arith

-- ---- a cell's instant

module _ (s k : ℕ) (h : 0 < k) where
  pub floor_most : (c : ℕ) → c ≤ k → s * c / k ≤ s
  floor_most c l = let m : s * c ≤ s * k = mul-le-mul_left s l in div-le_of_le-mul k (omega (arith, m, mul_comm s k))

  pub floor_less : (c : ℕ) → c < k → 0 < s → s * c / k < s
  floor_less c l p =
      let m : s * c < s * k = mul-lt-mul_of_pos_left l p in
      (div-lt_iff_lt-mul h).1 m

  pub floor_rises : (i j : ℕ) → i ≤ j → s * i / k ≤ s * j / k
  floor_rises i j l =
      let m : s * i ≤ s * j = mul-le-mul_left s l in
      (le-div_iff_mul-le h).1 (omega (arith, m, div-mul-le_self (s * i) k))

  -- the quotient and the remainder of a number that is so many k and less than k
  module _ (n q r : ℕ) (e : n ≡ k * q + r) (l : r < k) where
    quotient : n / k ≡ q
    quotient =
        let d : r / k ≡ 0 = div-eq_of_lt l in
        ap (λ (x : ℕ). x / k) e ∙ mul-add-div h q r ∙ omega (arith, d)

    remainder : n % k ≡ r
    remainder = ap (λ (x : ℕ). x % k) e ∙ mul-add-mod_self_left k q r ∙ mod-eq_of_lt l

  module _ (c : ℕ) where
    one_more : s * (c + 1) ≡ k * (s * c / k + s / k) + (s * c % k + s % k)
    one_more =
        let m : s * (c + 1) ≡ s * c + s = ap (λ (x : ℕ). s * x) (add-one c) ∙ mul-suc s c in
        let u : k * (s * c / k) + s * c % k ≡ s * c = div-add-mod (s * c) k in
        let v : k * (s / k) + s % k ≡ s = div-add-mod s k in
        let w : k * (s * c / k + s / k) ≡ k * (s * c / k) + k * (s / k) = mul-add k (s * c / k) (s / k) in
        omega (arith, m, u, v, w)

    -- the floor of the next column: the parts make no column, or one
    pub floor_on : s * c % k + s % k < k → (s * (c + 1) / k ≡ s * c / k + s / k) × (s * (c + 1) % k ≡ s * c % k + s % k)
    floor_on l =
        let q = s * c / k + s / k in
        let r = s * c % k + s % k in
        (quotient (s * (c + 1)) q r one_more l, remainder (s * (c + 1)) q r one_more l)

    pub floor_over : k ≤ s * c % k + s % k → (s * (c + 1) / k ≡ s * c / k + s / k + 1) × (s * (c + 1) % k ≡ s * c % k + s % k - k)
    floor_over l =
        let q = s * c / k + s / k + 1 in
        let r = s * c % k + s % k - k in
        let m : k * q ≡ k * (s * c / k + s / k) + k = ap (λ (x : ℕ). k * x) (add-one (s * c / k + s / k)) ∙ mul-suc k (s * c / k + s / k) in
        let e : s * (c + 1) ≡ k * q + r = omega (arith, m, one_more) in
        let b : r < k = omega (arith, mod-lt (s * c) h, mod-lt s h) in
        (quotient (s * (c + 1)) q r e b, remainder (s * (c + 1)) q r e b)

module _ (g : Grid) (o : Good g) where
  pub instant_rises : (i j : ℕ) → i ≤ j → cell_instant g i ≤ cell_instant g j
  instant_rises i j l = omega (arith, floor_rises g.span g.columns o.some i j l)

  -- every cell's instant is in the window
  pub instant_in : (c : ℕ) → c < g.columns → cell_instant g c < g.start + g.span
  instant_in c l = omega (arith, floor_less g.span g.columns o.some c l o.long)

  pub first_column : ColumnOf g (record { c = 0; at = g.start; part = 0 })
  first_column =
      let z : g.span * 0 ≡ 0 = mul-zero g.span in
      let q : g.span * 0 / g.columns ≡ 0 = ap (λ (x : ℕ). x / g.columns) z ∙ zero-div g.columns in
      let r : g.span * 0 % g.columns ≡ 0 = ap (λ (x : ℕ). x % g.columns) z ∙ zero-mod g.columns in
      record { inside = omega arith; at = omega (arith, q); part = sym r }

  module _ (p : Pace) (w : PaceOf g p) (x : Column) (a : ColumnOf g x) (l : x.c < g.columns) where
    in_window : (c : ℕ) → c ≤ g.columns → cell_instant g c < 2 ^ 64
    in_window c h = omega (arith, floor_most g.span g.columns o.some c h, o.end)

    pub rest_less : p.rest < g.columns
    rest_less = omega (arith, w.rest, mod-lt g.span o.some)

    module _ (h : x.part < g.columns - p.rest) where
      on : (g.span * (x.c + 1) / g.columns ≡ g.span * x.c / g.columns + g.span / g.columns) × (g.span * (x.c + 1) % g.columns ≡ g.span * x.c % g.columns + g.span % g.columns)
      on = floor_on g.span g.columns o.some x.c (omega (arith, a.part, w.rest, rest_less))

      pub on_fits : x.at + p.whole < 2 ^ 64
      on_fits = omega (arith, a.at, w.whole, on.0, in_window (x.c + 1) (omega arith))

      pub column_on : ColumnOf g (record { c = x.c + 1; at = x.at + p.whole; part = x.part + p.rest })
      column_on =
          record {
            inside = omega arith;
            at = omega (arith, a.at, w.whole, on.0);
            part = omega (arith, a.part, w.rest, on.1);
          }

    module _ (h : g.columns - p.rest ≤ x.part) where
      over : (g.span * (x.c + 1) / g.columns ≡ g.span * x.c / g.columns + g.span / g.columns + 1)
          × (g.span * (x.c + 1) % g.columns ≡ g.span * x.c % g.columns + g.span % g.columns - g.columns)
      over = floor_over g.span g.columns o.some x.c (omega (arith, a.part, w.rest, rest_less))

      pub over_fits : x.at + p.whole + 1 < 2 ^ 64
      over_fits = omega (arith, a.at, w.whole, over.0, in_window (x.c + 1) (omega arith))

      pub column_over : ColumnOf g (record { c = x.c + 1; at = x.at + p.whole + 1; part = x.part - (g.columns - p.rest) })
      column_over =
          record {
            inside = omega arith;
            at = omega (arith, a.at, w.whole, over.0);
            part = omega (arith, a.part, w.rest, rest_less, over.1);
          }

-- ---- the marker's column

-- the sum, and the term as often as is left, are what is gone for each column
pub record Sharing (gone columns span : ℕ) (sum term : Mixed) (left : ℕ) : Type 0 where
  pub total : amount span sum + amount span term * left ≡ gone * columns
  pub sum_part : sum.part < span
  pub term_part : term.part < span

module _ (gone columns span : ℕ) (h : gone < span) (few : columns ≤ most_columns) where
  whole_few : (w : ℕ) → w * span ≤ gone * columns → w ≤ most_columns
  whole_few w l = go (dec_lt most_columns w)
    where
      go : Dec (most_columns < w) → w ≤ most_columns
      go (no n) = omega arith
      go (yes y) =
          let a : suc most_columns * span ≤ w * span = mul-le-mul_right span (omega arith) in
          let b : gone * columns ≤ gone * most_columns = mul-le-mul_left gone few in
          absurd (omega arith)

  module _ (sum term : Mixed) (left : ℕ) (i : Sharing gone columns span sum term left) where
    module _ (l : 0 < left) where
      module _ (twice : Mixed) (d : Sum span term term twice) where
        doubled : amount span twice * (left / 2) ≡ amount span term * (left / 2) + amount span term * (left / 2)
        doubled = ap (λ (x : ℕ). x * (left / 2)) d.same ∙ add-mul (amount span term) (amount span term) (left / 2)

        halves : amount span term * (left / 2 + left / 2) ≡ amount span term * (left / 2) + amount span term * (left / 2)
        halves = mul-add (amount span term) (left / 2) (left / 2)

        pub share_even : left % 2 ≡ 0 → Sharing gone columns span sum twice (left / 2)
        share_even e =
            let m : amount span term * left ≡ amount span term * (left / 2 + left / 2) = ap (λ (x : ℕ). amount span term * x) (omega arith) in
            record { total = omega (arith, i.total, doubled, halves, m); sum_part = i.sum_part; term_part = d.part }

        pub share_odd : left % 2 ≡ 1 → (more : Mixed) → Sum span sum term more → Sharing gone columns span more twice (left / 2)
        share_odd e more q =
            let m : amount span term * left ≡ amount span term * suc (left / 2 + left / 2) = ap (λ (x : ℕ). amount span term * x) (omega arith) in
            let n : amount span term * suc (left / 2 + left / 2) ≡ amount span term * (left / 2 + left / 2) + amount span term = mul-suc (amount span term) (left / 2 + left / 2) in
            record { total = omega (arith, i.total, q.same, doubled, halves, m, n); sum_part = q.part; term_part = d.part }

module _ (gone span : ℕ) (h : gone < span) where
  -- the marker's column is one of the columns
  pub share_below : (columns : ℕ) → 0 < columns → gone * columns / span < columns
  share_below columns p =
      let m : gone * columns < span * columns = mul-lt-mul_of_pos_right h p in
      let n : gone * columns < columns * span = omega (arith, m, mul_comm span columns) in
      let q : 0 < span = omega arith in
      (div-lt_iff_lt-mul q).1 n

-- a now inside the window has its marker in one of the columns
pub marker_below : (start end columns at : ℕ) → 0 < columns → start ≤ at → at < end → marker_column start end columns true at < columns
marker_below start end columns at p a b =
    let w : at - start < end - start = omega arith in
    rw (le-leb start at a, lt-ltb at end b) (share_below (at - start) (end - start) w columns p)
