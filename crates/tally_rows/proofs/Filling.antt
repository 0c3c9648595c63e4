-- The pages: rows that are written one after the other while stretches come. Assumes nothing.
use mathlib.Core.Path.{◌≡◌, refl, sym, ap, subst, ◌∙◌}
use mathlib.Core.Bool.{Bool, true, false, cond}
use mathlib.Core.List.{List, [], ◌∷◌, ◌++◌, map, append_assoc, append-nil}
use Rattle.std.specs.Prelude.{Option, Some}
use Prim.Native.Nat.{ℕ, zero, suc, ◌+◌, ◌-◌, ◌*◌, ◌/◌, ◌≤◌, ◌<◌, ◌^◌}
use native.Mathlib.Nat.{zero-add}
use native.Mathlib.Omega.{arith}
use borrow.Author.Tests.{lt-ltb, le-ltb, le-leb, lt-leb}
use lib.Dec.{leb}
use lib.ListN.{length, get_or, length-append}
use Rattle.wire.specs.Fields.{Inside, Put}
use Rattle.wire.proofs.Writing.{also, wrote_nothing}
use Rattle.zone.specs.Units.{day_ns}
use Rattle.spans.specs.Spans.{Mark, unknown, Span}
use Rattle.spans.specs.Timeline.{Part}
use Rattle.spans.specs.Totals.{any_mark, total}
use Rattle.answer.specs.Forms.{Form, day, tally, encode, encode_all, row_size}
use Rattle.answer.specs.Meaning.{totals_of}
use Rattle.answer.proofs.Readback.{encode_length}
use Rattle.answer.proofs.Several.{one_form, encode_append, append_length}
use Rattle.tally_rows.specs.Rows.{row_end, rows_from, rows_of, row_totals, day_form, most_tally_ns, most_rows}
use Rattle.tally_rows.specs.OpenRows.{marks, stretch_of, kind_at, Slot, fresh, shifted, RowFilled, Ordered, day_forms, raw_forms, OpenAt, Standing, part_of, Sheet, sheet_of, rolled, Coming, Counted, Ending, Ended, First, unknown_slot, nowhere_slot}
use Rattle.tally_rows.specs.declared.OpenRow.{OpenRow}
use Rattle.tally_rows.proofs.Counting.{small, one_none, ahead_none, slot_small, filled_fresh, filled_all, filled_one, takes, gets}

-- ---- rows

-- one row and those behind it
rows_next : (n end at : ℕ) → at < end → end ≤ at + n * day_ns
    → (m : ℕ) × (rows_from n end at ≡ record { start = at; end = row_end end at } ∷ rows_from m end (row_end end at)) × (end ≤ row_end end at + m * day_ns) × (suc m ≡ n)
unfolding rows_from
rows_next zero end at h e = absurd (omega arith)
rows_next (suc m) end at h e = (m, simp (lt-ltb at end h), omega arith, refl)

rows_none : (n end at : ℕ) → end ≤ at → rows_from n end at ≡ []
unfolding rows_from
rows_none zero end at h = refl
rows_none (suc n) end at h = simp (le-ltb at end h)

-- rows are counted
pub record Cutting (start end count at : ℕ) : Type 0 where
  pub fuel : ℕ
  pub same : length (rows_of start end) ≡ count + length (rows_from fuel end at)
  pub enough : end ≤ at + fuel * day_ns
  pub few : count + fuel ≤ most_rows

pub cutting_none : (start end : ℕ) → end ≤ start + most_tally_ns → Cutting start end 0 start
cutting_none start end h = record { fuel = (end - start) / day_ns + 1; same = sym (zero-add (length (rows_of start end))); enough = omega arith; few = omega arith }

pub cutting_next : {start end count at : ℕ} → Cutting start end count at → at < end → {next : ℕ} → next ≡ row_end end at
    → Cutting start end (count + 1) next
cutting_next {start} {end} {count} {at} c h {next} e =
    let r = rows_next c.fuel end at h c.enough in
    rw e (record { fuel = r.0; same = omega (arith, c.same, ap length r.1); enough = r.2; few = omega (arith, c.few, r.3) })

pub cutting_end : {start end count at : ℕ} → Cutting start end count at → end ≤ at → (count ≡ length (rows_of start end)) × (count ≤ most_rows)
cutting_end {start} {end} {count} {at} c h = (omega (arith, c.same, ap length (rows_none c.fuel end at h)), omega (arith, c.few))

-- ---- bytes

-- a row's record, and the closing one
abbrev day_of : List (Span Mark) → ℕ → ℕ → Form
day_of all a b = day_form marks all (record { start = a; end = b })

abbrev closing_of : List (Span Mark) → ℕ → ℕ → Form
closing_of all start end = tally (totals_of start end (row_totals marks start end all))

day_long : (all : List (Span Mark)) (a b : ℕ) → length (encode (day_of all a b)) ≡ row_size
day_long all a b = encode_length (day_of all a b) refl

closing_long : (all : List (Span Mark)) (start end : ℕ) → length (encode_all (closing_of all start end ∷ [])) ≡ row_size
closing_long all start end = ap length (sym (one_form (closing_of all start end))) ∙ encode_length (closing_of all start end) refl

days_long : (all : List (Span Mark)) (rs : List Part) → length (encode_all (map (day_form marks all) rs)) ≡ row_size * length rs
unfolding encode_all
days_long all [] = refl
days_long all (r ∷ rs) =
    let a = length-append (encode (day_form marks all r)) (encode_all (map (day_form marks all) rs)) in
    omega (arith, a, days_long all rs, day_long all r.start r.end)

-- how long an answer is
pub forms_long : (all : List (Span Mark)) (start end : ℕ) → length (encode_all (raw_forms all start end)) ≡ row_size * (length (rows_of start end) + 1)
forms_long all start end =
    let a = append_length (map (day_form marks all) (rows_of start end)) (closing_of all start end ∷ []) in
    omega (arith, a, days_long all (rows_of start end), closing_long all start end)

-- ---- the page that is open

module _ {all left : List (Span Mark)} {start end : ℕ} {room : List ℕ} {a b at : ℕ} {row now : List ℕ}
    (w : OpenAt all left start end room a b at row now) where
  -- the same page, of other stretches that are left
  open_left : {left' : List (Span Mark)} {row' : List ℕ} → Ordered end left'
      → ((k : Mark → Bool) (x y : ℕ) → b ≤ x → total marks k x y left' ≡ total marks k x y left)
      → RowFilled all left' a b row' → OpenAt all left' start end room a b at row' now
  open_left o l f =
      record {
        small = w.small;
        ordered = o;
        later = λ k x y i. l k x y i ∙ w.later k x y i;
        filled = f;
        edge = w.edge;
        inside = w.inside;
        done = w.done;
        fuel = w.fuel;
        enough = w.enough;
        same = w.same;
        put = w.put;
        fits = w.fits;
      }

  next_same : (m : ℕ) → rows_from w.fuel end a ≡ record { start = a; end = row_end end a } ∷ rows_from m end (row_end end a)
      → map (day_form marks all) (rows_of start end) ≡ (w.done ++ (day_of all a b ∷ [])) ++ day_forms all m end b
  next_same m e =
      let i = w.edge in
      let days : day_forms all w.fuel end a ≡ day_of all a b ∷ day_forms all m end b = rw i (ap (map (day_form marks all)) e) in
      w.same ∙ ap (λ (l : List Form). w.done ++ l) days ∙ sym (append_assoc w.done (day_of all a b ∷ []) (day_forms all m end b))

  -- there is room for its record, and for the closing total behind it
  open_behind : at + 2 * row_size ≤ length now
  open_behind =
      let r = rows_next w.fuel end a w.inside w.enough in
      let t = ap (λ (l : List Form). length (encode_all l)) (next_same r.0 r.1) in
      let x = append_length (w.done ++ (day_of all a b ∷ [])) (day_forms all r.0 end b) in
      let y = append_length w.done (day_of all a b ∷ []) in
      let o = ap length (one_form (day_of all a b)) in
      let l = append_length (map (day_form marks all) (rows_of start end)) (closing_of all start end ∷ []) in
      omega (arith, t, x, y, o, day_long all a b, l, closing_long all start end, w.fits, w.put.kept, w.put.many)

  open_inside : Inside at row_size now
  open_inside = omega (arith, open_behind)

  open_put : {now1 : List ℕ} {at1 : ℕ} → Put now at (encode (day_of all a b)) row_size now1 at1
      → Put room 0 (encode_all (w.done ++ (day_of all a b ∷ []))) at1 now1 at1
  open_put {now1} {at1} y =
      let e = encode_append w.done (day_of all a b ∷ []) in
      let o = one_form (day_of all a b) in
      rw (e, ← o) (also at1 w.put y y.behind (omega (arith, y.behind, open_behind, w.put.kept)))

-- ---- a stretch comes

module _ {all left : List (Span Mark)} {from to : ℕ} {m : Mark} {a b : ℕ} {row : List ℕ} (fits : (k : Mark → Bool) (x y : ℕ) → total marks k x y all ≤ y - x)
    (w : RowFilled all (stretch_of from to m ∷ left) a b row) {j n : ℕ} (is : Slot m j) (e : n ≡ part_of a b from to) where
  -- what counting it requires
  shift_room : {most : ℕ} → b < most → (j < nowhere_slot) × (n ≤ get_or row nowhere_slot 0) × (get_or row j 0 + n < most)
  shift_room h = (slot_small m is, omega (arith, takes fits w is), omega (arith, gets fits w is))

  shift_one : {row' : List ℕ} → row' ≡ shifted row j n → RowFilled all left a b row'
  shift_one f = filled_one fits w is e f

module _ {all left : List (Span Mark)} {from to : ℕ} {m : Mark} {start end : ℕ} {room : List ℕ} {a b at : ℕ} {row now : List ℕ}
    (w : OpenAt all (stretch_of from to m ∷ left) start end room a b at row now) {row1 : List ℕ} (f : RowFilled all left a b row1) where
  -- it ends in this row
  open_passed : to ≤ b → OpenAt all left start end room a b at row1 now
  open_passed h = open_left w w.ordered.2 (λ k x y i. sym (one_none k x y (stretch_of from to m) left (omega arith))) f

  -- the row ends first, and its record is next
  module _ (h : b < to) where
    row_is : row1 ≡ row_totals marks a b all
    row_is = filled_all w.small f (λ k. ahead_none k a b to left (omega arith) w.ordered.1)

    open_turns : (b < end) × (b < row_end end b)
    open_turns = (omega (arith, w.ordered.0), omega (arith, w.ordered.0))

    open_room : Inside at row_size now
    open_room = open_inside w

    open_next : {now1 row2 : List ℕ} {at1 b1 : ℕ} → Put now at (encode (day (totals_of a b row1))) row_size now1 at1 → b1 ≡ row_end end b → row2 ≡ fresh (b1 - b)
        → OpenAt all (stretch_of from to m ∷ left) start end room b b1 at1 row2 now1
    open_next {now1} {row2} {at1} {b1} y e g =
        let r = rows_next w.fuel end a w.inside w.enough in
        record {
          small = w.small;
          ordered = w.ordered;
          later = λ k x z i. w.later k x z (omega (arith, open_turns.1));
          filled = rw g (filled_fresh w.small (λ k. w.later k b b1 (omega arith)));
          edge = e;
          inside = open_turns.0;
          done = w.done ++ (day_of all a b ∷ []);
          fuel = r.0;
          enough = omega (arith, r.2, w.edge);
          same = next_same w r.0 r.1;
          put = open_put w (subst (λ (l : List ℕ). Put now at (encode (day (totals_of a b l))) row_size now1 at1) row_is y);
          fits = w.fits;
        }

-- ---- as the code goes

-- the stretch ends in the open row, or it goes on in the next
module _ (s : Sheet) (end from to slot : ℕ) {n : ℕ} (e : n ≡ part_of s.a s.b from to) {row : List ℕ} (f : row ≡ shifted s.row slot n) where
  counts : row ≡ shifted s.row slot (part_of s.a s.b from to)
  counts = f ∙ ap (shifted s.row slot) e

  rolled_last : to ≤ s.b → rolled 1 end from to slot s ≡ Some (record { a = s.a; b = s.b; at = s.at; row = row; bytes = s.bytes })
  unfolding rolled
  rolled_last h = rw (le-leb to s.b h, ← counts) refl

  rolled_more : s.b < to → {bytes row1 : List ℕ} {at b : ℕ} → Put s.bytes s.at (encode (day (totals_of s.a s.b row))) row_size bytes at
      → b ≡ row_end end s.b → row1 ≡ fresh (b - s.b)
      → {x : Sheet} (k : ℕ) → rolled k end from to slot (record { a = s.b; b = b; at = at; row = row1; bytes = bytes }) ≡ Some x
      → rolled (suc k) end from to slot s ≡ Some x
  unfolding rolled
  rolled_more h y i g k q = rw (lt-leb to s.b h, ← counts, ← y.same, ← y.behind, ← i, ← g) q

-- rows are closed while one stretch lasts
pub record Rolling (now : List ℕ) (a b at : ℕ) (row : List ℕ) (end from to slot : ℕ) (now' : List ℕ) (a' b' at' : ℕ) (row' : List ℕ) : Type 0 where
  pub on : (all left : List (Span Mark)) (start : ℕ) (room : List ℕ) (m : Mark) → Slot m slot
      → OpenAt all (stretch_of from to m ∷ left) start end room a b at row now
      → OpenAt all (stretch_of from to m ∷ left) start end room a' b' at' row' now'
  pub kept : length now' ≡ length now
  pub rolls : (x : Sheet) (n : ℕ) → rolled n end from to slot (record { a = a'; b = b'; at = at'; row = row'; bytes = now' }) ≡ Some x
      → (k : ℕ) × (rolled k end from to slot (record { a = a; b = b; at = at; row = row; bytes = now }) ≡ Some x)

pub rolling_none : (now : List ℕ) (a b at : ℕ) (row : List ℕ) (end from to slot : ℕ) → Rolling now a b at row end from to slot now a b at row
rolling_none now a b at row end from to slot = record { on = λ all left start room m is w. w; kept = refl; rolls = λ x n e. (n, e) }

module _ {now : List ℕ} {a b at : ℕ} {row : List ℕ} {end from to slot : ℕ} {now1 : List ℕ} {a1 b1 at1 : ℕ} {row1 : List ℕ}
    (r : Rolling now a b at row end from to slot now1 a1 b1 at1 row1) {n : ℕ} (e : n ≡ part_of a1 b1 from to) {row2 : List ℕ} (f : row2 ≡ shifted row1 slot n) where
  -- another row
  pub rolling_next : b1 < to → {now2 row3 : List ℕ} {at2 b2 : ℕ} → Put now1 at1 (encode (day (totals_of a1 b1 row2))) row_size now2 at2
      → b2 ≡ row_end end b1 → row3 ≡ fresh (b2 - b1)
      → Rolling now a b at row end from to slot now2 b1 b2 at2 row3
  rolling_next h {now2} {row3} y i g =
      record {
        on = λ all left start room m is w. let v = r.on all left start room m is w in open_next v (shift_one v.small v.filled is e f) h y i g;
        kept = y.kept ∙ r.kept;
        rolls = λ x k q. r.rolls x (suc k) (rolled_more _ _ _ _ _ e f h y i g k q);
      }

  -- the last one
  rolling_end : to ≤ b1 → (all left : List (Span Mark)) (start : ℕ) (room : List ℕ) (m : Mark) → Slot m slot
      → OpenAt all (stretch_of from to m ∷ left) start end room a b at row now
      → OpenAt all left start end room a1 b1 at1 row2 now1
  rolling_end h all left start room m is w = let v = r.on all left start room m is w in open_passed v (shift_one v.small v.filled is e f) h

-- the page of a stretch that comes
module _ {now : List ℕ} {p : OpenRow} {start end from to slot : ℕ} {row whole : List ℕ} (c : Coming now p start end from to slot row whole) where
  pub coming_whole : {n : ℕ} → n ≡ part_of start end from to → end < 2 ^ 64
      → (slot < nowhere_slot) × (n ≤ get_or whole nowhere_slot 0) × (get_or whole slot 0 + n < 2 ^ 64)
  coming_whole e h = shift_room c.stands.current.small c.stands.closing c.is e h

  module _ {now1 : List ℕ} {a1 b1 at1 : ℕ} {row1 : List ℕ}
      (r : Rolling now p.start.0 p.end.0 p.at row end from to slot now1 a1 b1 at1 row1) where
    abbrev open_at : OpenAt c.all (stretch_of from to c.mark ∷ c.left) start end c.room a1 b1 at1 row1 now1
    open_at = r.on c.all c.left start c.room c.mark c.is c.stands.current

    module _ {n : ℕ} (e : n ≡ part_of a1 b1 from to) where
      pub coming_row : end < 2 ^ 64 → (slot < nowhere_slot) × (n ≤ get_or row1 nowhere_slot 0) × (get_or row1 slot 0 + n < 2 ^ 64)
      coming_row h = shift_room open_at.small open_at.filled c.is e (omega (arith, open_at.edge))

      module _ {row2 : List ℕ} (f : row2 ≡ shifted row1 slot n) (h : b1 < to) where
        pub coming_room : Inside at1 row_size now1
        coming_room = open_room open_at (shift_one open_at.small open_at.filled c.is e f) h

        pub coming_turn : (b1 < end) × (b1 < row_end end b1)
        coming_turn = open_turns open_at (shift_one open_at.small open_at.filled c.is e f) h

-- it is counted
pub counted : {now : List ℕ} {p : OpenRow} {start end from to slot : ℕ} {row whole now1 : List ℕ} {p1 : OpenRow} {row1 whole1 : List ℕ}
    → Rolling now p.start.0 p.end.0 p.at row end from to slot now1 p1.start.0 p1.end.0 p1.at row1 → {n : ℕ}
    → n ≡ part_of p1.start.0 p1.end.0 from to
    → {row2 : List ℕ} → row2 ≡ shifted row1 slot n → to ≤ p1.end.0 → {l : ℕ} → l ≡ part_of start end from to → whole1 ≡ shifted whole slot l
    → Counted now p start end from to slot row whole now1 p1 row2 whole1
counted {start = start} {slot = slot} {whole = whole} r e f h i g =
    let last = r.rolls _ 1 (rolled_last _ _ _ _ _ e f h) in
    record {
      on = λ all left room m is w. record { current = rolling_end r e f h all left start room m is w.current; closing = shift_one w.current.small w.closing is i g };
      reached = h;
      kept = r.kept;
      fuel = last.0;
      rolls = last.1;
      closes = g ∙ ap (shifted whole slot) i;
    }

-- and in one way: the rows that are closed, the open row, its totals, the closing totals and the bytes are determined
rolled_once : (n m end from to slot : ℕ) (s x y : Sheet) → rolled n end from to slot s ≡ Some x → rolled m end from to slot s ≡ Some y → x ≡ y
unfolding rolled
rolled_once zero m end from to slot s x y e f = let z : ◌≡◌ {A = ℕ} 0 1 = cc in absurd (omega arith)
rolled_once (suc n) zero end from to slot s x y e f = let z : ◌≡◌ {A = ℕ} 0 1 = cc in absurd (omega arith)
rolled_once (suc n) (suc m) end from to slot s x y e f = go (leb to s.b) _ _ _ (rolled_once n m end from to slot _ x y) e f
  where
    go : (b : Bool) (o : Sheet) (p q : Option Sheet) → (p ≡ Some x → q ≡ Some y → x ≡ y) → cond b (Some o) p ≡ Some x → cond b (Some o) q ≡ Some y → x ≡ y
    go true o p q h i j = cc
    go false o p q h i j = h i j

pub counted_once : {now : List ℕ} {p : OpenRow} {start end from to slot : ℕ} {row whole now1 : List ℕ} {p1 : OpenRow} {row1 whole1 now2 : List ℕ} {p2 : OpenRow} {row2 whole2 : List ℕ}
    → Counted now p start end from to slot row whole now1 p1 row1 whole1 → Counted now p start end from to slot row whole now2 p2 row2 whole2
    → (sheet_of p1 row1 now1 ≡ sheet_of p2 row2 now2) × (whole1 ≡ whole2)
counted_once {end = end} {from = from} {to = to} {slot = slot} c d =
    (rolled_once c.fuel d.fuel end from to slot _ _ _ c.rolls d.rolls, c.closes ∙ sym d.closes)

-- ---- the end

-- an empty stretch at the end counts nothing
none_at : (k : Mark → Bool) (x y end : ℕ) → total marks k x y (stretch_of end end unknown ∷ []) ≡ total marks k x y []
none_at k x y end = one_none k x y (stretch_of end end unknown) [] (omega arith)

module _ {all : List (Span Mark)} {start end : ℕ} {room now : List ℕ} {p : OpenRow} {row whole : List ℕ}
    (w : Standing all [] start end room now p row whole) where
  filled_more : {a b : ℕ} {r : List ℕ} → RowFilled all [] a b r → RowFilled all (stretch_of end end unknown ∷ []) a b r
  filled_more {a} {b} f =
      record {
        long = f.long;
        each = λ i h. omega (arith, f.each i h, none_at (kind_at i) a b end);
        rest = omega (arith, f.rest, none_at any_mark a b end);
      }

  one_more : Standing all (stretch_of end end unknown ∷ []) start end room now p row whole
  one_more =
      record {
        current = open_left w.current (omega arith, tt, tt) (λ k x y i. none_at k x y end) (filled_more w.current.filled);
        closing = filled_more w.closing;
      }

  module _ (h : end ≤ p.end.0) where
    none_left : (k : Mark → Bool) (x y : ℕ) → total marks k x y [] ≡ 0
    unfolding total
    none_left k x y = refl

    -- the last row and the closing total are written
    all_written : {now1 now2 : List ℕ} {at1 at2 : ℕ} → Put now p.at (encode (day (totals_of p.start.0 p.end.0 row))) row_size now1 at1
        → Put now1 at1 (encode (tally (totals_of start end whole))) row_size now2 at2 → Put room 0 (encode_all (raw_forms all start end)) at2 now2 at2
    all_written {now1} {now2} {at1} {at2} x y =
        let v = w.current in
        let days = map (day_form marks all) (rows_of start end) in
        let r = rows_next v.fuel end p.start.0 v.inside v.enough in
        let done = v.done ++ (day_of all p.start.0 p.end.0 ∷ []) in
        let none = rows_none r.0 end p.end.0 (omega arith) in
        let same : days ≡ done = next_same v r.0 r.1 ∙ ap (λ (l : List Part). done ++ map (day_form marks all) l) none ∙ append-nil done in
        let e = filled_all v.small v.filled (λ k. none_left k _ _) in
        let f = filled_all v.small w.closing (λ k. none_left k _ _) in
        let g : Put room 0 (encode_all days) at1 now1 at1 =
        rw same (open_put v (subst (λ (l : List ℕ). Put now p.at (encode (day (totals_of p.start.0 p.end.0 l))) row_size now1 at1) e x)) in
        let z = subst (λ (l : List ℕ). Put now1 at1 (encode (tally (totals_of start end l))) row_size now2 at2) f y in
        let c = encode_append days (closing_of all start end ∷ []) in
        let o = one_form (closing_of all start end) in
        rw (c, ← o) (also at2 g z z.behind (omega (arith, z.behind, x.behind, open_behind v, v.put.kept)))

-- ---- the start

module _ (all : List (Span Mark)) {start end : ℕ} {room : List ℕ} (h : start < end) (ordered : Ordered end all)
    (fits : row_size * (length (rows_of start end) + 1) ≤ length room) where
  pub first_standing : {p : OpenRow} {row whole : List ℕ} → First start end p row whole → Standing all all start end room room p row whole
  unfolding encode_all
  first_standing {p} {row} {whole} f =
      let i = f.begins in
      let j = f.ends in
      let k = f.placed in
      let s = small end all ordered in
      let x : OpenAt all all start end room start (row_end end start) 0 row room =
      record {
        small = s;
        ordered = ordered;
        later = λ k x y i. refl;
        filled = rw f.fresh_row (filled_fresh s (λ k. refl));
        edge = refl;
        inside = h;
        done = [];
        fuel = (end - start) / day_ns + 1;
        enough = omega arith;
        same = refl;
        put = record { same = sym (wrote_nothing room 0); behind = refl; many = refl; kept = refl };
        fits = omega (arith, forms_long all start end);
      }
      in
      record { current = rw (i, j, k) x; closing = rw f.fresh_whole (filled_fresh s (λ k. refl)) }

-- ---- finishing, as the code goes

pub unknown_slot_law : Slot unknown unknown_slot
unknown_slot_law = record { is = refl; low = tt }

pub ending_stretch : {now : List ℕ} {p : OpenRow} {start end : ℕ} {row whole : List ℕ} → Ending now p start end row whole
    → Coming now p start end end end unknown_slot row whole
ending_stretch c = record { all = c.all; left = []; room = c.room; mark = unknown; is = unknown_slot_law; stands = one_more c.stands }

module _ {now : List ℕ} {p : OpenRow} {start end : ℕ} {row whole now1 : List ℕ} {p1 : OpenRow} {row1 whole1 : List ℕ}
    (k : Counted now p start end end end unknown_slot row whole now1 p1 row1 whole1) where
  module _ (c : Ending now p start end row whole) where
    abbrev last : Standing c.all [] start end c.room now1 p1 row1 whole1
    last = k.on c.all [] c.room unknown unknown_slot_law (one_more c.stands)

    pub ending_day : Inside p1.at row_size now1
    ending_day = open_inside last.current

    pub ending_tally : {v now2 : List ℕ} {at2 : ℕ} → Put now1 p1.at v row_size now2 at2 → Inside at2 row_size now2
    ending_tally x = omega (arith, x.behind, x.kept, open_behind last.current)

  pub ended : {now2 now3 : List ℕ} {at2 at3 : ℕ} → Put now1 p1.at (encode (day (totals_of p1.start.0 p1.end.0 row1))) row_size now2 at2
      → Put now2 at2 (encode (tally (totals_of start end whole1))) row_size now3 at3 → Ended now p start end row whole now3 at3
  ended x y =
      record {
        on = λ all room w. all_written (k.on all [] room unknown unknown_slot_law (one_more w)) k.reached x y;
        kept = y.kept ∙ x.kept ∙ k.kept;
      }
