-- Totals stretch by stretch: what is counted and what is still to come make the total. Assumes nothing.
use mathlib.Core.Path.{◌≡◌, refl, sym, ap, ◌∙◌}
use mathlib.Core.Bool.{Bool, true, false, cond}
use mathlib.Core.List.{List, [], ◌∷◌}
use Prim.Native.Nat.{ℕ, zero, suc, ◌+◌, ◌-◌, ◌≤◌, ◌<◌, min, max}
use native.Mathlib.Omega.{arith}
use native.Mathlib.Decide.{ℕ_discrete}
use borrow.Author.Tests.{eq-eqb, ne_eqb, eqb-true}
use lib.Dec.{eqb}
use lib.ListN.{length, get_or, set, length-set}
use lib.Seq.{get_or-set_same, get_or-set_other, ext_get_or}
use Rattle.spans.specs.Spans.{Mark, phase, unknown, Span}
use Rattle.spans.specs.Totals.{any_mark, total}
use Rattle.answer.specs.Forms.{many_totals}
use Rattle.tally_rows.specs.Rows.{row_totals}
use Rattle.tally_rows.specs.OpenRows.{marks, kind_at, Slot, fresh, shifted, RowFilled, Ahead, Ordered, unknown_slot, nowhere_slot}

-- ---- the total of a list

abbrev pub part_of : ℕ → ℕ → Span Mark → ℕ
part_of a b s = min b s.to - max a s.from

module _ (k : Mark → Bool) (a b : ℕ) where
  one_first : (s : Span Mark) (ss : List (Span Mark)) → total marks k a b (s ∷ ss) ≡ cond (k s.body) (part_of a b s) 0 + total marks k a b ss
  unfolding total
  one_first s ss = refl

  cond_none : (q : Bool) (n : ℕ) → n ≡ 0 → cond q n 0 ≡ 0
  cond_none true n e = e
  cond_none false n e = refl

  cond_most : (q : Bool) (n : ℕ) → cond q n 0 ≤ n
  cond_most true n = omega arith
  cond_most false n = omega arith

  -- a stretch that shows nothing in the row
  pub one_none : (s : Span Mark) (ss : List (Span Mark)) → part_of a b s ≡ 0 → total marks k a b (s ∷ ss) ≡ total marks k a b ss
  one_none s ss e = one_first s ss ∙ omega (arith, cond_none (k s.body) (part_of a b s) e)

  -- of stretches that begin behind the row
  pub ahead_none : (t : ℕ) (ss : List (Span Mark)) → b ≤ t → Ahead t ss → total marks k a b ss ≡ 0
  unfolding total
  ahead_none t [] h w = refl
  ahead_none t (s ∷ ss) h w = one_none s ss (omega (arith, w.0)) ∙ ahead_none t ss h w.1

-- the row may begin where the stretches do
later_start : (k : Mark → Bool) (a b t : ℕ) (ss : List (Span Mark)) → Ahead t ss → total marks k a b ss ≡ total marks k (max a t) b ss
unfolding total
later_start k a b t [] w = refl
later_start k a b t (s ∷ ss) w =
    let e : part_of a b s ≡ part_of (max a t) b s = omega (arith, w.0) in
    let on = later_start k a b t ss w.1 in
    rw (e, on)

-- no total is longer than the row
pub small : (end : ℕ) (ss : List (Span Mark)) → Ordered end ss → (k : Mark → Bool) (a b : ℕ) → total marks k a b ss ≤ b - a
unfolding total
small end [] w k a b = omega arith
small end (s ∷ ss) w k a b =
    let on = small end ss w.2 k (max a s.to) b in
    let e = later_start k a b s.to ss w.1 in
    let f = one_first k a b s ss in
    let m = cond_most k a b (k s.body) (part_of a b s) in
    omega (arith, on, e, f, m)

-- ---- a row's totals

-- the slot of a mark
pub slot_small : (m : Mark) {j : ℕ} → Slot m j → j < nowhere_slot
slot_small (phase p e) s = omega (arith, s.is, s.low)
slot_small unknown s = omega (arith, s.is)

kind_slot : (m : Mark) {j : ℕ} → Slot m j → (i : ℕ) → kind_at i m ≡ eqb i j
kind_slot (phase p e) {j} s i = go (eqb i unknown_slot) refl
  where
    go : (q : Bool) → eqb i unknown_slot ≡ q → cond q false (eqb i p) ≡ eqb i j
    go true h = let t = eqb-true i unknown_slot h in sym (ne_eqb i j (λ x. omega (arith, s.is, s.low)))
    go false h = ap (eqb i) (sym s.is)
kind_slot unknown {j} s i = go (eqb i unknown_slot) refl
  where
    go : (q : Bool) → eqb i unknown_slot ≡ q → cond q true false ≡ eqb i j
    go true h = sym (ap (eqb i) s.is ∙ h)
    go false h = sym (ap (eqb i) s.is ∙ h)

-- what holds of each slot
slots : (P : ℕ → Type 0) → P 0 → P 1 → P 2 → P 3 → P 4 → P 5 → P 6 → P 7 → P 8 → (i : ℕ) → i < nowhere_slot → P i
slots P p0 p1 p2 p3 p4 p5 p6 p7 p8 zero h = p0
slots P p0 p1 p2 p3 p4 p5 p6 p7 p8 (suc zero) h = p1
slots P p0 p1 p2 p3 p4 p5 p6 p7 p8 (suc (suc zero)) h = p2
slots P p0 p1 p2 p3 p4 p5 p6 p7 p8 (suc (suc (suc zero))) h = p3
slots P p0 p1 p2 p3 p4 p5 p6 p7 p8 (suc (suc (suc (suc zero)))) h = p4
slots P p0 p1 p2 p3 p4 p5 p6 p7 p8 (suc (suc (suc (suc (suc zero))))) h = p5
slots P p0 p1 p2 p3 p4 p5 p6 p7 p8 (suc (suc (suc (suc (suc (suc zero)))))) h = p6
slots P p0 p1 p2 p3 p4 p5 p6 p7 p8 (suc (suc (suc (suc (suc (suc (suc zero))))))) h = p7
slots P p0 p1 p2 p3 p4 p5 p6 p7 p8 (suc (suc (suc (suc (suc (suc (suc (suc zero)))))))) h = p8
slots P p0 p1 p2 p3 p4 p5 p6 p7 p8 (suc (suc (suc (suc (suc (suc (suc (suc (suc i))))))))) h = absurd (omega arith)

totals_at : (a b : ℕ) (ss : List (Span Mark)) (i : ℕ) → i < nowhere_slot → get_or (row_totals marks a b ss) i 0 ≡ total marks (kind_at i) a b ss
totals_at a b ss = slots (λ i. get_or (row_totals marks a b ss) i 0 ≡ total marks (kind_at i) a b ss) refl refl refl refl refl refl refl refl refl

fresh_at : (n i : ℕ) → i < nowhere_slot → get_or (fresh n) i 0 ≡ 0
fresh_at n = slots (λ i. get_or (fresh n) i 0 ≡ 0) refl refl refl refl refl refl refl refl refl

module _ {all : List (Span Mark)} (fits : (k : Mark → Bool) (x y : ℕ) → total marks k x y all ≤ y - x) {a b : ℕ} where
  -- a row begins
  pub filled_fresh : {left : List (Span Mark)} → ((k : Mark → Bool) → total marks k a b left ≡ total marks k a b all) → RowFilled all left a b (fresh (b - a))
  filled_fresh {left} e =
      record {
        long = refl;
        each = λ i h. omega (arith, fresh_at (b - a) i h, e (kind_at i));
        rest = omega (arith, fits any_mark a b, e any_mark);
      }

  -- nothing is left
  pub filled_all : {left : List (Span Mark)} {row : List ℕ} → RowFilled all left a b row → ((k : Mark → Bool) → total marks k a b left ≡ 0)
      → row ≡ row_totals marks a b all
  filled_all {left} {row} w e = ext_get_or 0 row (row_totals marks a b all) w.long (λ i h. go i (ℕ_discrete i nowhere_slot) (omega (arith, w.long)))
    where
      go : (i : ℕ) → Dec (i ≡ nowhere_slot) → i < many_totals → get_or row i 0 ≡ get_or (row_totals marks a b all) i 0
      go i (yes n) h = ap (λ (x : ℕ). get_or row x 0) n ∙ omega (arith, w.rest, e any_mark) ∙ sym (ap (λ (x : ℕ). get_or (row_totals marks a b all) x 0) n)
      go i (no n) h = omega (arith, w.each i (below i n h), e (kind_at i)) ∙ sym (totals_at a b all i (below i n h))
        where
          below : (x : ℕ) → (x ≡ nowhere_slot → ⊥) → x < many_totals → x < nowhere_slot
          below x f l = omega (arith, f)

  -- a stretch is counted
  module _ {s : Span Mark} {left : List (Span Mark)} {row : List ℕ} (w : RowFilled all (s ∷ left) a b row) {j : ℕ} (is : Slot s.body j) where
    any_first : total marks any_mark a b (s ∷ left) ≡ part_of a b s + total marks any_mark a b left
    any_first = one_first any_mark a b s left

    kind_first : (i : ℕ) → total marks (kind_at i) a b (s ∷ left) ≡ cond (eqb i j) (part_of a b s) 0 + total marks (kind_at i) a b left
    kind_first i = one_first (kind_at i) a b s left ∙ ap (λ (q : Bool). cond q (part_of a b s) 0 + total marks (kind_at i) a b left) (kind_slot s.body is i)

    own_first : total marks (kind_at j) a b (s ∷ left) ≡ part_of a b s + total marks (kind_at j) a b left
    own_first = kind_first j ∙ ap (λ (q : Bool). cond q (part_of a b s) 0 + total marks (kind_at j) a b left) (eq-eqb j j refl)

    pub takes : part_of a b s ≤ get_or row nowhere_slot 0
    takes = omega (arith, w.rest, any_first)

    pub gets : get_or row j 0 + part_of a b s ≤ b - a
    gets = omega (arith, w.each j (slot_small s.body is), own_first, fits (kind_at j) a b)

    -- the row with the stretch's slot grown
    abbrev grown : List ℕ
    grown = set row j (get_or row j 0 + part_of a b s)

    grown_long : length grown ≡ many_totals
    grown_long = length-set row j (get_or row j 0 + part_of a b s) ∙ w.long

    grown_each : (i : ℕ) → i < nowhere_slot → Dec (i ≡ j) → get_or grown i 0 + total marks (kind_at i) a b left ≡ total marks (kind_at i) a b all
    grown_each i h (yes q) =
        let l = slot_small s.body is in
        let g = get_or-set_same row j (get_or row j 0 + part_of a b s) 0 (omega (arith, w.long)) in
        rw q (omega (arith, g, w.each j l, own_first))
    grown_each i h (no q) =
        let g = get_or-set_other row j i (get_or row j 0 + part_of a b s) 0 q in
        let z = kind_first i ∙ ap (λ (x : Bool). cond x (part_of a b s) 0 + total marks (kind_at i) a b left) (ne_eqb i j q) in
        omega (arith, g, w.each i h, z)

    pub filled_one : {n : ℕ} → n ≡ part_of a b s → {row' : List ℕ} → row' ≡ shifted row j n → RowFilled all left a b row'
    filled_one e f =
        let rest = get_or row nowhere_slot 0 - part_of a b s in
        rw (f, e)
        (record {
          long = length-set grown nowhere_slot rest ∙ grown_long;
          each = λ i h.
              ap (λ (x : ℕ). x + total marks (kind_at i) a b left) (get_or-set_other grown nowhere_slot i rest 0 (λ z. omega arith)) ∙ grown_each i h (ℕ_discrete i j);
          rest = get_or-set_same grown nowhere_slot rest 0 (omega (arith, grown_long)) ∙ omega (arith, w.rest, any_first);
        })
