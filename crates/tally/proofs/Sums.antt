-- The ten totals of a row add up to its length, the rows' totals to the closing ones, and no total is longer than its row. Assumes nothing.
use mathlib.Core.Path.{◌≡◌, refl, ap, subst, ◌∙◌}
use mathlib.Core.Bool.{Bool, true, false, cond}
use mathlib.Core.List.{List, [], ◌∷◌}
use Rattle.std.specs.Prelude.{Option, None, Some}
use Prim.Native.Nat.{ℕ, zero, suc, ◌+◌, ◌-◌, ◌*◌, ◌/◌, ◌≤◌, min, max}
use native.Mathlib.Omega.{arith}
use native.Mathlib.Decide.{dec_le}
use borrow.Author.Tests.{ltb-false}
use lib.Dec.{ltb}
use lib.IntN.{ℤ}
use Rattle.zone.specs.Units.{day_ns, instant_of}
use Rattle.records.specs.Limits.{base}
use Rattle.records.specs.Records.{Coverage}
use Rattle.records.specs.Book.{refusal, records}
use Rattle.records.specs.Valid.{Bytes}
use Rattle.venue.specs.Opening.{coverage_of}
use Rattle.spans.specs.Spans.{Mark, phase, unknown, Span, Body, look, Within}
use Rattle.spans.specs.Timeline.{Part, blank}
use Rattle.spans.specs.Totals.{is_phase, is_unknown, any_mark, total, bit, count, shows}
use Rattle.spans.proofs.Totals.{total_count}
use Rattle.day.specs.Days.{values_of}
use Rattle.query.specs.Judging.{window_refusal}
use Rattle.query.proofs.Order.{window_passed}
use Rattle.span_records.specs.Shown.{Shown}
use Rattle.timeline.specs.Asking.{segments_by}
use Rattle.timeline.specs.Segments.{segments, mark_of, timeline_of}
use Rattle.timeline.proofs.Shape.{window_shape}
use Rattle.timeline.proofs.Bounds.{Bodies, Shows, row_most, bodies_keep, segments_good}
use Rattle.tally_rows.specs.Rows.{row_end, rows_from, rows_of, row_totals}
use Rattle.tally_rows.specs.OpenRows.{Low}
use Rattle.tally.proofs.Raw.{backwards}

abbrev pub sum : List ℕ → ℕ
sum [] = 0
sum (x ∷ xs) = x + sum xs

abbrev pub sum_over : (Part → ℕ) → List Part → ℕ
sum_over f [] = 0
sum_over f (r ∷ rs) = f r + sum_over f rs

-- ---- counting

bit_most : (q : Bool) → bit q ≤ 1
bit_most true = omega arith
bit_most false = omega arith

count_most : (P : ℕ → Bool) (a n : ℕ) → count P a n ≤ n
unfolding count
count_most P a zero = omega arith
count_most P a (suc n) = omega (arith, count_most P a n, bit_most (P (a + n)))

count_append : (P : ℕ → Bool) (a n m : ℕ) → count P a (n + m) ≡ count P a n + count P (a + n) m
unfolding count
count_append P a n zero = let z : n + 0 ≡ n = omega arith in rw z (omega arith)
count_append P a n (suc m) =
    let z : n + suc m ≡ suc (n + m) = omega arith in
    let y : a + (n + m) ≡ a + n + m = omega arith in
    let on = count_append P a n m in
    rw (z, y) (omega (arith, on))

-- ---- rows

-- what adds up over two rows adds up over all
rows_add : (F : ℕ → ℕ → ℕ) → ((a b c : ℕ) → a ≤ b → b ≤ c → F a b + F b c ≡ F a c) → (n end at : ℕ) → at ≤ end → end ≤ at + n * day_ns
    → sum_over (λ (r : Part). F r.start r.end) (rows_from n end at) ≡ F at end
unfolding rows_from
rows_add F add zero end at h e =
    let q : end ≡ at = omega arith in
    rw q (let z = add at at at (omega arith) (omega arith) in omega (arith, z))
rows_add F add (suc n) end at h e = go (ltb at end) refl (rows_add F add n end (row_end end at) (omega arith) (omega arith))
  where
    next : ℕ
    next = row_end end at

    go : (q : Bool) → ltb at end ≡ q → sum_over (λ (r : Part). F r.start r.end) (rows_from n end next) ≡ F next end
        → sum_over (λ (r : Part). F r.start r.end) (cond q (record { start = at; end = next } ∷ rows_from n end next) []) ≡ F at end
    go true i on = ap (λ (x : ℕ). F at next + x) on ∙ add at next end (omega arith) (omega arith)
    go false i on =
        let l = ltb-false at end i in
        let q : end ≡ at = omega arith in
        rw q (let z = add at at at (omega arith) (omega arith) in omega (arith, z))

-- ---- a list of spans in order

module _ {A : Type 0} (B : Body A) (lo hi : ℕ) (ss : List (Span A)) (w : Within lo hi ss) where
  -- whether the list shows such a mark at an instant
  abbrev shows_at : (Mark → Bool) → ℕ → Bool
  shows_at k t = shows k (look B.mark ss t)

  by_count : (k : Mark → Bool) (a b : ℕ) → a ≤ b → total B k a b ss ≡ count (shows_at k) a (b - a)
  by_count k a b h =
      let e : a + (b - a) ≡ b = omega arith in
      subst (λ (x : ℕ). total B k a x ss ≡ count (shows_at k) a (b - a)) e (total_count B k a (b - a) lo hi ss w)

  pub total_small : (k : Mark → Bool) (a b : ℕ) → total B k a b ss ≤ b - a
  total_small k a b = go (dec_le a b)
    where
      go : Dec (a ≤ b) → total B k a b ss ≤ b - a
      go (yes h) = omega (arith, by_count k a b h, count_most (shows_at k) a (b - a))
      go (no h) = omega (arith, backwards B k a b ss (omega arith))

  pub two_rows : (k : Mark → Bool) (a b c : ℕ) → a ≤ b → b ≤ c → total B k a b ss + total B k b c ss ≡ total B k a c ss
  two_rows k a b c h i =
      let m : (b - a) + (c - b) ≡ c - a = omega arith in
      let n : a + (b - a) ≡ b = omega arith in
      let s = count_append (shows_at k) a (b - a) (c - b) in
      let t = ap (count (shows_at k) a) m in
      let u = ap (λ (j : ℕ). count (shows_at k) j (c - b)) n in
      omega (arith, by_count k a b h, by_count k b c i, by_count k a c (omega arith), s, t, u)

  -- what shows no mark
  abbrev holes : ℕ → ℕ → ℕ
  holes a b = (b - a) - total B any_mark a b ss

  two_holes : (a b c : ℕ) → a ≤ b → b ≤ c → holes a b + holes b c ≡ holes a c
  two_holes a b c h i = omega (arith, total_small any_mark a b, total_small any_mark b c, two_rows any_mark a b c h i)

  -- the rows' totals add up to the closing totals
  pub rows_total : (k : Mark → Bool) (start end : ℕ) → start ≤ end
      → sum_over (λ (r : Part). total B k r.start r.end ss) (rows_of start end) ≡ total B k start end ss
  rows_total k start end h = rows_add (λ (a b : ℕ). total B k a b ss) (two_rows k) ((end - start) / day_ns + 1) end start h (omega arith)

  pub rows_hole : (start end : ℕ) → start ≤ end → sum_over (λ (r : Part). holes r.start r.end) (rows_of start end) ≡ holes start end
  rows_hole start end h = rows_add holes two_holes ((end - start) / day_ns + 1) end start h (omega arith)

-- ---- the ten totals of a row

-- a number for each kind of mark
abbrev by_kind : ((Mark → Bool) → ℕ) → ℕ
by_kind f =
    f (is_phase 0)
    + (f (is_phase 1) + (f (is_phase 2) + (f (is_phase 3) + (f (is_phase 4) + (f (is_phase 5) + (f (is_phase 6) + (f (is_phase 7) + f is_unknown)))))))

-- a mark is of one kind
one_kind : (m : Mark) → Low m → (n : ℕ) → by_kind (λ k. cond (k m) n 0) ≡ n
one_kind unknown h n = omega arith
one_kind (phase zero e) h n = omega arith
one_kind (phase (suc zero) e) h n = omega arith
one_kind (phase (suc (suc zero)) e) h n = omega arith
one_kind (phase (suc (suc (suc zero))) e) h n = omega arith
one_kind (phase (suc (suc (suc (suc zero)))) e) h n = omega arith
one_kind (phase (suc (suc (suc (suc (suc zero))))) e) h n = omega arith
one_kind (phase (suc (suc (suc (suc (suc (suc zero)))))) e) h n = omega arith
one_kind (phase (suc (suc (suc (suc (suc (suc (suc zero))))))) e) h n = omega arith
one_kind (phase (suc (suc (suc (suc (suc (suc (suc (suc p)))))))) e) h n = absurd (omega arith)

module _ {A : Type 0} (B : Body A) (a b : ℕ) where
  all_kinds : (ss : List (Span A)) → Bodies (λ (x : A). Low (B.mark x)) ss → by_kind (λ k. total B k a b ss) ≡ total B any_mark a b ss
  unfolding total
  all_kinds [] l = refl
  all_kinds (s ∷ ss) l =
      let on = all_kinds ss l.1 in
      let one = one_kind (B.mark s.body) l.0 (min b s.to - max a s.from) in
      omega arith

  pub row_adds_up : (lo hi : ℕ) (ss : List (Span A)) → Within lo hi ss → Bodies (λ (x : A). Low (B.mark x)) ss → sum (row_totals B a b ss) ≡ b - a
  row_adds_up lo hi ss w l = omega (arith, all_kinds ss l, total_small B lo hi ss w any_mark a b)

-- ---- for every accepted book and every accepted window

low_shown : (x : Option Shown) → Shows row_most x → Low (mark_of x)
low_shown None g = tt
low_shown (Some x) g = omega (arith, g.phase)

abbrev Lows : List (Span (Option Shown)) → Type 0
Lows ss = Bodies (λ (x : Option Shown). Low (mark_of x)) ss

low_all : (ss : List (Span (Option Shown))) → Bodies (Shows row_most) ss → Lows ss
low_all [] g = tt
low_all (s ∷ ss) g = (low_shown s.body g.0, low_all ss g.1)

pub record Sums (tl : List (Span (Option Shown))) (start end : ℕ) : Type 0 where
  pub each : (a b : ℕ) → sum (row_totals segments a b tl) ≡ b - a
  pub rows : (k : Mark → Bool) → sum_over (λ (r : Part). total segments k r.start r.end tl) (rows_of start end) ≡ total segments k start end tl
  pub holes :
      sum_over (λ (r : Part). (r.end - r.start) - total segments any_mark r.start r.end tl) (rows_of start end) ≡ (end - start) - total segments any_mark start end tl
  pub small : (k : Mark → Bool) (a b : ℕ) → total segments k a b tl ≤ b - a

module _ (s : List ℕ) (b : Bytes s) (m n : ℤ) (accepted : refusal base s ≡ 0) (passes : window_refusal m n ≡ 0) where
  abbrev window : Part
  window = record { start = instant_of m; end = instant_of n }

  abbrev tl : List (Span (Option Shown))
  tl = segments_by (records s) window (coverage_of (records s))

  lows : Lows tl
  unfolding blank
  lows = go (coverage_of (records s)) refl
    where
      go : (o : Option Coverage) → coverage_of (records s) ≡ o → Lows (segments_by (records s) window o)
      go None e = bodies_keep (λ (x : Option Shown). Low (mark_of x)) (instant_of m) (instant_of n) None [] tt tt
      go (Some c) e = low_all (timeline_of (values_of (records s) c) window) (segments_good s b accepted c e window)

  pub tally_sums : Sums tl (instant_of m) (instant_of n)
  tally_sums =
      let w = (window_shape s m n accepted passes).within in
      let h = (window_passed m n passes).order in
      record {
        each = λ x y. row_adds_up segments x y (instant_of m) (instant_of n) tl w lows;
        rows = λ k. rows_total segments (instant_of m) (instant_of n) tl w k (instant_of m) (instant_of n) (omega arith);
        holes = rows_hole segments (instant_of m) (instant_of n) tl w (instant_of m) (instant_of n) (omega arith);
        small = total_small segments (instant_of m) (instant_of n) tl w;
      }
