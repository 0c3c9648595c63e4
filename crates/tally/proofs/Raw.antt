-- Totals by the stretches of a walk are totals by the joined timeline. Assumes nothing.
use mathlib.Core.Path.{◌≡◌, refl, sym, ap, ap₂, subst, ◌∙◌}
use mathlib.Core.Bool.{Bool, true, false, cond}
use mathlib.Core.List.{List, [], ◌∷◌, ◌++◌, map}
use Rattle.std.specs.Prelude.{Option, None, Some}
use Prim.Native.Nat.{ℕ, ◌+◌, ◌-◌, ◌≤◌, ◌<◌, min, max}
use native.Mathlib.Omega.{arith}
use native.Mathlib.Decide.{dec_le}
use borrow.Author.Tests.{ltb-false}
use lib.Dec.{ltb}
use Rattle.spans.specs.Spans.{Mark, phase, unknown, Span, Body, keep, look, joined, Within}
use Rattle.spans.specs.Timeline.{Venue, Part, turns, walk, unjoined, timeline, blank}
use Rattle.spans.specs.Totals.{is_phase, is_unknown, any_mark, total, shows}
use Rattle.spans.proofs.Joining.{joined_within, joined_look}
use Rattle.spans.proofs.Mapping.{on_spans, walk_map}
use Rattle.spans.proofs.Shape.{unjoined_within}
use Rattle.spans.proofs.Totals.{same_count, total_count}
use Rattle.day.specs.Days.{Values, Held, venue_by, venue_of}
use Rattle.answer.specs.Forms.{Form, tally}
use Rattle.answer.specs.Meaning.{totals_of}
use Rattle.span_records.specs.Shown.{Shown, shown}
use Rattle.timeline.specs.Segments.{segments, showing, timeline_of}
use Rattle.timeline.proofs.Parts.{merges}
use Rattle.tally_rows.specs.Rows.{rows_of, row_totals, day_form, forms_by}
use Rattle.tally_rows.specs.OpenRows.{marks, stretch_of}
use Rattle.tally.specs.Private.{held_mark, raw_blank, raw_of}

-- ---- lists of spans

module _ {A : Type 0} (B : Body A) (k : Mark → Bool) (x y : ℕ) where
  -- a row that ends before it begins holds nothing
  pub backwards : (ss : List (Span A)) → y ≤ x → total B k x y ss ≡ 0
  unfolding total
  backwards [] h = refl
  backwards (s ∷ ss) h = go (k (B.mark s.body)) (backwards ss h)
    where
      go : (q : Bool) → total B k x y ss ≡ 0 → cond q (min y s.to - max x s.from) 0 + total B k x y ss ≡ 0
      go true e = omega arith
      go false e = omega arith

  pub append_total : (xs ys : List (Span A)) → total B k x y (xs ++ ys) ≡ total B k x y xs + total B k x y ys
  unfolding total
  append_total [] ys = omega arith
  append_total (s ∷ xs) ys = let e = append_total xs ys in omega arith

  keep_total : (a b : ℕ) (m : A) (rest : List (Span A)) → total B k x y (keep a b m rest) ≡ cond (k (B.mark m)) (min y b - max x a) 0 + total B k x y rest
  unfolding keep total
  keep_total a b m rest = go (ltb a b) refl (k (B.mark m))
    where
      go : (q : Bool) → ltb a b ≡ q → (p : Bool)
          → total B k x y (cond q (record { from = a; to = b; body = m } ∷ rest) rest) ≡ cond (k (B.mark m)) (min y b - max x a) 0 + total B k x y rest
      go true e p = refl
      go false e p = let h = ltb-false a b e in let z : min y b - max x a ≡ 0 = omega arith in rw z (none (k (B.mark m)))
        where
          none : (p : Bool) → total B k x y rest ≡ cond p 0 0 + total B k x y rest
          none true = omega arith
          none false = omega arith

-- joining changes no total
module _ {A : Type 0} (B : Body A) (merged : (a b : A) → B.mark (B.merge a b) ≡ B.mark a) (lo hi : ℕ) (ss : List (Span A)) (w : Within lo hi ss) where
  pub joined_total : (k : Mark → Bool) (x y : ℕ) → total B k x y (joined B ss) ≡ total B k x y ss
  joined_total k x y = go (dec_le x y)
    where
      go : Dec (x ≤ y) → total B k x y (joined B ss) ≡ total B k x y ss
      go (no h) = backwards B k x y (joined B ss) (omega arith) ∙ sym (backwards B k x y ss (omega arith))
      go (yes h) =
          let n = y - x in
          let e : x + n ≡ y = omega arith in
          subst (λ (z : ℕ). total B k x z (joined B ss) ≡ total B k x z ss) e
          (total_count B k x n lo hi (joined B ss) (joined_within B lo hi ss w)
          ∙ same_count (λ t. shows k (look B.mark (joined B ss) t)) (λ t. shows k (look B.mark ss t)) x n
          (λ t i j. ap (shows k) (joined_look B merged lo hi t ss w))
          ∙ sym (total_count B k x n lo hi ss w))

-- ---- the stretches of a walk

module _ (v : Values) where
  abbrev shows_held : Held → Option Shown
  shows_held h = Some (shown v.zone v.events h)

  abbrev venue : Venue (Option Shown)
  venue = showing v.zone v.governing v.events

  held_total : (k : Mark → Bool) (x y : ℕ) (ss : List (Span Held)) → total marks k x y (map held_mark ss) ≡ total segments k x y (on_spans shows_held ss)
  unfolding total
  held_total k x y [] = refl
  held_total k x y (s ∷ ss) =
      ap (λ (n : ℕ). cond (k (phase s.body.phase s.body.rule.evidence)) (min y s.to - max x s.from) 0 + n) (held_total k x y ss)

  module _ (start end : ℕ) (covers : v.coverage.start < v.coverage.end) (h : start < end) where
    abbrev window : Part
    window = record { start = start; end = end }

    raw_unjoined : (k : Mark → Bool) (x y : ℕ) → total marks k x y (raw_of v start end) ≡ total segments k x y (unjoined venue None v.coverage window)
    unfolding unjoined total
    raw_unjoined k x y =
        let lo = max start v.coverage.start in
        let hi = min end v.coverage.end in
        let before = min end v.coverage.start in
        let after = max start v.coverage.end in
        let ws = walk (venue_of v) hi turns lo in
        let rest : List (Span (Option Shown)) = walk venue hi turns lo ++ keep after end None [] in
        let last : List (Span Mark) = stretch_of after end unknown ∷ [] in
        let a = keep_total segments k x y start before None rest in
        let b = append_total segments k x y (walk venue hi turns lo) (keep after end None []) in
        let c = keep_total segments k x y after end None [] in
        let d = append_total marks k x y (map held_mark ws) last in
        let e = held_total k x y ws ∙ ap (total segments k x y) (walk_map shows_held (venue_by v.zone v.governing) hi turns lo) in
        sums (cond (k unknown) (min y before - max x start) 0) (cond (k unknown) (min y end - max x after) 0) a b c d e
      where
        sums : (f g : ℕ) {t w l r m n : ℕ} → t ≡ f + r → r ≡ w + l → l ≡ g + 0 → n ≡ m + (g + 0) → m ≡ w → f + n ≡ t
        sums f g a b c d e = omega arith

    pub raw_total : (k : Mark → Bool) (x y : ℕ) → total marks k x y (raw_of v start end) ≡ total segments k x y (timeline_of v window)
    unfolding timeline
    raw_total k x y =
        let ss = unjoined venue None v.coverage window in
        raw_unjoined k x y ∙ sym (joined_total segments merges start end ss (unjoined_within venue None v.coverage window covers h) k x y)

pub blank_total : (start end : ℕ) (k : Mark → Bool) (x y : ℕ)
    → total marks k x y (raw_blank start end) ≡ total segments k x y (blank None (record { start = start; end = end }))
unfolding blank total
blank_total start end k x y = sym (keep_total segments k x y start end None [])

-- ---- equal totals, equal records

module _ {A C : Type 0} (B : Body A) (D : Body C) (ss : List (Span A)) (ts : List (Span C))
    (same : (k : Mark → Bool) (x y : ℕ) → total B k x y ss ≡ total D k x y ts) where
  pub same_totals : (x y : ℕ) → row_totals B x y ss ≡ row_totals D x y ts
  same_totals x y =
      let p : (i : ℕ) → total B (is_phase i) x y ss ≡ total D (is_phase i) x y ts = λ i. same (is_phase i) x y in
      rw (p 0, p 1, p 2, p 3, p 4, p 5, p 6, p 7, same is_unknown x y, same any_mark x y)

  same_days : (rs : List Part) → map (day_form B ss) rs ≡ map (day_form D ts) rs
  same_days [] = refl
  same_days (r ∷ rs) = let e = same_totals r.start r.end in let f = same_days rs in rw (e, f)

  pub same_forms : (start end : ℕ) → forms_by B ss start end ≡ forms_by D ts start end
  same_forms start end =
      ap₂ (λ (l : List Form) (t : List ℕ). l ++ (tally (totals_of start end t) ∷ [])) (same_days (rows_of start end)) (same_totals start end)
