-- What stands at a place does not depend on how many records are looked at, and is what is read there. Assumes nothing.
use mathlib.Core.Path.{◌≡◌, refl, sym, ap, ◌∙◌}
use mathlib.Core.Bool.{Bool, true, false, cond, ◌&&◌, ◌||◌}
use mathlib.Core.List.{List, [], ◌∷◌}
use Prim.Native.Nat.{ℕ, zero, suc, ◌+◌, ◌*◌, ◌≤◌, ◌<◌, min}
use native.Mathlib.Omega.{arith}
use borrow.Author.Tests.{le-leb, lt-leb, leb-false, eq-eqb, ne_eqb}
use lib.Dec.{leb, eqb}
use lib.ListN.{length}
use Rattle.records.specs.Layout.{number, kind}
use Rattle.spans.specs.Spans.{Span}
use Rattle.answer.specs.Forms
use Rattle.answer.specs.Forms.{phase_kind, gap_kind, mark_kind, phase_size, gap_size, event_size}
use Rattle.rows.specs.Rows.{Seen, Row, from_at, to_at, count_at, behind_phase, behind_gap, behind_mark, enough, left, phase_seen, gap_seen}
use Rattle.rows.specs.Rows.{good_phase, good_gap, good_segment, good_mark, good_events, good_from, good_at, events_from, segments_from, segments_at, mark_from, rows_from}
use Rattle.rows.specs.Telling.{phase_segment, gap_segment, segment_of, span_of, end_of, good_on, mark_at, rows_at}
use Rattle.rows.specs.declared.RowSegment.{RowSegment}
use Rattle.rows.proofs.Turns.{phase_holds, gap_holds, mark_holds, within, phase_on, gap_on}

module _ (s : List ℕ) where
  -- ---- with enough looks it does not matter how many

  segments_past : (n at : ℕ) → length s ≤ at → segments_from n s at ≡ []
  unfolding segments_from
  segments_past zero at h = refl
  segments_past (suc n) at h = simp (le-leb (length s) at h)

  mark_past : (n at : ℕ) → length s ≤ at → mark_from n s at ≡ length s
  unfolding mark_from
  mark_past zero at h = refl
  mark_past (suc n) at h = simp (le-leb (length s) at h)

  rows_past : (n at : ℕ) → length s ≤ at → rows_from n s at ≡ []
  unfolding rows_from
  rows_past zero at h = refl
  rows_past (suc n) at h = simp (le-leb (length s) at h)

  module _ (marks : Bool) where
    good_past : (n at least : ℕ) → length s < at → good_from marks n s at least ≡ false
    good_past n at least h = go (good_from marks n s at least) refl
      where
        go : (b : Bool) → good_from marks n s at least ≡ b → b ≡ false
        go true e = absurd (omega (arith, within marks s at least n e))
        go false e = refl

    good_looks : (n m at least : ℕ) → length s < at + n → length s < at + m → good_from marks n s at least ≡ good_from marks m s at least
    unfolding good_from
    good_looks zero m at least h k = sym (good_past m at least (omega arith))
    good_looks (suc n) zero at least h k = good_past (suc n) at least (omega arith)
    good_looks (suc n) (suc m) at least h k =
        rw (
          good_looks n m (behind_phase s at) (to_at s at) (omega arith) (omega arith),
          good_looks n m (behind_gap at) (to_at s at) (omega arith) (omega arith),
          good_looks n m (behind_mark at) 0 (omega arith) (omega arith),
        )

    -- with one look taken
    pub good_look : (at least : ℕ) → at ≤ length s → good_at marks s at least ≡ good_from marks (enough s) s at least
    good_look at least h = good_looks (left s at) (enough s) at least (omega arith) (omega arith)

    pub good_left : (at least b l : ℕ) → at < b → good_from marks (length s) s b l ≡ good_at marks s b l
    good_left at least b l h = good_looks (length s) (left s b) b l (omega arith) (omega arith)

  segments_looks : (n m at : ℕ) → length s < at + n → length s < at + m → segments_from n s at ≡ segments_from m s at
  unfolding segments_from
  segments_looks zero m at h k = sym (segments_past m at (omega arith))
  segments_looks (suc n) zero at h k = segments_past (suc n) at (omega arith)
  segments_looks (suc n) (suc m) at h k =
      rw (segments_looks n m (behind_phase s at) (omega arith) (omega arith), segments_looks n m (behind_gap at) (omega arith) (omega arith))

  mark_looks : (n m at : ℕ) → length s < at + n → length s < at + m → mark_from n s at ≡ mark_from m s at
  unfolding mark_from
  mark_looks zero m at h k = sym (mark_past m at (omega arith))
  mark_looks (suc n) zero at h k = mark_past (suc n) at (omega arith)
  mark_looks (suc n) (suc m) at h k =
      rw (mark_looks n m (behind_phase s at) (omega arith) (omega arith), mark_looks n m (behind_gap at) (omega arith) (omega arith))

  -- the next mark is not before the place
  mark_after : (n at : ℕ) → min at (length s) ≤ mark_from n s at
  unfolding mark_from
  mark_after zero at = omega arith
  mark_after (suc n) at =
      go (leb (length s) at) (eqb (number kind s at) phase_kind) (eqb (number kind s at) gap_kind) (mark_after n (behind_phase s at)) (mark_after n (behind_gap at))
    where
      go : (a b c : Bool) → min (behind_phase s at) (length s) ≤ mark_from n s (behind_phase s at)
          → min (behind_gap at) (length s) ≤ mark_from n s (behind_gap at)
          → min at (length s) ≤ cond a (length s) (cond b (mark_from n s (behind_phase s at)) (cond c (mark_from n s (behind_gap at)) at))
      go true b c p q = omega arith
      go false true c p q = omega arith
      go false false true p q = omega arith
      go false false false p q = omega arith

  rows_looks : (n m at : ℕ) → length s < at + n → length s < at + m → rows_from n s at ≡ rows_from m s at
  unfolding rows_from
  rows_looks zero m at h k = sym (rows_past m at (omega arith))
  rows_looks (suc n) zero at h k = rows_past (suc n) at (omega arith)
  rows_looks (suc n) (suc m) at h k = go (leb (length s) at) refl (rows_looks n m (mark_at s (behind_mark at)))
    where
      go : (a : Bool) → leb (length s) at ≡ a
          → (length s < mark_at s (behind_mark at) + n → length s < mark_at s (behind_mark at) + m → rows_from n s (mark_at s (behind_mark at)) ≡ rows_from m s (mark_at s (behind_mark at)))
          → rows_from (suc n) s at ≡ rows_from (suc m) s at
      go true e on = simp e
      go false e on =
          let l = leb-false (length s) at e in
          let p = mark_after (left s (behind_mark at)) (behind_mark at) in
          rw (on (omega arith) (omega arith))

  -- ---- by what stands there

  module _ (at : ℕ) where
    module _ (e : at ≡ length s) where
      pub segments_end : segments_at s at ≡ []
      segments_end = segments_past (left s at) at (omega arith)

      pub mark_end : mark_at s at ≡ at
      mark_end = mark_past (left s at) at (omega arith) ∙ sym e

      pub rows_end : rows_at s at ≡ []
      rows_end = rows_past (left s at) at (omega arith)

    module _ (h : at < length s) (i : number kind s at ≡ phase_kind) where
      pub segments_phase : segments_at s at ≡ phase_seen s at ∷ segments_at s (behind_phase s at)
      unfolding segments_from
      segments_phase =
          let b = behind_phase s at in
          segments_looks (left s at) (enough s) at (omega arith) (omega arith)
          ∙ simp (lt-leb (length s) at h, i) (ap (λ (t : List (Span Seen)). phase_seen s at ∷ t) (segments_looks (length s) (left s b) b (omega arith) (omega arith)))

      pub mark_phase : mark_at s at ≡ mark_at s (behind_phase s at)
      unfolding mark_from
      mark_phase =
          let b = behind_phase s at in
          mark_looks (left s at) (enough s) at (omega arith) (omega arith)
          ∙ simp (lt-leb (length s) at h, i) (mark_looks (length s) (left s b) b (omega arith) (omega arith))

    module _ (h : at < length s) (i : number kind s at ≡ gap_kind) where
      pub segments_gap : segments_at s at ≡ gap_seen s at ∷ segments_at s (behind_gap at)
      unfolding segments_from
      segments_gap =
          let b = behind_gap at in
          segments_looks (left s at) (enough s) at (omega arith) (omega arith)
          ∙ simp (lt-leb (length s) at h, i) (ap (λ (t : List (Span Seen)). gap_seen s at ∷ t) (segments_looks (length s) (left s b) b (omega arith) (omega arith)))

      pub mark_gap : mark_at s at ≡ mark_at s (behind_gap at)
      unfolding mark_from
      mark_gap =
          let b = behind_gap at in
          mark_looks (left s at) (enough s) at (omega arith) (omega arith)
          ∙ simp (lt-leb (length s) at h, i) (mark_looks (length s) (left s b) b (omega arith) (omega arith))

    module _ (h : at < length s) (i : number kind s at ≡ mark_kind) where
      pub segments_mark : segments_at s at ≡ []
      unfolding segments_from
      segments_mark = segments_looks (left s at) (enough s) at (omega arith) (omega arith) ∙ simp (lt-leb (length s) at h, i)

      pub mark_mark : mark_at s at ≡ at
      unfolding mark_from
      mark_mark = mark_looks (left s at) (enough s) at (omega arith) (omega arith) ∙ simp (lt-leb (length s) at h, i)

    abbrev pub row_at : Row
    row_at = record { number = number Forms.mark_row s at; segments = segments_at s (behind_mark at) }

    pub rows_mark : at < length s → rows_at s at ≡ row_at ∷ rows_at s (mark_at s (behind_mark at))
    unfolding rows_from
    rows_mark h =
        let b = behind_mark at in
        let p = mark_at s b in
        let q = mark_after (left s b) b in
        rows_looks (left s at) (enough s) at (omega arith) (omega arith)
        ∙ simp (lt-leb (length s) at h) (ap (λ (t : List Row). row_at ∷ t) (rows_looks (length s) (left s p) p (omega arith) (omega arith)))

-- ---- a segment, and what follows it

module _ (s : List ℕ) (at : ℕ) where
  pub record SegmentHolds (g : RowSegment) : Type 0 where
    pub after : at < g.behind
    pub inside : g.behind ≤ length s
    pub starts : g.from.0 ≡ from_at s at
    pub forward : g.from.0 < g.to.0
    pub segments : segments_at s at ≡ span_of s g ∷ segments_at s (end_of g)
    pub next : mark_at s at ≡ mark_at s (end_of g)
    pub good : (marks : Bool) (least : ℕ) → least ≤ from_at s at → good_at marks s at least ≡ good_on marks s g.behind g.to.0 g.events

  holds_phase : good_phase s at ≡ true → SegmentHolds (phase_segment s at)
  holds_phase p =
      let f = phase_holds s at p in
      let h : at < length s = omega (arith, f.whole) in
      record {
        after = omega arith;
        inside = f.whole;
        starts = refl;
        forward = f.forward;
        segments = segments_phase s at h f.kind;
        next = mark_phase s at h f.kind;
        good = λ marks least l.
            good_look s marks at least (omega arith) ∙ phase_on marks s at least h p l (length s)
            ∙ ap (λ (b : Bool). good_events s (at + phase_size) (count_at s at) && b) (good_left s marks at least (behind_phase s at) (to_at s at) (omega arith));
      }

  holds_gap : good_phase s at ≡ false → good_gap s at ≡ true → SegmentHolds (gap_segment s at)
  unfolding events_from good_events
  holds_gap p g =
      let f = gap_holds s at g in
      let h : at < length s = omega (arith, f.whole) in
      let z : behind_gap at + event_size * 0 ≡ behind_gap at = omega arith in
      record {
        after = omega arith;
        inside = f.whole;
        starts = refl;
        forward = f.forward;
        segments = rw z (segments_gap s at h f.kind);
        next = rw z (mark_gap s at h f.kind);
        good = λ marks least l. rw z
            (good_look s marks at least (omega arith) ∙ gap_on marks s at least h p g l (length s) ∙ good_left s marks at least (behind_gap at) (to_at s at) (omega arith));
      }

  -- the fields that both kinds have lie in the bytes
  pub segment_room : good_segment s at ≡ true → at + gap_size ≤ length s
  segment_room e = go (good_phase s at) refl e
    where
      go : (b : Bool) → good_phase s at ≡ b → (b || good_gap s at) ≡ true → at + gap_size ≤ length s
      go true i e = omega (arith, (phase_holds s at i).whole)
      go false i e = (gap_holds s at e).whole

  -- and it is no mark
  pub no_mark : good_segment s at ≡ true → good_mark s at ≡ false
  no_mark e = go (good_phase s at) (good_mark s at) refl refl e
    where
      go : (b m : Bool) → good_phase s at ≡ b → good_mark s at ≡ m → (b || good_gap s at) ≡ true → m ≡ false
      go b false i j e = refl
      go true true i j e = absurd (omega (arith, (phase_holds s at i).kind, (mark_holds s at j).1))
      go false true i j e = absurd (omega (arith, (gap_holds s at e).kind, (mark_holds s at j).1))

  pub no_segment : good_mark s at ≡ true → (good_phase s at ≡ false) × (good_gap s at ≡ false)
  no_segment m = (go (good_phase s at) refl, on (good_gap s at) refl)
    where
      go : (b : Bool) → good_phase s at ≡ b → b ≡ false
      go true i = absurd (omega (arith, (phase_holds s at i).kind, (mark_holds s at m).1))
      go false i = refl

      on : (b : Bool) → good_gap s at ≡ b → b ≡ false
      on true i = absurd (omega (arith, (gap_holds s at i).kind, (mark_holds s at m).1))
      on false i = refl

  pub phase_room : good_segment s at ≡ true → number kind s at ≡ phase_kind → at + phase_size ≤ length s
  phase_room e k = go (good_phase s at) refl e
    where
      go : (b : Bool) → good_phase s at ≡ b → (b || good_gap s at) ≡ true → at + phase_size ≤ length s
      go true i e = (phase_holds s at i).whole
      go false i e = absurd (omega (arith, k, (gap_holds s at e).kind))

  pub holds : good_segment s at ≡ true → SegmentHolds (segment_of s at)
  holds e = go (good_phase s at) refl e
    where
      go : (b : Bool) → good_phase s at ≡ b → (b || good_gap s at) ≡ true → SegmentHolds (segment_of s at)
      go true i e = rw (eq-eqb (number kind s at) phase_kind (phase_holds s at i).kind) (holds_phase i)
      go false i e = rw (ne_eqb (number kind s at) phase_kind (λ z. omega (arith, (gap_holds s at e).kind))) (holds_gap i e)
