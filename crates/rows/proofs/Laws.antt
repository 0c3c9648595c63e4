-- What good rows are, for those who read them. Assumes nothing.
use mathlib.Core.Path.{◌≡◌, refl, sym, ap, ◌∙◌}
use mathlib.Core.Bool.{Bool, true, false, ◌&&◌, ◌||◌}
use mathlib.Core.List.{List, [], ◌∷◌}
use Prim.Native.Nat.{ℕ, zero, suc, ◌+◌, ◌-◌, ◌*◌, ◌^◌, ◌≤◌, ◌<◌}
use native.Mathlib.Omega.{arith}
use borrow.Author.Tests.{le-leb, lt-leb, eqb-true, ne_eqb}
use lib.Dec.{eqb}
use lib.ListN.{length}
use Rattle.wire.proofs.Signs.{and_true}
use Rattle.spans.specs.Spans.{Within}
use Rattle.answer.specs.Forms.{event_size}
use Rattle.rows.specs.Rows.{Row, from_at, to_at, behind_phase, behind_gap, behind_mark, enough, left, events_from, segments, segments_at, rows_from, rows}
use Rattle.rows.specs.Rows.{good_phase, good_event, good_segment, good_mark, good_events, good_from, good_at, good_row, good_rows}
use Rattle.rows.specs.Telling.{segment_of, span_of, end_of, good_on, mark_at, rows_at}
use Rattle.rows.specs.declared.RowSegment.{RowSegment}
use Rattle.rows.proofs.Turns.{untrue, phase_holds, gap_holds, mark_holds, event_holds, events_room, mark_on, within, Goes, ends, phases, gaps, anew, none, goes, at_end}
use Rattle.rows.proofs.Places.{holds, segment_room, no_mark, no_segment, good_look, good_left, row_at, rows_mark}
use Rattle.rows.proofs.Places.{segments_end, mark_end, segments_phase, segments_gap, segments_mark, mark_phase, mark_gap, mark_mark}

-- ---- where to begin

-- a row is good if what stands from its first byte on is
pub row_begin : (s : List ℕ) → good_row s ≡ good_on false s 0 0 0
unfolding good_row good_events
row_begin s = let z : enough s - 0 ≡ enough s = omega arith in rw z

either : (a : Bool) {b : Bool} → b ≡ true → (a || b) ≡ true
either true e = refl
either false e = e

-- ---- a good row, segment by segment

-- from `at` on
pub record InRow (s : List ℕ) (at : ℕ) : Type 0 where
  pub least : ℕ
  pub good : good_at false s at least ≡ true

pub row_in : (s : List ℕ) → good_row s ≡ true → InRow s 0
unfolding good_row
row_in s e = let z : enough s - 0 ≡ enough s = omega arith in record { least = 0; good = rw z e }

-- there is a segment, unless the row ends, and behind it and its events the row goes on
pub record Segmented (s : List ℕ) (at : ℕ) : Type 0 where
  pub segment : good_segment s at ≡ true
  pub events : good_events s (segment_of s at).behind (segment_of s at).events ≡ true
  pub inside : end_of (segment_of s at) ≤ length s
  pub on : InRow s (end_of (segment_of s at))

pub segmented : (s : List ℕ) (at : ℕ) → InRow s at → (at ≡ length s → ⊥) → Segmented s at
segmented s at o n =
    let h = within false s at o.least (left s at) o.good in
    go (goes false s at o.least (length s) (sym (good_look s false at o.least h) ∙ o.good))
  where
    by : good_segment s at ≡ true → o.least ≤ from_at s at → Segmented s at
    by g l =
        let t = holds s at g in
        let x = segment_of s at in
        let e = and_true (good_events s x.behind x.events) (good_at false s (end_of x) x.to.0) (sym (t.good false o.least l) ∙ o.good) in
        record {
          segment = g;
          events = e.0;
          inside = events_room s x.behind x.events t.inside e.0;
          on = record { least = x.to.0; good = e.1 };
        }

    go : Goes false (length s) s at o.least → Segmented s at
    go (ends e) = absurd (n e)
    go (phases p l v f) = by (simp p) l
    go (gaps p l f) = by (either (good_phase s at) p) l
    go (anew e p f) = absurd (untrue e)

module _ {s : List ℕ} {at : ℕ} (t : Segmented s at) {g : RowSegment} (e : g ≡ segment_of s at) where
  pub end_inside : end_of g ≤ length s
  end_inside = rw e t.inside

  pub end_after : at < end_of g
  end_after = let h = holds s at t.segment in rw e (omega (arith, h.after))

  pub row_on : InRow s (end_of g)
  row_on = rw e t.on

  pub row_split : segments_at s at ≡ span_of s g ∷ segments_at s (end_of g)
  row_split = rw e (holds s at t.segment).segments

-- ---- marked rows

-- they are good if there are none, or if a mark stands first and what stands behind it is good
module _ (s : List ℕ) where
  pub rows_none : length s ≡ 0 → (good_rows s ≡ true) × (rows s ≡ [])
  unfolding good_rows rows_from
  rows_none e = (simp e, simp (le-leb (length s) 0 (omega arith)))

  pub rows_bad : good_on true s 0 0 0 ≡ false → good_rows s ≡ false
  unfolding good_rows good_events
  rows_bad e = go (eqb (length s) 0) refl (good_mark s 0)
    where
      z : enough s - 0 ≡ enough s
      z = omega arith

      go : (b : Bool) → eqb (length s) 0 ≡ b → (m : Bool) → (b || (m && good_from true (enough s) s 0 0)) ≡ false
      go true i m = absurd (untrue (sym e ∙ rw z (at_end true s 0 0 (length s) (sym (eqb-true (length s) 0 i)))))
      go false i true = rw z at e
      go false i false = refl

  pub rows_unmarked : good_segment s 0 ≡ true → good_rows s ≡ false
  unfolding good_rows
  rows_unmarked e =
      let h = segment_room s 0 e in
      simp (ne_eqb (length s) 0 (λ i. omega arith), no_mark s 0 e)

  pub rows_marked : good_mark s 0 ≡ true → good_rows s ≡ good_on true s 6 0 0
  unfolding good_rows good_events
  rows_marked m =
      let h = mark_holds s 0 m in
      let i : 0 < length s = omega (arith, h.0) in
      let o = no_segment s 0 m in
      simp (ne_eqb (length s) 0 (λ e. omega arith), m) (mark_on true s 0 0 i o.0 o.1 m (length s) ∙ good_left s true 0 0 6 0 (omega arith))

  pub rows_first : good_mark s 0 ≡ true → rows s ≡ row_at s 0 ∷ rows_at s (mark_at s 6)
  rows_first m =
      let h = mark_holds s 0 m in
      let z : enough s ≡ left s 0 = omega arith in
      ap (λ (n : ℕ). rows_from n s 0) z ∙ rows_mark s 0 (omega (arith, h.0))

-- no bytes, or a mark first
begun : (s : List ℕ) → good_rows s ≡ true → (good_from true (enough s) s 0 0 ≡ true) × (mark_at s 0 ≡ 0)
unfolding good_rows
begun s e = go (eqb (length s) 0) refl e
  where
    go : (b : Bool) → eqb (length s) 0 ≡ b → (b || (good_mark s 0 && good_from true (enough s) s 0 0)) ≡ true
        → (good_from true (enough s) s 0 0 ≡ true) × (mark_at s 0 ≡ 0)
    go true i q = let z : 0 ≡ length s = sym (eqb-true (length s) 0 i) in (at_end true s 0 0 (length s) z, mark_end s 0 z)
    go false i q =
        let a = and_true (good_mark s 0) (good_from true (enough s) s 0 0) q in
        let m = mark_holds s 0 a.0 in
        (a.1, mark_mark s 0 (omega (arith, m.0)) m.1)

-- ---- segments are not empty, in order, and do not overlap

module _ (marks : Bool) (s : List ℕ) where
  pub within_from : (n at least : ℕ) → good_from marks n s at least ≡ true → least ≤ 2 ^ 64 → Within least (2 ^ 64) (segments_at s at)
  within_from zero at least g h = absurd (none marks s at least g)
  within_from (suc n) at least g h = go (goes marks s at least n g) (λ b l. within_from n b l)
    where
      go : Goes marks n s at least → ((b l : ℕ) → good_from marks n s b l ≡ true → l ≤ 2 ^ 64 → Within l (2 ^ 64) (segments_at s b))
          → Within least (2 ^ 64) (segments_at s at)
      go (ends e) on = rw (segments_end s at e) h
      go (phases p l v f) on =
          let t = phase_holds s at p in
          rw (segments_phase s at (omega (arith, t.whole)) t.kind) (l, t.forward, on (behind_phase s at) (to_at s at) f (omega arith))
      go (gaps p l f) on =
          let t = gap_holds s at p in
          rw (segments_gap s at (omega (arith, t.whole)) t.kind) (l, t.forward, on (behind_gap at) (to_at s at) f (omega arith))
      go (anew e p f) on = let t = mark_holds s at p in rw (segments_mark s at (omega (arith, t.0)) t.1) h

pub good_within : (s : List ℕ) → good_row s ≡ true → Within 0 (2 ^ 64) (segments s)
unfolding good_row
good_within s e = within_from false s (enough s) 0 0 e (omega arith)

-- of every row
abbrev pub RowsWithin : List Row → Type 0
RowsWithin [] = Unit {0}
RowsWithin (r ∷ rs) = Within 0 (2 ^ 64) r.segments × RowsWithin rs

-- a place where no row is open
data AtMark (s : List ℕ) (at : ℕ) : Type 0 where
  over : length s ≤ at → AtMark s at
  begins : good_mark s at ≡ true → (n : ℕ) → good_from true n s (behind_mark at) 0 ≡ true → AtMark s at

to_mark : (s : List ℕ) (n at least : ℕ) → good_from true n s at least ≡ true → AtMark s (mark_at s at)
to_mark s zero at least g = absurd (none true s at least g)
to_mark s (suc n) at least g = go (goes true s at least n g) (λ b l. to_mark s n b l)
  where
    go : Goes true n s at least → ((b l : ℕ) → good_from true n s b l ≡ true → AtMark s (mark_at s b)) → AtMark s (mark_at s at)
    go (ends e) on = rw (mark_end s at e) (over (omega arith))
    go (phases p l v f) on =
        let t = phase_holds s at p in
        rw (mark_phase s at (omega (arith, t.whole)) t.kind) (on (behind_phase s at) (to_at s at) f)
    go (gaps p l f) on = let t = gap_holds s at p in rw (mark_gap s at (omega (arith, t.whole)) t.kind) (on (behind_gap at) (to_at s at) f)
    go (anew e p f) on = let t = mark_holds s at p in rw (mark_mark s at (omega (arith, t.0)) t.1) (begins p n f)

rows_within : (s : List ℕ) (m at : ℕ) → AtMark s at → RowsWithin (rows_from m s at)
unfolding rows_from
rows_within s zero at a = tt
rows_within s (suc m) at (over h) = rw (le-leb (length s) at h) tt
rows_within s (suc m) at (begins p n f) =
    let t = mark_holds s at p in
    let b = behind_mark at in
    rw (lt-leb (length s) at (omega (arith, t.0))) (within_from true s n b 0 f (omega arith), rows_within s m (mark_at s b) (to_mark s n b 0 f))

pub good_rows_within : (s : List ℕ) → good_rows s ≡ true → RowsWithin (rows s)
good_rows_within s e =
    let b = begun s e in
    rows_within s (enough s) 0 (rw b.1 at (to_mark s (enough s) 0 0 b.0))

-- ---- a good row has no mark: the next one is the end

unmarked : (s : List ℕ) (n at least : ℕ) → good_from false n s at least ≡ true → mark_at s at ≡ length s
unmarked s zero at least g = absurd (none false s at least g)
unmarked s (suc n) at least g = go (goes false s at least n g) (λ b l. unmarked s n b l)
  where
    go : Goes false n s at least → ((b l : ℕ) → good_from false n s b l ≡ true → mark_at s b ≡ length s) → mark_at s at ≡ length s
    go (ends e) on = mark_end s at e ∙ e
    go (phases p l v f) on = let t = phase_holds s at p in mark_phase s at (omega (arith, t.whole)) t.kind ∙ on (behind_phase s at) (to_at s at) f
    go (gaps p l f) on = let t = gap_holds s at p in mark_gap s at (omega (arith, t.whole)) t.kind ∙ on (behind_gap at) (to_at s at) f
    go (anew e p f) on = absurd (untrue e)

pub row_unmarked : (s : List ℕ) → good_row s ≡ true → mark_at s 0 ≡ length s
unfolding good_row
row_unmarked s e = unmarked s (enough s) 0 0 e

-- ---- events: as many as are counted, and each stands there whole and good

pub events_counted : (s : List ℕ) (at n : ℕ) → length (events_from s at n) ≡ n
unfolding events_from
events_counted s at zero = refl
events_counted s at (suc n) = ap suc (events_counted s (at + event_size) n)

pub each_event : (s : List ℕ) (at n : ℕ) → good_events s at n ≡ true → (i : ℕ) → i < n
    → (good_event s (at + event_size * i) ≡ true) × (at + event_size * i + event_size ≤ length s)
unfolding good_events
each_event s at zero e i h = absurd (omega arith)
each_event s at (suc n) e zero h =
    let a = and_true (good_event s at) (good_events s (at + event_size) n) e in
    let z : at + event_size * 0 ≡ at = omega arith in
    rw z (a.0, event_holds s at a.0)
each_event s at (suc n) e (suc i) h =
    let a = and_true (good_event s at) (good_events s (at + event_size) n) e in
    let z : at + event_size * suc i ≡ at + event_size + event_size * i = omega arith in
    rw z (each_event s (at + event_size) n a.1 i (omega arith))
