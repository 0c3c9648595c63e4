-- A row's segments and events, read one after the other. Assumes nothing.
use Prim.Native.Nat.{ℕ, zero, suc, ◌+◌, ◌-◌, ◌≤◌, ◌<◌}
use native.Mathlib.Omega.{arith}
use mathlib.Core.Path.{◌≡◌, ap, subst}
use mathlib.Core.Bool.{true}
use mathlib.Core.List.{List, [], ◌++◌}
use lib.ListN.{length}
use Rattle.rows.specs.Rows.{good_row, event_of, events_from, segments, segments_at}
use Rattle.rows.specs.Telling.{segment_of, span_of, end_of}
use Rattle.rows.specs.declared.RowSegment.{RowSegment}
use Rattle.rows.proofs.Places.{segments_end}
use Rattle.rows.proofs.Laws.{InRow, row_in, Segmented, end_after, row_on, row_split}
use Rattle.answer.specs.Forms.{event_size}
use Rattle.listing.specs.Listing.{event_line, event_lines, segment_lines, all_lines}
use Rattle.listing.specs.Private.{Puts}
use Rattle.listing.proofs.Writing.{Going, ends}

-- ---- segments are counted

pub record Counting (s : List ℕ) (at seen : ℕ) : Type 0 where
  pub here : InRow s at
  pub all : seen + length (segments_at s at) ≡ length (segments s)
  pub few : seen ≤ at

pub count_none : {s : List ℕ} → good_row s ≡ true → Counting s 0 0
count_none {s} e = record { here = row_in s e; all = omega arith; few = omega arith }

pub count_one : {s : List ℕ} {at seen : ℕ} → Counting s at seen → Segmented s at → {g : RowSegment} → g ≡ segment_of s at → Counting s (end_of g) (seen + 1)
count_one {s} {at} {seen} c t {g} e =
    let l = ap length (row_split t e) in
    record { here = row_on t e; all = omega (arith, c.all, l); few = omega (arith, c.few, end_after t e) }

pub count_over : {s : List ℕ} {at seen : ℕ} → Counting s at seen → at ≡ length s → seen ≡ length (segments s)
count_over {s} {at} c e = let l = ap length (segments_end s at e) in omega (arith, c.all, l)

-- ---- segments are listed

pub list_one : {old whole s new : List ℕ} {at from next : ℕ} → Going old at whole (all_lines (segments_at s from)) new next → Segmented s from
    → {g : RowSegment} → g ≡ segment_of s from → Going old at whole (segment_lines (span_of s g) ++ all_lines (segments_at s (end_of g))) new next
unfolding all_lines
list_one w t e = rw (row_split t e) at w

pub list_over : {old whole new : List ℕ} {at next : ℕ} (s : List ℕ) (from : ℕ) → Going old at whole (all_lines (segments_at s from)) new next
    → from ≡ length s
    → Puts old at whole new next
unfolding all_lines
list_over {old} {whole} {new} {at} {next} s from w e = let v : Going old at whole [] new next = rw (segments_end s from e) at w in ends v

-- ---- events are listed

events_cons : (s : List ℕ) (from n : ℕ) → 0 < n
    → event_lines (events_from s from n) ≡ event_line (event_of s from) ++ event_lines (events_from s (from + event_size) (n - 1))
unfolding events_from event_lines
events_cons s from zero h = absurd (omega arith)
events_cons s from (suc n) h = let z : suc n - 1 ≡ n = omega arith in rw z

pub event_one : {old whole new : List ℕ} {at next : ℕ} (s : List ℕ) (from n : ℕ) → 0 < n → Going old at whole (event_lines (events_from s from n)) new next
    → Going old at whole (event_line (event_of s from) ++ event_lines (events_from s (from + event_size) (n - 1))) new next
event_one s from n h g = rw (events_cons s from n h) at g

pub event_none : {old whole new : List ℕ} {at next : ℕ} (s : List ℕ) (from n : ℕ) → n ≡ 0 → Going old at whole (event_lines (events_from s from n)) new next
    → Puts old at whole new next
unfolding events_from event_lines
event_none {old} {whole} {new} {at} {next} s from n h g = let v : Going old at whole [] new next = rw h at g in ends v

-- the event that was read is the one that stands there
pub same_event : (s : List ℕ) (from a c : ℕ) → a ≡ (event_of s from).at → c ≡ (event_of s from).code
    → event_line (record { at = a; code = c }) ≡ event_line (event_of s from)
same_event s from a c e f = rw (e, f)

pub event_put : {old new : List ℕ} {at next : ℕ} (s : List ℕ) (from a c : ℕ) → a ≡ (event_of s from).at → c ≡ (event_of s from).code
    → Puts old at (event_line (record { at = a; code = c })) new next → Puts old at (event_line (event_of s from)) new next
event_put {old} {new} {at} {next} s from a c e f p = subst (λ (v : List ℕ). Puts old at v new next) (same_event s from a c e f) p
