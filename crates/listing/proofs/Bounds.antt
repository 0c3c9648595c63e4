-- How long the text can be: two bytes for each of the answer's, and a first line. Assumes nothing.
use Prim.Native.Nat.{ℕ, zero, suc, ◌+◌, ◌*◌, ◌^◌, ◌≤◌, ◌<◌}
use native.Mathlib.Nat.{mod-lt}
use native.Mathlib.Omega.{arith}
use mathlib.Core.Path.{◌≡◌}
use mathlib.Core.Bool.{Bool, true, false}
use mathlib.Core.List.{List, [], ◌∷◌}
use lib.ListN.{length, length-append}
use Rattle.wire.proofs.Reading.{field_below}
use Rattle.records.specs.Layout.{Place, number}
use Rattle.records.specs.Valid.{Bytes}
use Rattle.records.specs.Book.{last_phase}
use Rattle.spans.specs.Spans.{phase, unknown}
use Rattle.answer.specs.Forms
use Rattle.rows.specs.Rows.{placed_at, from_at, to_at, count_at, behind_phase, behind_gap, event_of, events_from, phase_seen, gap_seen, segments, segments_at, enough, good_from, good_row}
use Rattle.rows.proofs.Turns.{phase_holds, gap_holds, mark_holds, Goes, ends, phases, gaps, anew, none, goes}
use Rattle.rows.proofs.Places.{segments_end, segments_phase, segments_gap, segments_mark}
use Rattle.answer.specs.Forms.{phase_size, event_size}
use Rattle.listing.specs.Text.{decimal, instant, fields}
use Rattle.listing.specs.Listing.{most, text_bytes, head_line, segment_line, event_line, event_lines, segment_lines, all_lines, row_text}
use Rattle.listing.specs.Private.{TextFits}
use Rattle.listing.proofs.Numbers.{decimal_64, instant_short}

-- a field and those behind it
behind : (f : List ℕ) (fs : List (List ℕ)) (k m : ℕ) → length f ≤ k → length (fields fs) ≤ m → length (fields (f ∷ fs)) ≤ k + m + 1
behind f fs k m a b = omega (arith, length-append f (fields fs))

pub head_short : (n count : ℕ) → n < 2 ^ 64 → count < 2 ^ 64 → length (head_line n count) ≤ 51
unfolding head_line
head_short n count a b =
    omega (arith, behind (decimal n) (decimal count ∷ []) 20 22 (decimal_64 n a) (behind (decimal count) [] 20 1 (decimal_64 count b) (omega arith)))

unknown_short : (a b : ℕ) → a < 2 ^ 64 → b < 2 ^ 64 → length (segment_line a b unknown) ≤ 46
unknown_short a b i j = omega (arith, behind (instant a) (instant b ∷ []) 21 23 (instant_short a i) (behind (instant b) [] 21 1 (instant_short b j) (omega arith)))

phase_short : (a b p e : ℕ) → a < 2 ^ 64 → b < 2 ^ 64 → p < 2 ^ 64 → e < 2 ^ 64 → length (segment_line a b (phase p e)) ≤ 88
phase_short a b p e i j k l =
    omega (
      arith,
      behind (instant a) (instant b ∷ decimal p ∷ decimal e ∷ []) 21 65 (instant_short a i)
          (behind (instant b) (decimal p ∷ decimal e ∷ []) 21 43 (instant_short b j)
          (behind (decimal p) (decimal e ∷ []) 20 22 (decimal_64 p k) (behind (decimal e) [] 20 1 (decimal_64 e l) (omega arith)))),
    )

event_short : (a c : ℕ) → a < 2 ^ 64 → c < 2 ^ 64 → length (event_line (record { at = a; code = c })) ≤ 45
event_short a c i j = omega (arith, behind (instant a) (decimal c ∷ []) 21 22 (instant_short a i) (behind (decimal c) [] 20 1 (decimal_64 c j) (omega arith)))

module _ (s : List ℕ) (b : Bytes s) where
  placed_64 : (p : Place) (at : ℕ) → placed_at p s at < 2 ^ 64
  placed_64 p at = mod-lt _ (omega arith)

  two_64 : (at : ℕ) (p : ℕ) → number (record { from = p; width = 2 }) s at < 2 ^ 64
  two_64 at p = omega (arith, field_below 2 s (at + p) b)

  events_short : (at n : ℕ) → length (event_lines (events_from s at n)) ≤ 45 * n
  unfolding event_lines events_from
  events_short at zero = omega arith
  events_short at (suc n) =
      let e = event_short (event_of s at).at (event_of s at).code (placed_64 Forms.event_at at) (two_64 at (Forms.event_code).from) in
      omega (arith, e, events_short (at + event_size) n, length-append (event_line (event_of s at)) (event_lines (events_from s (at + event_size) n)))

  phase_lines : (at : ℕ) → number Forms.phase_place s at ≤ last_phase → length (segment_lines (phase_seen s at)) ≤ 88 + 45 * count_at s at
  phase_lines at h =
      let p = number Forms.phase_place s at in
      let e = number Forms.evidence_place s at in
      let one = phase_short (from_at s at) (to_at s at) p e (placed_64 Forms.start at) (placed_64 Forms.end at) (omega arith) (two_64 at (Forms.evidence_place).from) in
      omega (arith, one, events_short (at + phase_size) (count_at s at), length-append (segment_line (from_at s at) (to_at s at) (phase p e)) (event_lines (events_from s (at + phase_size) (count_at s at))))

  gap_lines : (at : ℕ) → length (segment_lines (gap_seen s at)) ≤ 46
  unfolding event_lines
  gap_lines at =
      let one = unknown_short (from_at s at) (to_at s at) (placed_64 Forms.start at) (placed_64 Forms.end at) in
      omega (arith, one, length-append (segment_line (from_at s at) (to_at s at) unknown) [])

  -- of what stands from `at` on
  abbrev Short : ℕ → Type 0
  Short at = (length (all_lines (segments_at s at)) + 2 * at ≤ 2 * length s) × (length (segments_at s at) + at ≤ length s)

  lines_short : (marks : Bool) (n at least : ℕ) → good_from marks n s at least ≡ true → Short at
  unfolding all_lines
  lines_short marks zero at least g = absurd (none marks s at least g)
  lines_short marks (suc n) at least g = go (goes marks s at least n g) (λ p l. lines_short marks n p l)
    where
      go : Goes marks n s at least → ((p l : ℕ) → good_from marks n s p l ≡ true → Short p) → Short at
      go (ends e) on = rw (segments_end s at e) (omega arith, omega arith)
      go (phases p l v f) on =
          let t = phase_holds s at p in
          let more = on (behind_phase s at) (to_at s at) f in
          let one = phase_lines at t.listed in
          let a = length-append (segment_lines (phase_seen s at)) (all_lines (segments_at s (behind_phase s at))) in
          rw (segments_phase s at (omega (arith, t.whole)) t.kind) (omega (arith, more.0, one, a), omega (arith, more.1))
      go (gaps p l f) on =
          let t = gap_holds s at p in
          let more = on (behind_gap at) (to_at s at) f in
          let one = gap_lines at in
          let a = length-append (segment_lines (gap_seen s at)) (all_lines (segments_at s (behind_gap at))) in
          rw (segments_gap s at (omega (arith, t.whole)) t.kind) (omega (arith, more.0, one, a), omega (arith, more.1))
      go (anew e p f) on = let t = mark_holds s at p in rw (segments_mark s at (omega (arith, t.0)) t.1) (omega (arith, t.0), omega (arith, t.0))

  pub row_short : good_row s ≡ true → length s ≤ most → length (row_text (segments s)) ≤ text_bytes
  unfolding good_row
  row_short e h =
      let w = lines_short false (enough s) 0 0 e in
      let f = head_short 0 (length (segments s)) (omega arith) (omega (arith, w.1)) in
      omega (arith, w.0, f, length-append (head_line 0 (length (segments s))) (all_lines (segments s)))

  pub row_fits : (out : List ℕ) → good_row s ≡ true → length s ≤ most → text_bytes ≤ length out → TextFits 0 (row_text (segments s)) out
  row_fits out e h r = record { inside = omega (arith, row_short e h) }

-- a line alone
pub head_fits : (n count : ℕ) (out : List ℕ) → n < 2 ^ 64 → count < 2 ^ 64 → text_bytes ≤ length out → TextFits 0 (head_line n count) out
head_fits n count out a b h = record { inside = omega (arith, head_short n count a b) }
