-- The tests of a record, as the code reads them. Assumes nothing.
use mathlib.Core.Path.{◌≡◌, sym, ap, ap₂, ◌∙◌}
use mathlib.Core.Bool.{Bool, true, false, ◌&&◌, ◌||◌}
use mathlib.Core.List.{List}
use Prim.Native.Nat.{ℕ, ◌+◌, ◌≤◌, ◌<◌}
use borrow.Author.Tests.{le-ltb, lt-ltb, eq-eqb, ne_eqb}
use lib.Dec.{ltb, leb}
use lib.ListN.{length}
use Rattle.std.specs.Prelude.{None, Some}
use Rattle.wire.specs.declared.sign.Placed.{Placed}
use Rattle.records.specs.Layout.{number, kind}
use Rattle.answer.specs.Forms
use Rattle.answer.specs.Forms.{phase_kind, phase_length, gap_kind, gap_length, event_kind, event_length, mark_kind, mark_length, phase_size, gap_size}
use Rattle.rows.specs.Rows.{from_at, to_at, count_at, framed, good_phase, good_gap, good_segment, good_event, good_mark}
use Rattle.rows.specs.Telling.{segment_of, stands_at}
use Rattle.rows.specs.declared.Shows.TheVariants.{Phase, Unknown}
use Rattle.rows.specs.declared.Stands.TheVariants as Stands

module _ (s : List ℕ) (at : ℕ) where
  pub phase_unframed : framed phase_kind phase_length s at ≡ false → false ≡ good_phase s at
  unfolding good_phase
  phase_unframed e = simp e

  pub phase_by : framed phase_kind phase_length s at ≡ true → (p c a b w x y : ℕ)
      → p ≡ number Forms.phase_place s at → c ≡ number Forms.code_place s at
      → a ≡ number (Forms.tag_behind Forms.from_place) s at → b ≡ number (Forms.tag_behind Forms.to_place) s at
      → w ≡ number (Forms.tag_behind Forms.whole_before) s at
      → x ≡ from_at s at → y ≡ to_at s at
      → ((leb p 7 && leb c 3) && (((leb a 5 && leb b 5) && leb w 5) && ltb x y)) ≡ good_phase s at
  unfolding good_phase
  phase_by e p c a b w x y i j k l m n o = rw (e, i, j, k, l, m, n, o)

  pub gap_unframed : framed gap_kind gap_length s at ≡ false → false ≡ good_gap s at
  unfolding good_gap
  gap_unframed e = simp e

  pub gap_by : framed gap_kind gap_length s at ≡ true → (p x y : ℕ) → p ≡ number (Forms.present_behind Forms.end) s at → x ≡ from_at s at → y ≡ to_at s at
      → (leb p 1 && ltb x y) ≡ good_gap s at
  unfolding good_gap
  gap_by e p x y i j k = rw (e, i, j, k)

  pub event_unframed : framed event_kind event_length s at ≡ false → false ≡ good_event s at
  unfolding good_event
  event_unframed e = simp e

  pub event_by : framed event_kind event_length s at ≡ true → (t : ℕ) → t ≡ number (Forms.tag_behind Forms.event_at) s at → leb t 5 ≡ good_event s at
  unfolding good_event
  event_by e t i = rw (e, i)

  -- of two tests, and of marks that are allowed or not
  pub segment_by : {a b x : Bool} → a ≡ good_phase s at → b ≡ good_gap s at → (a || b) ≡ x → good_segment s at ≡ x
  segment_by e f g = sym (ap₂ ◌||◌ e f) ∙ g

  pub mark_by : (marks : Bool) {a x : Bool} → a ≡ framed mark_kind mark_length s at → (marks && a) ≡ x → (marks && good_mark s at) ≡ x
  mark_by marks e g = sym (ap (λ (b : Bool). marks && b) e) ∙ g

-- ---- what stands at a place, by what is looked at

module _ (marks : Bool) (s : List ℕ) (at least n : ℕ) where
  module _ (h : 0 < n) where
    pub event_stands : good_event s at ≡ true → Some Stands.Event ≡ stands_at marks s at least n
    unfolding stands_at
    event_stands e = simp (lt-ltb 0 n h, e)

    pub no_event : good_event s at ≡ false → None ≡ stands_at marks s at least n
    unfolding stands_at
    no_event e = simp (lt-ltb 0 n h, e)

  module _ (h : n ≤ 0) where
    pub end_stands : at ≡ length s → Some Stands.End ≡ stands_at marks s at least n
    unfolding stands_at
    end_stands e = simp (le-ltb 0 n h, eq-eqb at (length s) e)

    module _ (o : at ≡ length s → ⊥) where
      module _ (g : good_segment s at ≡ true) (x : ℕ) (f : x ≡ from_at s at) where
        pub early : x < least → None ≡ stands_at marks s at least n
        unfolding stands_at
        early l = simp (le-ltb 0 n h, ne_eqb at (length s) o, g, lt-ltb (from_at s at) least (rw f at l))

        pub segment_stands : least ≤ x → Some Stands.Segment ≡ stands_at marks s at least n
        unfolding stands_at
        segment_stands l = simp (le-ltb 0 n h, ne_eqb at (length s) o, g, le-ltb (from_at s at) least (rw f at l))

      module _ (g : good_segment s at ≡ false) where
        pub mark_stands : (marks && good_mark s at) ≡ true → Some Stands.Mark ≡ stands_at marks s at least n
        unfolding stands_at
        mark_stands m = simp (le-ltb 0 n h, ne_eqb at (length s) o, g, m)

        pub nothing_stands : (marks && good_mark s at) ≡ false → None ≡ stands_at marks s at least n
        unfolding stands_at
        nothing_stands m = simp (le-ltb 0 n h, ne_eqb at (length s) o, g, m)

-- ---- a segment, made of what was read

module _ (s : List ℕ) (at : ℕ) (p q : Placed ℕ) (e : p.0 ≡ from_at s at) (f : q.0 ≡ to_at s at) where
  pub phase_made : number kind s at ≡ phase_kind → (a b n : ℕ) → a ≡ number Forms.phase_place s at → b ≡ number Forms.evidence_place s at → n ≡ count_at s at
      → record { from = p; to = q; shows = Phase a b; events = n; behind = at + phase_size } ≡ segment_of s at
  phase_made k a b n i j l =
      let x : p ≡ record { 0 = from_at s at } = ap (λ (z : ℕ). record { 0 = z }) e in
      let y : q ≡ record { 0 = to_at s at } = ap (λ (z : ℕ). record { 0 = z }) f in
      rw (x, y, i, j, l, eq-eqb (number kind s at) phase_kind k)

  pub gap_made : (number kind s at ≡ phase_kind → ⊥) → record { from = p; to = q; shows = Unknown; events = 0; behind = at + gap_size } ≡ segment_of s at
  gap_made k =
      let x : p ≡ record { 0 = from_at s at } = ap (λ (z : ℕ). record { 0 = z }) e in
      let y : q ≡ record { 0 = to_at s at } = ap (λ (z : ℕ). record { 0 = z }) f in
      rw (x, y, ne_eqb (number kind s at) phase_kind k)
