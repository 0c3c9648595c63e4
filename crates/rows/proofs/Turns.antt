-- One turn of the walk over good bytes: what stands at a place. Assumes nothing.
use mathlib.Core.Path.{◌≡◌, refl}
use mathlib.Core.Bool.{Bool, true, false, cond, ◌&&◌}
use mathlib.Core.List.{List}
use Prim.Native.Nat.{ℕ, zero, suc, ◌+◌, ◌*◌, ◌≤◌, ◌<◌}
use native.Mathlib.Omega.{arith}
use borrow.Author.Tests.{ltb-true, leb-true, eqb-true, le-leb, lt-leb, eq-eqb, ne_eqb}
use lib.Dec.{leb, eqb}
use lib.ListN.{length}
use Rattle.wire.proofs.Signs.{and_true}
use Rattle.records.specs.Layout.{number, size, kind}
use Rattle.records.specs.Book.{last_phase}
use Rattle.answer.specs.Forms
use Rattle.answer.specs.Forms.{phase_kind, phase_length, gap_kind, gap_length, event_kind, event_length, mark_kind, mark_length, phase_size, gap_size, event_size, mark_size}
use Rattle.rows.specs.Rows.{from_at, to_at, count_at, behind_phase, behind_gap, behind_mark, framed, tagged, not_empty}
use Rattle.rows.specs.Rows.{good_phase, good_gap, good_event, good_mark, good_events, good_from}

pub untrue : false ≡ true → ⊥
untrue e = let z : ◌≡◌ {A = ℕ} 0 1 = cc in omega arith

module _ (s : List ℕ) (at : ℕ) where
  -- ---- what a good record holds

  pub framed_holds : (k l : ℕ) → framed k l s at ≡ true → (at + 2 + l ≤ length s) × (number kind s at ≡ k)
  framed_holds k l e =
      let a = and_true (leb (at + 2 + l) (length s) && eqb (number size s at) l) (eqb (number kind s at) k) e in
      let b = and_true (leb (at + 2 + l) (length s)) (eqb (number size s at) l) a.0 in
      (leb-true (at + 2 + l) (length s) b.0, eqb-true (number kind s at) k a.1)

  pub record PhaseHolds : Type 0 where
    pub whole : at + phase_size ≤ length s
    pub kind : number kind s at ≡ phase_kind
    pub listed : number Forms.phase_place s at ≤ last_phase
    pub forward : from_at s at < to_at s at

  pub phase_holds : good_phase s at ≡ true → PhaseHolds
  unfolding good_phase
  phase_holds e =
      let p = number Forms.phase_place s at in
      let a = and_true ((framed phase_kind phase_length s at && leb p 7) && leb (number Forms.code_place s at) 3) _ e in
      let b = and_true (framed phase_kind phase_length s at && leb p 7) (leb (number Forms.code_place s at) 3) a.0 in
      let c = and_true (framed phase_kind phase_length s at) (leb p 7) b.0 in
      let f = framed_holds phase_kind phase_length c.0 in
      let d = and_true ((tagged Forms.from_place s at && tagged Forms.to_place s at) && tagged Forms.whole_before s at) (not_empty s at) a.1 in
      record { whole = omega (arith, f.0); kind = f.1; listed = leb-true p 7 c.1; forward = ltb-true (from_at s at) (to_at s at) d.1 }

  pub record GapHolds : Type 0 where
    pub whole : at + gap_size ≤ length s
    pub kind : number kind s at ≡ gap_kind
    pub forward : from_at s at < to_at s at

  pub gap_holds : good_gap s at ≡ true → GapHolds
  unfolding good_gap
  gap_holds e =
      let p = leb (number (Forms.present_behind Forms.end) s at) 1 in
      let a = and_true (framed gap_kind gap_length s at && p) (not_empty s at) e in
      let b = and_true (framed gap_kind gap_length s at) p a.0 in
      let f = framed_holds gap_kind gap_length b.0 in
      record { whole = omega (arith, f.0); kind = f.1; forward = ltb-true (from_at s at) (to_at s at) a.1 }

  pub mark_holds : good_mark s at ≡ true → (at + mark_size ≤ length s) × (number kind s at ≡ mark_kind)
  mark_holds e = let f = framed_holds mark_kind mark_length e in (omega (arith, f.0), f.1)

  pub event_holds : good_event s at ≡ true → at + event_size ≤ length s
  unfolding good_event
  event_holds e = omega (arith, (framed_holds event_kind event_length (and_true (framed event_kind event_length s at) (tagged Forms.event_at s at) e).0).0)

-- events that stand one after the other lie in the bytes
pub events_room : (s : List ℕ) (at n : ℕ) → at ≤ length s → good_events s at n ≡ true → at + event_size * n ≤ length s
unfolding good_events
events_room s at zero h e = omega arith
events_room s at (suc n) h e =
    let a = and_true (good_event s at) (good_events s (at + event_size) n) e in
    let r = event_holds s at a.0 in
    let on = events_room s (at + event_size) n r a.1 in
    omega arith

-- ---- one turn

-- what may stand at a place of good bytes
pub data Goes (marks : Bool) (n : ℕ) (s : List ℕ) (at least : ℕ) : Type 0 where
  ends : at ≡ length s → Goes marks n s at least
  phases : good_phase s at ≡ true → least ≤ from_at s at → good_events s (at + phase_size) (count_at s at) ≡ true
      → good_from marks n s (behind_phase s at) (to_at s at) ≡ true → Goes marks n s at least
  gaps : good_gap s at ≡ true → least ≤ from_at s at → good_from marks n s (behind_gap at) (to_at s at) ≡ true → Goes marks n s at least
  anew : marks ≡ true → good_mark s at ≡ true → good_from marks n s (behind_mark at) 0 ≡ true → Goes marks n s at least

module _ (marks : Bool) (s : List ℕ) (at least : ℕ) where
  pub none : good_from marks 0 s at least ≡ true → ⊥
  unfolding good_from
  none e = untrue e

  pub goes : (n : ℕ) → good_from marks (suc n) s at least ≡ true → Goes marks n s at least
  unfolding good_from
  goes n e = go (eqb at (length s)) (good_phase s at) (good_gap s at) (marks && good_mark s at) refl refl refl refl e
    where
      go : (a b c d : Bool) → eqb at (length s) ≡ a → good_phase s at ≡ b → good_gap s at ≡ c → (marks && good_mark s at) ≡ d
          → cond a true
          (cond b ((leb least (from_at s at) && good_events s (at + phase_size) (count_at s at)) && good_from marks n s (behind_phase s at) (to_at s at))
          (cond c (leb least (from_at s at) && good_from marks n s (behind_gap at) (to_at s at)) (cond d (good_from marks n s (behind_mark at) 0) false)))
          ≡ true
          → Goes marks n s at least
      go true b c d i j k l e = ends (eqb-true at (length s) i)
      go false true c d i j k l e =
          let x = and_true (leb least (from_at s at) && good_events s (at + phase_size) (count_at s at)) _ e in
          let y = and_true (leb least (from_at s at)) (good_events s (at + phase_size) (count_at s at)) x.0 in
          phases j (leb-true least (from_at s at) y.0) y.1 x.1
      go false false true d i j k l e =
          let x = and_true (leb least (from_at s at)) (good_from marks n s (behind_gap at) (to_at s at)) e in
          gaps k (leb-true least (from_at s at) x.0) x.1
      go false false false true i j k l e = let x = and_true marks (good_mark s at) l in anew x.0 x.1 e
      go false false false false i j k l e = absurd (untrue e)

  pub within : (n : ℕ) → good_from marks n s at least ≡ true → at ≤ length s
  within zero e = absurd (none e)
  within (suc n) e = go (goes n e)
    where
      go : Goes marks n s at least → at ≤ length s
      go (ends i) = omega arith
      go (phases p l v f) = omega (arith, (phase_holds s at p).whole)
      go (gaps p l f) = omega (arith, (gap_holds s at p).whole)
      go (anew i p f) = omega (arith, (mark_holds s at p).0)

  pub at_end : (n : ℕ) → at ≡ length s → good_from marks (suc n) s at least ≡ true
  unfolding good_from
  at_end n e = rw (eq-eqb at (length s) e)

  module _ (h : at < length s) where
    inner : eqb at (length s) ≡ false
    inner = ne_eqb at (length s) (λ e. omega arith)

    module _ (p : good_phase s at ≡ true) where
      pub phase_early : from_at s at < least → (n : ℕ) → good_from marks (suc n) s at least ≡ false
      unfolding good_from
      phase_early l n = simp (inner, p, lt-leb least (from_at s at) l)

      pub phase_on : least ≤ from_at s at
          → (n : ℕ) → good_from marks (suc n) s at least ≡ (good_events s (at + phase_size) (count_at s at) && good_from marks n s (behind_phase s at) (to_at s at))
      unfolding good_from
      phase_on l n = simp (inner, p, le-leb least (from_at s at) l)

    module _ (p : good_phase s at ≡ false) where
      module _ (g : good_gap s at ≡ true) where
        pub gap_early : from_at s at < least → (n : ℕ) → good_from marks (suc n) s at least ≡ false
        unfolding good_from
        gap_early l n = simp (inner, p, g, lt-leb least (from_at s at) l)

        pub gap_on : least ≤ from_at s at → (n : ℕ) → good_from marks (suc n) s at least ≡ good_from marks n s (behind_gap at) (to_at s at)
        unfolding good_from
        gap_on l n = simp (inner, p, g, le-leb least (from_at s at) l)

      module _ (g : good_gap s at ≡ false) where
        pub other : (marks && good_mark s at) ≡ false → (n : ℕ) → good_from marks (suc n) s at least ≡ false
        unfolding good_from
        other m n = simp (inner, p, g, m)

        pub mark_on : (marks && good_mark s at) ≡ true → (n : ℕ) → good_from marks (suc n) s at least ≡ good_from marks n s (behind_mark at) 0
        unfolding good_from
        mark_on m n = simp (inner, p, g, m)
