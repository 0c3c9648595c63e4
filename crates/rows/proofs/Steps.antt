-- What it means that something stands at a place: whether the bytes from there on are good, and where the reading goes on. Assumes nothing.
use mathlib.Core.Path.{◌≡◌, refl, sym, ap, ◌∙◌, subst}
use mathlib.Core.Bool.{Bool, true, false, cond, ◌&&◌, ◌||◌}
use mathlib.Core.List.{List}
use Prim.Native.Nat.{ℕ, zero, suc, ◌+◌, ◌-◌, ◌*◌, ◌≤◌, ◌<◌}
use native.Mathlib.Omega.{arith}
use borrow.Author.Tests.{ltb-true, ltb-false, eqb-true, eqb-false}
use lib.Dec.{ltb, eqb}
use lib.ListN.{length}
use Rattle.std.specs.Prelude.{Option, None, Some}
use Rattle.wire.proofs.Signs.{and_true}
use Rattle.records.proofs.Tests.{or_false}
use Rattle.answer.specs.Forms.{event_size, mark_size}
use Rattle.rows.specs.Rows.{from_at, enough, good_phase, good_gap, good_segment, good_event, good_mark, good_events, good_from, good_at}
use Rattle.rows.specs.Telling.{segment_of, good_on, stands_at}
use Rattle.rows.specs.declared.RowSegment.{RowSegment}
use Rattle.rows.specs.declared.Stands.{Stands}
use Rattle.rows.proofs.Turns.{mark_holds, event_holds, at_end, phase_early, gap_early, other, mark_on}
use Rattle.rows.proofs.Places.{holds, good_look, good_left}

module _ (marks : Bool) (s : List ℕ) (at least n : ℕ) where
  -- the bytes end
  pub record Ends : Type 0 where
    pub none : n ≡ 0
    pub end : at ≡ length s
    pub good : good_on marks s at least n ≡ true

  -- a row ends, and another begins
  pub record Anew : Type 0 where
    pub none : n ≡ 0
    pub allowed : marks ≡ true
    pub mark : good_mark s at ≡ true
    pub inside : at + mark_size ≤ length s
    pub on : good_on marks s at least n ≡ good_on marks s (at + mark_size) 0 0

  -- a segment: the row goes on behind it
  pub record Sees : Type 0 where
    pub none : n ≡ 0
    pub segment : good_segment s at ≡ true
    pub on : good_on marks s at least n ≡ good_on marks s (segment_of s at).behind (segment_of s at).to.0 (segment_of s at).events

  -- an event: one less is to come
  pub record Happens : Type 0 where
    pub some : 0 < n
    pub event : good_event s at ≡ true
    pub inside : at + event_size ≤ length s
    pub on : good_on marks s at least n ≡ good_on marks s (at + event_size) least (n - 1)
    pub same : at + event_size * n ≡ at + event_size + event_size * (n - 1)

  abbrev pub Tells : Option Stands → Type 0
  Tells None = good_on marks s at least n ≡ false
  Tells (Some Stands.End) = Ends
  Tells (Some Stands.Mark) = Anew
  Tells (Some Stands.Segment) = Sees
  Tells (Some Stands.Event) = Happens

  -- where no event is to come, all depends on what follows
  fresh : (b : ℕ) → good_on marks s b 0 0 ≡ good_at marks s b 0
  unfolding good_events
  fresh b = let f : b + event_size * 0 ≡ b = omega arith in rw f

  module _ (h : at ≤ length s) where
    -- nothing is to come, so all depends on what follows
    none_waits : n ≤ 0 → good_on marks s at least n ≡ good_at marks s at least
    unfolding good_events
    none_waits z = let e : n ≡ 0 = omega arith in let f : at + event_size * 0 ≡ at = omega arith in rw (e, f)

    looked : n ≤ 0 → good_on marks s at least n ≡ good_from marks (enough s) s at least
    looked z = none_waits z ∙ good_look s marks at least h

    event_bad : 0 < n → good_event s at ≡ false → good_on marks s at least n ≡ false
    unfolding good_events
    event_bad l e = go n l
      where
        go : (n : ℕ) → 0 < n → good_on marks s at least n ≡ false
        go zero l = absurd (omega arith)
        go (suc m) l = simp e

    event_on : 0 < n → good_event s at ≡ true → good_on marks s at least n ≡ good_on marks s (at + event_size) least (n - 1)
    unfolding good_events
    event_on l e = go n l
      where
        go : (n : ℕ) → 0 < n → good_on marks s at least n ≡ good_on marks s (at + event_size) least (n - 1)
        go zero l = absurd (omega arith)
        go (suc m) l =
            let z : suc m - 1 ≡ m = omega arith in
            let w : at + event_size * suc m ≡ at + event_size + event_size * m = omega arith in
            rw (z, w) (simp e)

    -- a segment that starts too early
    early : n ≤ 0 → (at ≡ length s → ⊥) → good_segment s at ≡ true → from_at s at < least → good_on marks s at least n ≡ false
    early z o g l = looked z ∙ go (good_phase s at) refl g
      where
        i : at < length s
        i = omega (arith, h, o)

        go : (b : Bool) → good_phase s at ≡ b → (b || good_gap s at) ≡ true → good_from marks (enough s) s at least ≡ false
        go true p e = phase_early marks s at least i p l (length s)
        go false p e = gap_early marks s at least i p e l (length s)

    tells : Tells (stands_at marks s at least n)
    unfolding stands_at
    tells = go (ltb 0 n) (good_event s at) (eqb at (length s)) (good_segment s at) (ltb (from_at s at) least) (marks && good_mark s at) refl refl refl refl refl refl
      where
        go : (a b c d e f : Bool) → ltb 0 n ≡ a → good_event s at ≡ b → eqb at (length s) ≡ c → good_segment s at ≡ d
            → ltb (from_at s at) least ≡ e → (marks && good_mark s at) ≡ f
            → Tells (cond a (cond b (Some Stands.Event) None) (cond c (Some Stands.End) (cond d (cond e None (Some Stands.Segment)) (cond f (Some Stands.Mark) None))))
        go true true c d e f i j k l m o =
            let p = ltb-true 0 n i in
            record { some = p; event = j; inside = event_holds s at j; on = event_on p j; same = omega arith }
        go true false c d e f i j k l m o = event_bad (ltb-true 0 n i) j
        go false b true d e f i j k l m o =
            let z = ltb-false 0 n i in
            let e = eqb-true at (length s) k in
            record { none = omega arith; end = e; good = looked z ∙ at_end marks s at least (length s) e }
        go false b false true true f i j k l m o = early (ltb-false 0 n i) (eqb-false at (length s) k) l (ltb-true (from_at s at) least m)
        go false b false true false f i j k l m o =
            let z = ltb-false 0 n i in
            let t = holds s at l in
            record { none = omega arith; segment = l; on = none_waits z ∙ t.good marks least (ltb-false (from_at s at) least m) }
        go false b false false e true i j k l m o =
            let z = ltb-false 0 n i in
            let x = and_true marks (good_mark s at) o in
            let f = mark_holds s at x.1 in
            let p = or_false (good_phase s at) (good_gap s at) l in
            record {
              none = omega arith;
              allowed = x.0;
              mark = x.1;
              inside = f.0;
              on = looked z ∙ mark_on marks s at least (omega (arith, f.0)) p.0 p.1 o (length s) ∙ good_left s marks at least (at + mark_size) 0 (omega arith)
                  ∙ sym (fresh (at + mark_size));
            }
        go false b false false e false i j k l m o =
            let p = or_false (good_phase s at) (good_gap s at) l in
            looked (ltb-false 0 n i) ∙ other marks s at least (omega (arith, h, eqb-false at (length s) k)) p.0 p.1 o (length s)

    pub told : {x : Option Stands} → stands_at marks s at least n ≡ x → Tells x
    told e = subst Tells e tells

    -- by what was answered: something, or nothing good
    pub stood : {r : Option Stands} {x y : Stands} → r ≡ stands_at marks s at least n → r ≡ Some y → y ≡ x → Tells (Some x)
    stood e f g = told (sym e ∙ f ∙ ap Some g)

    pub fell : {r : Option Stands} → r ≡ stands_at marks s at least n → r ≡ None → good_on marks s at least n ≡ false
    fell e f = told (sym e ∙ f)

-- ---- a reading goes on: what it began with is good if what is left is

pub record Going (marks : Bool) (s : List ℕ) (all : Bool) (at least n : ℕ) : Type 0 where
  pub same : all ≡ good_on marks s at least n
  pub inside : at ≤ length s

module _ {marks : Bool} {s : List ℕ} {all : Bool} {at least n : ℕ} (o : Going marks s all at least n) where
  pub segment_going : Sees marks s at least n → {g : RowSegment} → g ≡ segment_of s at → Going marks s all g.behind g.to.0 g.events
  segment_going t e = rw e (record { same = o.same ∙ t.on; inside = (holds s at t.segment).inside })

  pub segment_after : Sees marks s at least n → {g : RowSegment} → g ≡ segment_of s at → length s - g.behind < length s - at
  segment_after t e = let h = holds s at t.segment in rw e (omega (arith, h.after, h.inside))

  pub event_going : Happens marks s at least n → Going marks s all (at + event_size) least (n - 1)
  event_going t = record { same = o.same ∙ t.on; inside = t.inside }
