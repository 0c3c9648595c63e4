-- A pass over a walk: at each step a piece comes, or the next turn begins, or the walk is done; and there is less to go. Assumes nothing.
use Rattle.std.specs.Prelude.{Option, Some}
use mathlib.Core.Path.{◌≡◌, sym, ap, subst}
use mathlib.Core.List.{List, [], ◌∷◌, map}
use Rattle.std.specs.Prelude.{None}
use Prim.Native.Nat.{ℕ, ◌+◌, ◌<◌}
use native.Mathlib.Omega.{arith}
use lib.ListN.{length}
use Rattle.zone.specs.Zone.{Zone, zone_of}
use Rattle.zone.specs.Answers.{Valid}
use Rattle.spans.specs.Spans.{Span}
use Rattle.spans.specs.Timeline.{Venue}
use Rattle.day.specs.Days.{Held, venue_by}
use Rattle.walk.specs.Walking.{shown_part, after_piece, rest, WalkStands, Comes}
use Rattle.walk.specs.Looking.{IsNextPiece, DateSpent, IsNextTurn, TurnsOn}
use Rattle.walk.specs.declared.Walk.{Walk}
use Rattle.walk.specs.declared.Piece.{Piece}
use Rattle.walk.proofs.Looking.{piece_spent, piece_comes}

-- ---- a step, as its function answers

module _ (first : ℕ) (ats os : List ℕ) (good : Valid first ats os) (s : List ℕ) (hi : ℕ) {w : Walk} {a : List ℕ}
    (h : WalkStands s (zone_of first ats os) w a) {p : (Option Piece)} (l : IsNextPiece s a hi w p) where
  pub come : (v : Venue Held) {q : Piece} → p ≡ Some q → Comes s (zone_of first ats os) v hi w q a
  come v e = piece_comes first ats os good s v hi w a h (subst (IsNextPiece s a hi w) e l)

  pub shown : p ≡ None → DateSpent s (zone_of first ats os) hi w
  shown e = piece_spent first ats os good s (venue_by (zone_of first ats os) (λ d. None)) hi w a h (subst (IsNextPiece s a hi w) e l)

module _ (s : List ℕ) (z : Zone) (v : Venue Held) (hi : ℕ) (w : Walk) (t : Option Walk) (a : List ℕ) (l : IsNextTurn s z v hi w t a) where
  pub turned : {w' : Walk} → t ≡ Some w' → TurnsOn s z v hi w w' a
  turned e = subst (λ (x : Option Walk). IsNextTurn s z v hi w x a) e l

  pub gone : t ≡ None → rest s z v hi w ≡ []
  gone e = subst (λ (x : Option Walk). IsNextTurn s z v hi w x a) e l

-- where the walk stands, by another name
pub stands_on : {s : List ℕ} {z : Zone} {w w' : Walk} {a : List ℕ} → w' ≡ w → WalkStands s z w a → WalkStands s z w' a
stands_on {s} {z} {a = a} e h = subst (λ (x : Walk). WalkStands s z x a) (sym e) h

-- ---- what is left

-- of the spans of a walk, what is made of each
abbrev pub left : {A : Type 0} → (Span Held → A) → List ℕ → Zone → Venue Held → ℕ → Walk → List A
left f s z v hi w = map f (rest s z v hi w)

-- how many steps there are to go at most
abbrev pub to_go : List ℕ → Zone → Venue Held → ℕ → Walk → ℕ
to_go s z v hi w = length (rest s z v hi w) + w.turns

module _ {s : List ℕ} {z : Zone} {v : Venue Held} {hi : ℕ} {w : Walk} {a : List ℕ} where
  module _ {q : Piece} (c : Comes s z v hi w q a) where
    pub come_left : {A : Type 0} (f : Span Held → A) → left f s z v hi w ≡ f (shown_part s z q) ∷ left f s z v hi (after_piece q)
    come_left f = ap (map f) c.first

    pub come_fewer : {w' : Walk} → w' ≡ after_piece q → to_go s z v hi w' < to_go s z v hi w
    come_fewer e = let l = ap length c.first in let m = ap (to_go s z v hi) e in omega (arith, l, m, c.turns)

  module _ {w' : Walk} (l : TurnsOn s z v hi w w' a) where
    pub turn_left : {A : Type 0} (f : Span Held → A) → left f s z v hi w ≡ left f s z v hi w'
    turn_left f = ap (map f) l.same

    pub turn_fewer : to_go s z v hi w' < to_go s z v hi w
    turn_fewer = let m = ap length l.same in omega (arith, m, l.fewer)
