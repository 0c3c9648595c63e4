-- What of the date at hand shows. Assumes nothing.
use Rattle.std.specs.Prelude.{None, Option, Some, ℕ}
use Prim.Native.Nat.{ℕ, ◌+◌, ◌≤◌, ◌<◌, min, max}
use mathlib.Core.Path.{◌≡◌, refl, sym, subst}
use mathlib.Core.List.{List, [], ◌∷◌}
use native.Mathlib.Omega.{arith}
use lib.ListN.{length, get_or}
use Rattle.zone.specs.Zone.{Zone, zone_of}
use Rattle.zone.specs.Answers.{Valid}
use Rattle.records.specs.Records.{Point, rule_at}
use Rattle.venue.specs.Reading.{FromMidnight, ListedRule}
use Rattle.spans.specs.Timeline.{Venue}
use Rattle.day.specs.Days.{Held}
use Rattle.walk.specs.Walking.{EdgesKept, WalkStands, Showing, Comes}
use Rattle.walk.specs.Looking.{RuleHeld, WalkHolds, piece_at, NoneShows, IsNextPiece, DateSpent}
use Rattle.walk.specs.declared.Walk.{Walk}
use Rattle.walk.specs.declared.Piece.{Piece}
use Rattle.venue.proofs.Laws.{good_rule}
use Rattle.walk.proofs.Rest.{comes, none_shows, nothing_shows}

-- ---- as the code looks

module _ (s : List ℕ) (w : Walk) (p : ℕ) (h : WalkHolds s w) (e : w.governed ≡ Some p) where
  held_by : RuleHeld s w.next (Some p)
  held_by = subst (RuleHeld s w.next) e h

  held_listed : ListedRule s p
  held_listed = held_by.0

module _ (s a : List ℕ) (hi : ℕ) (w : Walk) where
  module _ {p : ℕ} (e : w.governed ≡ Some p) {n : ℕ} (many : n ≡ length (rule_at s p).points) {k : ℕ} (h : Showing a w.next n w.cursor.0 hi k) where
    pub piece_one : k < n → {q : Piece} → q ≡ piece_at a hi w p k → IsNextPiece s a hi w (Some q)
    piece_one l i =
        (p, (k, record { by = e; inside = omega arith; first = subst (λ (m : ℕ). Showing a w.next m w.cursor.0 hi k) many h; is = i }))

pub piece_by : (a : List ℕ) (hi : ℕ) (w : Walk) (p k : ℕ) {from to : ℕ} → from ≡ max w.cursor.0 (get_or a k 0) → to ≡ min hi (get_or a (k + 1) 0)
    → ◌≡◌ {A = Piece} (record { from = record { 0 = from }; to = record { 0 = to }; start = record { 0 = get_or a k 0 }; end = record { 0 = get_or a (k + 1) 0 }; date = w.date; rule = p; point = k; clear = w.clear; turns = w.turns; began = w.began })
    (piece_at a hi w p k)
piece_by a hi w p k i j = cc

-- ---- of a walk that stands

pub stands_held : {s : List ℕ} {z : Zone} {w : Walk} {a : List ℕ} → WalkStands s z w a → WalkHolds s w
stands_held {s} {z} {w} {a} h = go w.governed h.kept
  where
    go : (g : Option ℕ) → EdgesKept s z w.date.0 w.next w.clear g a → RuleHeld s w.next g
    go None k = tt
    go (Some p) k = (k.0, k.1)

module _ (first : ℕ) (ats os : List ℕ) (good : Valid first ats os) (s : List ℕ) (v : Venue Held) (hi : ℕ) (w : Walk) (a : List ℕ)
    (stands : WalkStands s (zone_of first ats os) w a) where
  abbrev z : Zone
  z = zone_of first ats os

  some_points : (p : ℕ) → w.governed ≡ Some p → 1 ≤ length (rule_at s p).points
  some_points p e = not_none (rule_at s p).points (good_rule s p (held_listed s w p (stands_held stands) e)).from_midnight
    where
      not_none : (ps : List Point) → FromMidnight ps → 1 ≤ length ps
      not_none [] h = absurd h
      not_none (q ∷ ps) h = omega arith

  pub piece_spent : IsNextPiece s a hi w None → DateSpent s z hi w
  piece_spent h = go w.governed refl h
    where
      go : (g : Option ℕ) → w.governed ≡ g → NoneShows s a hi w g → DateSpent s z hi w
      go None e k = nothing_shows s z hi w e
      go (Some p) e k =
          none_shows first ats os good s v hi w a p (length (rule_at s p).points) stands e refl (some_points p e) (length (rule_at s p).points) k (omega arith)

  pub piece_comes : {q : Piece} → IsNextPiece s a hi w (Some q) → Comes s z v hi w q a
  piece_comes {q} l =
      let p = l.0 in
      let k = l.1.0 in
      let f = l.1.1 in
      let n = length (rule_at s p).points in
      subst (λ (x : Piece). Comes s z v hi w x a) (sym f.is)
      (comes first ats os good s v hi w a p n stands f.by refl (some_points p f.by) k f.first f.inside _ _ _ _ refl refl refl refl)
