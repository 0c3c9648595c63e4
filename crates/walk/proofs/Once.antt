-- A step of the walk is determined: what it answers, and both lent arrays. Assumes nothing.
use Rattle.std.specs.Prelude.{None, Option, Some, ℕ}
use mathlib.Core.Path.{◌≡◌, refl, sym, ap, ap₂, ◌∙◌, subst}
use mathlib.Core.Bool.{Bool, true, false, true≢false}
use mathlib.Core.List.{List}
use mathlib.Core.Logic.{◌↔◌}
use Prim.Native.Nat.{ℕ, ◌<◌}
use native.Mathlib.Decide.{dec_lt}
use native.Mathlib.Omega.{arith}
use lib.ListN.{length}
use Rattle.zone.specs.Zone.{Zone}
use Rattle.records.specs.Records.{rule_at}
use Rattle.spans.specs.Timeline.{Venue}
use Rattle.day.specs.Governing.{governing_place}
use Rattle.day.specs.Days.{Held}
use Rattle.day.specs.Keeping.{kept_after}
use Rattle.walk.specs.Walking.{EdgesKept, WalkStands, Showing, edges_after, BegunAs}
use Rattle.walk.specs.Looking.{piece_at, NoneShows, FirstShows, IsNextPiece, IsNextTurn, TurnSets}
use Rattle.walk.specs.declared.Walk.{Walk}
use Rattle.walk.specs.declared.Piece.{Piece}

-- ---- a turn begins

bool_once : {P : Type 0} (a b : Bool) → (a ≡ true) ↔ P → (b ≡ true) ↔ P → a ≡ b
bool_once true true f g = refl
bool_once true false f g = sym (g.1 (f.0 refl))
bool_once false true f g = f.1 (g.0 refl)
bool_once false false f g = refl

place_once : (g h : Option ℕ) → g ≡ h → g ≡ h
place_once None None e = refl
place_once None (Some q) e = let n : ◌≡◌ {A = ℕ} 0 1 = cc in absurd (omega arith)
place_once (Some p) None e = let n : ◌≡◌ {A = ℕ} 0 1 = cc in absurd (omega arith)
place_once (Some p) (Some q) e = let n : p ≡ q = cc in ap Some n

clear_once : (s : List ℕ) (z : Zone) (d i j : ℕ) (b c : Bool) (a a' : List ℕ) (g : Option ℕ) → EdgesKept s z d i b g a → EdgesKept s z d j c g a' → b ≡ c
clear_once s z d i j b c a a' None k l = k ∙ sym l
clear_once s z d i j b c a a' (Some p) k l = bool_once b c k.3 l.3

walk_once : {t t' b b' c c' d d' n n' : ℕ} {g g' : (Option ℕ)} {m m' : Bool} → t ≡ t' → b ≡ b' → c ≡ c' → d ≡ d' → g ≡ g' → n ≡ n' → m ≡ m'
    → ◌≡◌ {A = Walk} (record { turns = t; began = record { 0 = b }; cursor = record { 0 = c }; date = record { 0 = d }; governed = g; next = n; clear = m })
    (record { turns = t'; began = record { 0 = b' }; cursor = record { 0 = c' }; date = record { 0 = d' }; governed = g'; next = n'; clear = m' })
walk_once h i j k l o p = cc

-- where a turn begins, by another name
pub begun_at : {s : List ℕ} {z : Zone} {rules : List ℕ} {turns n m : ℕ} {old kept : List ℕ} {w : Walk} {a kept' : List ℕ} → n ≡ m
    → BegunAs s z rules turns n old kept w a kept' → BegunAs s z rules turns m old kept w a kept'
begun_at {s} {z} {rules} {turns} {n} {m} {old} {kept} {w} {a} {kept'} e b = subst (λ (i : ℕ). BegunAs s z rules turns i old kept w a kept') e b

module _ (s : List ℕ) (z : Zone) (rules : List ℕ) where
  pub begun_once : {turns cursor : ℕ} {old kept : List ℕ} {w w' : Walk} {a a' k k' : List ℕ} → WalkStands s z w a → WalkStands s z w' a'
      → BegunAs s z rules turns cursor old kept w a k → BegunAs s z rules turns cursor old kept w' a' k' → (w ≡ w') × (a ≡ a') × (k ≡ k')
  begun_once {old = old} {kept = kept} {w = w} {w' = w'} {a = a} {a' = a'} f g b c =
      let date : w.date.0 ≡ w'.date.0 = b.date ∙ sym c.date in
      let governed : w.governed ≡ w'.governed =
      place_once w.governed w'.governed (b.place ∙ ap (governing_place s rules) date ∙ sym c.place) in
      let clear : w.clear ≡ w'.clear =
      clear_once s z w.date.0 w.next w'.next w.clear w'.clear a a' w'.governed
      (subst (λ (o : Option ℕ). EdgesKept s z w.date.0 w.next w.clear o a) governed f.kept)
      (subst (λ (d : ℕ). EdgesKept s z d w'.next w'.clear w'.governed a') (sym date) g.kept) in (
        walk_once (b.left ∙ sym c.left) (b.began ∙ sym c.began) (b.at ∙ sym c.at) date governed (b.next ∙ sym c.next) clear,
        b.edges ∙ ap₂ (λ (d : ℕ) (o : Option ℕ). edges_after s z d o old) date governed ∙ sym c.edges,
        b.keeps ∙ ap (λ (d : ℕ). kept_after s rules d kept) date ∙ sym c.keeps,
      )

  -- ---- and leads on

  pub turn_once : (v : Venue Held) (hi : ℕ) (w : Walk) (old kept : List ℕ) (t t' : Option Walk) (a a' k k' : List ℕ) → IsNextTurn s z v hi w t a
      → IsNextTurn s z v hi w t' a' → TurnSets s z rules hi w old kept t a k → TurnSets s z rules hi w old kept t' a' k' → (t ≡ t') × (a ≡ a') × (k ≡ k')
  turn_once v hi w old kept None None a a' k k' f g b c = (refl, b.1 ∙ sym c.1, b.2 ∙ sym c.2)
  turn_once v hi w old kept None (Some w') a a' k k' f g b c = absurd (true≢false (sym c.0 ∙ b.0))
  turn_once v hi w old kept (Some w') None a a' k k' f g b c = absurd (true≢false (sym b.0 ∙ c.0))
  turn_once v hi w old kept (Some w') (Some w'') a a' k k' f g b c = let o = begun_once f.stands g.stands b.1 c.1 in (ap Some o.0, o.1, o.2)

-- ---- what shows

-- of two spans that show first none is before the other
first_once : {a : List ℕ} {k n cursor hi i j : ℕ} → Showing a k n cursor hi i → Showing a k n cursor hi j → i ≡ j
first_once {a} {k} {n} {cursor} {hi} {i} {j} x y = go (dec_lt i j) (dec_lt j i)
  where
    later : {i j : ℕ} → Showing a k n cursor hi i → Showing a k n cursor hi j → i < j → ⊥
    later {i} {j} x y h = let shown = x.shown (omega (arith, h, y.most)) in omega (arith, shown, y.hidden i x.from h)

    go : Dec (i < j) → Dec (j < i) → i ≡ j
    go (yes h) q = absurd (later x y h)
    go (no h) (yes l) = absurd (later y x l)
    go (no h) (no l) = omega arith

by_once : {g : (Option ℕ)} {p q : ℕ} → g ≡ Some p → g ≡ Some q → p ≡ q
by_once e f = cc

module _ (s a : List ℕ) (hi : ℕ) (w : Walk) where
  none_or_one : {q : Piece} {p k : ℕ} → NoneShows s a hi w w.governed → FirstShows s a hi w q p k → ⊥
  none_or_one n f = let same = first_once (subst (NoneShows s a hi w) f.by n) f.first in omega (arith, same, f.inside)

  pub piece_once : (p q : Option Piece) → IsNextPiece s a hi w p → IsNextPiece s a hi w q → p ≡ q
  piece_once None None f g = refl
  piece_once None (Some q) f g = absurd (none_or_one f g.1.1)
  piece_once (Some p) None f g = absurd (none_or_one g f.1.1)
  piece_once (Some p) (Some q) f g =
      let same = by_once f.1.1.by g.1.1.by in
      let place = first_once f.1.1.first (subst (λ (r : ℕ). Showing a w.next (length (rule_at s r).points) w.cursor.0 hi g.1.0) (sym same) g.1.1.first) in
      ap Some (f.1.1.is ∙ ap₂ (piece_at a hi w) same place ∙ sym g.1.1.is)
