-- A step of the walk, as its two functions take it: what of the date at hand shows, and where a date leads that shows no more. Assumes nothing.
use Rattle.std.specs.Prelude.{Option, Some}
use Rattle.std.specs.Prelude.{ℕ, ◌+◌, ◌-◌, ◌≤◌, ◌<◌, min, max, ◌≡◌, Bool, true, false, not, ◌||◌, leb, eqb, List, [], length, get_or}
use Rattle.std.specs.Prelude.{None}
use Rattle.zone.specs.Zone.{Zone}
use Rattle.records.specs.Records.{rule_at}
use Rattle.venue.specs.Reading.{ListedRule}
use Rattle.spans.specs.Spans.{clip}
use Rattle.spans.specs.Timeline.{Venue}
use Rattle.day.specs.Days.{Held, venue_by}
use Rattle.walk.specs.Walking.{on_date, onward, rest, WalkStands, Showing, BegunAs}
use Rattle.walk.specs.declared.Walk.{Walk}
use Rattle.walk.specs.declared.Piece.{Piece}

-- ---- the date at hand

-- the date's rule is one of the book, and the next of its spans one that it can have
abbrev pub RuleHeld : List ℕ → ℕ → Option ℕ → Type 0
RuleHeld s k None = Unit {0}
RuleHeld s k (Some p) = ListedRule s p × (k ≤ length (rule_at s p).points)

abbrev pub WalkHolds : List ℕ → Walk → Type 0
WalkHolds s w = RuleHeld s w.next w.governed

-- what shows of the k-th span of the date, by the boundaries in the array
abbrev pub piece_at : List ℕ → ℕ → Walk → ℕ → ℕ → Piece
piece_at a hi w p k =
    record {
      from = record { 0 = max w.cursor.0 (get_or a k 0) };
      to = record { 0 = min hi (get_or a (k + 1) 0) };
      start = record { 0 = get_or a k 0 };
      end = record { 0 = get_or a (k + 1) 0 };
      date = w.date;
      rule = p;
      point = k;
      clear = w.clear;
      turns = w.turns;
      began = w.began;
    }

-- by the boundaries in the array none of the date's spans shows
abbrev pub NoneShows : List ℕ → List ℕ → ℕ → Walk → Option ℕ → Type 0
NoneShows s a hi w None = Unit {0}
NoneShows s a hi w (Some p) = Showing a w.next (length (rule_at s p).points) w.cursor.0 hi (length (rule_at s p).points)

-- the k-th is the first that does
pub record FirstShows (s a : List ℕ) (hi : ℕ) (w : Walk) (q : Piece) (p k : ℕ) : Type 0 where
  pub by : w.governed ≡ Some p
  pub inside : k < length (rule_at s p).points
  pub first : Showing a w.next (length (rule_at s p).points) w.cursor.0 hi k
  pub is : q ≡ piece_at a hi w p k

abbrev pub IsNextPiece : List ℕ → List ℕ → ℕ → Walk → Option Piece → Type 0
IsNextPiece s a hi w None = NoneShows s a hi w w.governed
IsNextPiece s a hi w (Some q) = (p : ℕ) × ((k : ℕ) × FirstShows s a hi w q p k)

-- none of the date's spans shows
abbrev pub DateSpent : List ℕ → Zone → ℕ → Walk → Type 0
DateSpent s z hi w = clip w.cursor.0 hi (on_date s z w.date.0 w.next w.governed) ≡ []

-- ---- where it leads: nothing is left, or the next turn stands, as much is left there, and it has fewer turns to go

pub record TurnsOn (s : List ℕ) (z : Zone) (v : Venue Held) (hi : ℕ) (w w' : Walk) (a : List ℕ) : Type 0 where
  pub same : rest s z v hi w ≡ rest s z v hi w'
  pub stands : WalkStands s z w' a
  pub fewer : w'.turns < w.turns

abbrev pub IsNextTurn : List ℕ → Zone → Venue Held → ℕ → Walk → Option Walk → List ℕ → Type 0
IsNextTurn s z v hi w None a = rest s z v hi w ≡ []
IsNextTurn s z v hi w (Some w') a = TurnsOn s z v hi w w' a

-- what it sets: where the next turn begins, if it is later than this one and one is left; else both lent arrays are as they were
abbrev pub next_at : Zone → ℕ → Walk → ℕ
next_at z hi w = onward (venue_by z (λ x. None)) hi w.began.0 w.cursor.0 w.date.0

abbrev pub goes_on : Zone → ℕ → Walk → Bool
goes_on z hi w = not (leb (next_at z hi w) w.began.0 || eqb w.turns 0)

abbrev pub TurnSets : List ℕ → Zone → List ℕ → ℕ → Walk → List ℕ → List ℕ → Option Walk → List ℕ → List ℕ → Type 0
TurnSets s z rules hi w old kept None a kept' = (goes_on z hi w ≡ false) × (a ≡ old) × (kept' ≡ kept)
TurnSets s z rules hi w old kept (Some w') a kept' =
    (goes_on z hi w ≡ true) × BegunAs s z rules (w.turns - 1) (next_at z hi w) old kept w' a kept'
