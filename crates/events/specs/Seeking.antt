-- How the next event is sought: among those found, numbered in their order, the first by instant and number from a place on. Assumes nothing.
use Rattle.std.specs.Prelude.{ℕ, zero, suc, ◌+◌, Bool, true, cond, ◌&&◌, ◌||◌, List, [], ◌∷◌, leb, ltb, eqb}
use Rattle.events.specs.declared.Occurrence.{Occurrence}
use Rattle.std.specs.Prelude.{Option}
use Rattle.std.specs.Prelude.{None, Some}
use Rattle.events.specs.declared.Search.{Search}

-- an event of number i does not come before the number `index` at the instant `at`
abbrev pub from_here : ℕ → ℕ → Occurrence → ℕ → Bool
from_here at index o i = ltb at o.boundary.at.0 || (eqb at o.boundary.at.0 && leb index i)

-- it comes before the best so far, which has a smaller number
abbrev pub better : Option (Occurrence × ℕ) → Occurrence → Bool
better None o = true
better (Some (b, i)) o = ltb o.boundary.at.0 b.boundary.at.0

-- one more found
abbrev pub met : Search → Occurrence → Search
met s o =
    record {
      at = s.at;
      index = s.index;
      count = s.count + 1;
      best = cond (from_here s.at.0 s.index o s.count && better s.best o) (Some (o, s.count)) s.best;
    }

unfoldable pub sought : Search → List Occurrence → Search
sought s [] = s
sought s (o ∷ os) = sought (met s o) os

-- nothing met yet, from the number `index` at the instant `at` on
abbrev pub begin : ℕ → ℕ → Search
begin at index = record { at = record { 0 = at }; index = index; count = 0; best = None }

-- the events one after the other, at most n: each sought behind the one before
unfoldable pub in_turn : List Occurrence → ℕ → Option (Occurrence × ℕ) → List Occurrence
in_turn os zero b = []
in_turn os (suc n) None = []
in_turn os (suc n) (Some (o, i)) = o ∷ in_turn os n (sought (begin o.boundary.at.0 (i + 1)) os).best

abbrev pub all_in_turn : List Occurrence → ℕ → List Occurrence
all_in_turn os n = in_turn os n (sought (begin 0 0) os).best
