-- What it means that events are in order: the same events, by instant, those of one instant as they were. Assumes nothing.
use Rattle.std.specs.Prelude.{ℕ, ◌≤◌, cond, List, [], ◌∷◌, eqb}
use Rattle.events.specs.declared.Occurrence.{Occurrence}

abbrev pub instant : Occurrence → ℕ
instant o = o.boundary.at.0

-- one list becomes the other by exchanges of neighbours
pub data Permutation : List Occurrence → List Occurrence → Type 0 where
  none : Permutation [] []
  keep : (o : Occurrence) {os ps : List Occurrence} → Permutation os ps → Permutation (o ∷ os) (o ∷ ps)
  swap : (o p : Occurrence) (os : List Occurrence) → Permutation (o ∷ p ∷ os) (p ∷ o ∷ os)
  also : {os ps qs : List Occurrence} → Permutation os ps → Permutation ps qs → Permutation os qs

-- the first is not before t
abbrev pub NotBefore : ℕ → List Occurrence → Type 0
NotBefore t [] = Unit {0}
NotBefore t (o ∷ os) = t ≤ instant o

-- instants do not fall
abbrev pub Sorted : List Occurrence → Type 0
Sorted [] = Unit {0}
Sorted (o ∷ os) = NotBefore (instant o) os × Sorted os

-- those of an instant, as they stand
abbrev pub at_instant : ℕ → List Occurrence → List Occurrence
at_instant t [] = []
at_instant t (o ∷ os) = let rest = at_instant t os in cond (eqb (instant o) t) (o ∷ rest) rest
