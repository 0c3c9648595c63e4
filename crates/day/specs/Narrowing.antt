-- The rules that have days near a date. Assumes nothing.
use Rattle.std.specs.Prelude.{ℕ, Bool, cond, ◌&&◌, List, [], ◌∷◌, leb}
use Rattle.records.specs.Records.{Rule, rule_at}
use Rattle.venue.specs.Opening.{day_of}

-- a rule's days, from its first to its last, meet those from `from` to `to`
abbrev pub meets : Rule → ℕ → ℕ → Bool
meets r from to = leb (day_of r.first) to && leb from (day_of r.last)

-- of the places, in order, those whose rules do
unfoldable pub near_of : List ℕ → List ℕ → ℕ → ℕ → List ℕ
near_of s [] from to = []
near_of s (p ∷ ps) from to = let rest = near_of s ps from to in cond (meets (rule_at s p) from to) (p ∷ rest) rest
