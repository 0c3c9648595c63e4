-- Whether every instant from a to before b reads the date d, as a test. Assumes nothing.
use Rattle.std.specs.Prelude.{ℕ, ◌-◌, Bool, true, not, ◌&&◌, ◌||◌, List, [], ◌∷◌, ◌==◌, nat_lt}
use Rattle.zone.specs.Zone.{Change, Zone, date_at}

abbrev pub reads_on : Zone → ℕ → ℕ → Bool
reads_on z d t = date_at z t == d

-- a transition between them: the last instant before it, and its own
abbrev pub reads_around : Zone → ℕ → ℕ → ℕ → ℕ → Bool
reads_around z d a b at = not (nat_lt a at && nat_lt at b) || (reads_on z d (at - 1) && reads_on z d at)

unfoldable pub reads_changes : Zone → ℕ → ℕ → ℕ → List Change → Bool
reads_changes z d a b [] = true
reads_changes z d a b (c ∷ cs) = reads_around z d a b c.at && reads_changes z d a b cs

-- the first and the last of them, and both sides of each transition between: from one of these to the next the offset is the same
unfoldable pub reads_throughout : Zone → ℕ → ℕ → ℕ → Bool
reads_throughout z d a b = not (nat_lt a b) || ((reads_on z d a && reads_on z d (b - 1)) && reads_changes z d a b z.changes)
