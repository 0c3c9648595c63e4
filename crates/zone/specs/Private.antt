-- What the private functions answer. Assumes nothing.
use Rattle.std.specs.Prelude.{ℕ, ◌^◌, ◌<◌, ◌≤◌, cond, List, ◌∷◌, length, get_or, nat_le, nat_lt, slice_index_or}
use Rattle.zone.specs.declared.Resolution.{Resolution}
use Rattle.zone.specs.declared.Resolution.TheVariants.{Clear, Fold, Gap}

-- r of the instants stand at or before t: the last of those does, and the next one stands later
pub record Passed (ats : List ℕ) (t r : ℕ) : Type 0 where
  pub most : r ≤ length ats
  pub last : get_or (0 ∷ ats) r 0 ≤ t
  pub next : t < slice_index_or ats r (2 ^ 64)

-- how many do is from `from` to `to`
pub record Between (ats : List ℕ) (t from to : ℕ) : Type 0 where
  pub order : from ≤ to
  pub most : to ≤ length ats
  pub last : get_or (0 ∷ ats) from 0 ≤ t
  pub next : t < slice_index_or ats to (2 ^ 64)

-- a reading around one transition: a by the offset before it, b by the one after
abbrev pub around : ℕ → ℕ → ℕ → Resolution
around at a b =
    cond (nat_lt a at) (cond (nat_le at b) (Fold (record { before = record { 0 = a }; after = record { 0 = b } })) (Clear (record { 0 = a })))
    (cond (nat_le at b) (Clear (record { 0 = b })) (Gap (record { before = record { 0 = a }; after = record { 0 = b } })))
