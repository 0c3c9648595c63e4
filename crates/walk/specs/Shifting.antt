-- A date whose times are one shift of its midnight. Assumes nothing.
use Rattle.std.specs.Prelude.{None, Option, Some}
use Rattle.std.specs.Prelude.{ℕ, suc, ◌+◌, ◌≤◌, ◌≡◌, List}
use Rattle.wire.specs.Fields.{wrote}
use Rattle.zone.specs.Units.{day_ns}
use Rattle.zone.specs.Zone.{Zone}
use Rattle.zone.specs.Answers.{boundary_at}
use Rattle.zone.specs.Steady.{DayOnWall, midnight_by}
use Rattle.zone.specs.declared.Uncertainty.{Uncertainty}
use Rattle.records.specs.Records.{Rule}
use Rattle.walk.specs.Walking.{edge_instants}

-- a date's times stand as far behind its midnight m as they are long, none in doubt, and so does the next midnight
pub record Shifts (z : Zone) (d m : ℕ) : Type 0 where
  pub times : (x : ℕ) (u : Uncertainty) → x ≤ day_ns → boundary_at z d x u ≡ record { at = record { 0 = m + x }; uncertainty = u }
  pub next : (u : Uncertainty) → boundary_at z (suc d) 0 u ≡ record { at = record { 0 = m + day_ns }; uncertainty = u }

-- where the clock is steady, a date shifts with its offset
abbrev pub SteadyOn : Zone → Option ℕ → ℕ → Type 0
SteadyOn z None d = Unit {0}
SteadyOn z (Some o) d = DayOnWall o d × Shifts z d (midnight_by o d)

-- the boundaries of every such date that begins at m stand in place of an array's first numbers
abbrev pub ShiftedIn : Rule → ℕ → List ℕ → List ℕ → Type 0
ShiftedIn r m old new = (z : Zone) (d : ℕ) → Shifts z d m → new ≡ wrote old 0 (edge_instants z r d)
