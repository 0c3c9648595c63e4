-- Plain dates and plain windows of a venue: document 01, "A date is plain when ..". Assumes nothing.
use Rattle.std.specs.Prelude.{◌≡◌, List, [], ◌∷◌, ℕ, suc, ◌+◌, ◌-◌, ◌≤◌, ◌<◌}
use Rattle.std.specs.Prelude.{Option, None, Some}
use Rattle.records.specs.Records.{Point, Rule}
use Rattle.spans.specs.Timeline.{Venue, Part, midnight}

-- ---- plain dates

-- the points convert in non-falling order between two instants, both included
abbrev pub Rises : (ℕ → ℕ) → ℕ → ℕ → List Point → Type 0
Rises conv lo hi [] = lo ≤ hi
Rises conv lo hi (p ∷ ps) = (lo ≤ conv p.time) × Rises conv (conv p.time) hi ps

-- the points of a rule, if there is one
abbrev pub InOrder : (ℕ → ℕ) → ℕ → ℕ → Option Rule → Type 0
InOrder conv lo hi None = Unit {0}
InOrder conv lo hi (Some r) = Rises conv lo hi r.points

-- A date is plain when its midnight is not later than the next; its governing rule's points, if any, convert in non-falling order between
-- the two; and every instant from the first to before the second reads that date.
pub record PlainDate {A : Type 0} (v : Venue A) (d : ℕ) : Type 0 where
  pub rising : midnight v d ≤ midnight v (suc d)
  pub points : InOrder (v.conv d) (midnight v d) (midnight v (suc d)) (v.governing d)
  pub reading : (t : ℕ) → midnight v d ≤ t → t < midnight v (suc d) → v.reads t ≡ d

-- ---- plain windows

-- the most dates of a run
abbrev pub longest_run : ℕ
longest_run = 3660

-- A window is plain when its midnights enclose it over a run of at most 3,660 consecutive plain dates, with a plain date on each side. The
-- run is of `count` dates from `first` on.
pub record PlainWindow {A : Type 0} (v : Venue A) (w : Part) : Type 0 where
  pub first : ℕ
  pub count : ℕ
  pub few : count ≤ longest_run
  pub run : (d : ℕ) → first ≤ d → d < first + count → PlainDate v d
  pub opens : midnight v first ≤ w.start
  pub closes : w.end ≤ midnight v (first + count)
  pub later : 0 < first
  pub before : PlainDate v (first - 1)
  pub after : PlainDate v (first + count)
