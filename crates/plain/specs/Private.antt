-- What the private functions answer. Assumes nothing.
use Rattle.std.specs.Prelude.{ℕ, ◌≤◌, ◌<◌}
use Rattle.spans.specs.Timeline.{Venue}
use Rattle.plain.specs.Plain.{PlainDate}

-- of the dates from d to before `last`, those before r are plain; if there are none, d is not
pub record PlainUntil {A : Type 0} (v : Venue A) (d last r : ℕ) : Type 0 where
  pub most : r ≤ last
  pub run : (e : ℕ) → d ≤ e → e < r → PlainDate v e
  pub stops : r ≤ d → PlainDate v d → ⊥
