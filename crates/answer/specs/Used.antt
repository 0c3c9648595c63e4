-- What the code's answers may hold, so that they fit: instants in use, widths below 2^63, and numbers as wide as their types. Assumes nothing.
use Rattle.std.specs.Prelude.{◌≤◌, ◌<◌, ◌^◌, Option, None, Some}
use Rattle.zone.specs.Units.{last_instant}
use Rattle.zone.specs.declared.Boundary.{Boundary}
use Rattle.zone.specs.declared.Doubt.{Doubt}
use Rattle.zone.specs.declared.Uncertainty.{Uncertainty}
use Rattle.zone.specs.declared.Uncertainty.TheVariants.{Exact, PublishedGranularity, PublishedBound, ProcessStart, AmbiguousLocalTime, NonexistentLocalTime}
use Rattle.answer.specs.declared.Phase.{Phase}
use Rattle.zone.specs.declared.Interval.{Interval}

abbrev pub UsedDoubt : Doubt → Type 0
UsedDoubt d = (d.before.0 ≤ last_instant) × (d.after.0 ≤ last_instant)

abbrev pub UsedUncertainty : Uncertainty → Type 0
UsedUncertainty Exact = Unit {0}
UsedUncertainty (PublishedGranularity n) = n < 2 ^ 63
UsedUncertainty (PublishedBound n text) = (n < 2 ^ 63) × (text < 2 ^ 16)
UsedUncertainty (ProcessStart text) = text < 2 ^ 16
UsedUncertainty (AmbiguousLocalTime d) = UsedDoubt d
UsedUncertainty (NonexistentLocalTime d) = UsedDoubt d

pub record UsedBoundary (b : Boundary) : Type 0 where
  pub at : b.at.0 ≤ last_instant
  pub uncertainty : UsedUncertainty b.uncertainty

abbrev pub UsedCover : Option Interval → Type 0
UsedCover None = Unit {0}
UsedCover (Some i) = (i.start.0 ≤ last_instant) × (i.end.0 ≤ last_instant)

pub record InUse (p : Phase) : Type 0 where
  pub start : p.start.0 ≤ last_instant
  pub end : p.end.0 ≤ last_instant
  pub phase : p.phase < 2 ^ 8
  pub code : p.code < 2 ^ 8
  pub label : p.label < 2 ^ 16
  pub evidence : p.evidence < 2 ^ 16
  pub derived : p.derived < 2 ^ 16
  pub from : UsedBoundary p.from
  pub to : UsedBoundary p.to
  pub whole : UsedUncertainty p.whole
  pub events : p.events < 2 ^ 32
