-- What the code writes fits its fields. Assumes nothing.
use mathlib.Core.Path.{◌≡◌, refl}
use mathlib.Core.Bool.{Bool, true, false}
use Prim.Native.Nat.{ℕ, ◌*◌, ◌^◌, ◌≤◌, ◌<◌}
use native.Mathlib.Omega.{arith}
use borrow.Author.Tests.{ltb-true, ltb-false}
use lib.Dec.{ltb}
use mir.Syntax.{w64}
use mir.Val.{SFits}
use Rattle.calendar.specs.Answers.{zero_day}
use Rattle.zone.specs.Units.{day_ns, instant_number, last_instant}
use Rattle.zone.specs.Answers.{values}
use Rattle.zone.specs.declared.Boundary.{Boundary}
use Rattle.zone.specs.declared.Uncertainty.{Uncertainty}
use Rattle.zone.specs.declared.Uncertainty.TheVariants.{Exact, PublishedGranularity, PublishedBound, ProcessStart, AmbiguousLocalTime, NonexistentLocalTime}
use Rattle.answer.specs.Forms.{phase, unknown, event, point}
use Rattle.answer.specs.Meaning.{side_of, phase_of, event_of, cover_of, missing_of, gap_of}
use Rattle.answer.specs.Fitting.{FitsValues, FitsSide, FitsCover, Fitting}
use Rattle.answer.specs.Used.{UsedUncertainty, UsedBoundary, UsedCover, InUse}
use Rattle.answer.specs.declared.Phase.{Phase}
use Rattle.zone.specs.declared.Interval.{Interval}
use Rattle.std.specs.Prelude.{Option, None, Some}

pub instant_fits : (t : ℕ) → t ≤ last_instant → SFits w64 (instant_number t)
instant_fits t h = go (ltb t (zero_day * day_ns)) refl
  where
    go : (b : Bool) → ltb t (zero_day * day_ns) ≡ b → SFits w64 (instant_number t)
    go true e = let l = ltb-true t (zero_day * day_ns) e in simp e (record { sfits = omega arith })
    go false e = let l = ltb-false t (zero_day * day_ns) e in simp e (record { sfits = omega arith })

pub values_fit : (u : Uncertainty) → UsedUncertainty u → FitsValues (values u)
values_fit Exact h =
    record { tag = omega arith; one = record { sfits = omega arith }; two = record { sfits = omega arith }; text = omega arith }
values_fit (PublishedGranularity n) h =
    record { tag = omega arith; one = record { sfits = h }; two = record { sfits = omega arith }; text = omega arith }
values_fit (PublishedBound n text) h =
    record { tag = omega arith; one = record { sfits = h.0 }; two = record { sfits = omega arith }; text = h.1 }
values_fit (ProcessStart text) h =
    record { tag = omega arith; one = record { sfits = omega arith }; two = record { sfits = omega arith }; text = h }
values_fit (AmbiguousLocalTime d) h =
    record { tag = omega arith; one = instant_fits d.before.0 h.0; two = instant_fits d.after.0 h.1; text = omega arith }
values_fit (NonexistentLocalTime d) h =
    record { tag = omega arith; one = instant_fits d.before.0 h.0; two = instant_fits d.after.0 h.1; text = omega arith }

pub side_fits : (b : Boundary) → UsedBoundary b → FitsSide (side_of b)
side_fits b h = record { at = instant_fits b.at.0 h.at; uncertainty = values_fit b.uncertainty h.uncertainty }

pub cover_fits : (c : Option Interval) → UsedCover c → FitsCover (cover_of c)
cover_fits None h = tt
cover_fits (Some i) h = (instant_fits i.start.0 h.0, instant_fits i.end.0 h.1)

pub phase_bytes_fit : (p : Phase) → InUse p → Fitting (phase (phase_of p))
phase_bytes_fit p h =
    record {
      start = instant_fits p.start.0 h.start;
      end = instant_fits p.end.0 h.end;
      phase = h.phase;
      code = h.code;
      label = h.label;
      evidence = h.evidence;
      derived = h.derived;
      from = side_fits p.from h.from;
      to = side_fits p.to h.to;
      whole = values_fit p.whole h.whole;
      events = h.events;
    }

pub event_bytes_fit : (code : ℕ) (b : Boundary) (evidence : ℕ) → code < 2 ^ 16 → UsedBoundary b → evidence < 2 ^ 16
    → Fitting (event (event_of code b evidence))
event_bytes_fit code b evidence c h e =
    record { code = c; at = instant_fits b.at.0 h.at; uncertainty = values_fit b.uncertainty h.uncertainty; evidence = e }

pub gap_bytes_fit : (s e : ℕ) (c : Option Interval) → s ≤ last_instant → e ≤ last_instant → UsedCover c → Fitting (unknown (gap_of s e c))
gap_bytes_fit s e c h i u = record { start = instant_fits s h; end = instant_fits e i; coverage = cover_fits c u }

pub missing_bytes_fit : (t : ℕ) (c : Option Interval) → t ≤ last_instant → UsedCover c → Fitting (point (missing_of t c))
missing_bytes_fit t c h u = record { at = instant_fits t h; coverage = cover_fits c u }
