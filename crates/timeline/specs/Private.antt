-- What the private functions answer. Assumes nothing.
use Rattle.std.specs.Prelude.{ℕ, min, max, List, [], ◌++◌}
use Rattle.std.specs.Prelude.{Option, None}
use Rattle.spans.specs.Spans.{keep}
use Rattle.day.specs.Days.{Values}
use Rattle.answer.specs.Forms.{Cover, Form}
use Rattle.answer.specs.Meaning.{cover_of}
use Rattle.zone.specs.declared.Interval.{Interval}
use Rattle.walk_records.specs.Walked.{phase_forms, walk_spans}
use Rattle.timeline.specs.Asking.{timeline_forms}

-- the stretch from `from` to before `to`, of which nothing is known, unless it is empty
abbrev pub gap_forms : Option Cover → ℕ → ℕ → List Form
gap_forms c from to = timeline_forms c (keep from to None [])

-- of an opened book: unknown before coverage, the walk, unknown after
abbrev pub told : Values → Option Interval → ℕ → ℕ → List Form
told v c start end =
    gap_forms (cover_of c) start (min end v.coverage.start)
    ++ (phase_forms (walk_spans v.zone v.governing v.events (max start v.coverage.start) (min end v.coverage.end))
    ++ gap_forms (cover_of c) (max start v.coverage.end) end)
