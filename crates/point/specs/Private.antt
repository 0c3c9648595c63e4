-- What the private functions answer. Assumes nothing.
use Rattle.std.specs.Prelude.{ℕ, List, [], ◌∷◌}
use Rattle.std.specs.Prelude.{Option, None, Some}
use Rattle.day.specs.Days.{Values, Held, point_of}
use Rattle.answer.specs.Forms.{Form, point}
use Rattle.answer.specs.Meaning.{missing_of}
use Rattle.zone.specs.declared.Interval.{Interval}
use Rattle.point.specs.Asking.{known_forms}

-- what is told of a point that is known, and of one that is not
abbrev pub told_held : Values → Option Interval → ℕ → Option Held → List Form
told_held v c t None = point (missing_of t c) ∷ []
told_held v c t (Some h) = known_forms v h

-- of an opened book
abbrev pub told : Values → Option Interval → ℕ → List Form
told v c t = told_held v c t (point_of v t)
