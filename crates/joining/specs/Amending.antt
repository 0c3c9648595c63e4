-- Joining as the code does it: by what the last span showed, and record by record. Assumes nothing.
use Rattle.std.specs.Prelude.{ℕ, ◌+◌, Bool, false, ◌&&◌, eqb, Option, None, Some}
use Rattle.zone.specs.Answers.{widest_of}
use Rattle.answer.specs.declared.Phase.{Phase}
use Rattle.joining.specs.declared.Last.{Last}

-- what the last span showed, and whether a span from `from` on joins it
abbrev pub is_joinable : Option Last → ℕ → ℕ → ℕ → Bool
is_joinable None from p e = false
is_joinable (Some l) from p e = eqb l.until.0 from && (eqb l.phase p && eqb l.evidence e)

-- the record of two spans that join
abbrev pub merged_phase : Phase → Phase → Phase
merged_phase a b =
    record {
      start = a.start;
      end = b.end;
      phase = a.phase;
      code = a.code;
      label = a.label;
      evidence = a.evidence;
      derived = a.derived;
      from = a.from;
      to = b.to;
      whole = widest_of a.whole b.whole;
      events = a.events + b.events;
    }
