-- What a point answer says, by the definitions and by its bytes: the phase and the evidence, if it is known. Assumes nothing.
use Rattle.std.specs.Prelude.{ℕ, cond, List, eqb}
use Rattle.std.specs.Prelude.{Option, None, Some}
use Rattle.records.specs.Layout.{number, kind}
use Rattle.spans.specs.Spans.{Mark, phase}
use Rattle.day.specs.Days.{Held}
use Rattle.answer.specs.Forms.{phase_place, evidence_place, phase_kind}

abbrev pub point_mark : Option Held → Option Mark
point_mark None = None
point_mark (Some h) = Some (phase h.phase h.rule.evidence)

-- a known point is kind 16
unfoldable pub point_said : List ℕ → Option Mark
point_said s = cond (eqb (number kind s 0) phase_kind) (Some (phase (number phase_place s 0) (number evidence_place s 0))) None
