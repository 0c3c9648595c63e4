use Rattle.std.proofs.Common.{◌≡◌, ◌+◌, ◌*◌, ◌≤◌, length, drop}
use Rattle.calendar.specs.Answers.{first_day, last_day}
use Rattle.zone.specs.Units.{day_ns}
use Rattle.zone.specs.Answers.{spacing_ns, valid_from}
use Rattle.zone.proofs.valid.is_valid.Given as goal

-- what is left of the slices decides the test
abbrev pub invariant-loop-at : goal.invariant-loop-at
invariant-loop-at l =
    (l.least ≤ (last_day + 1) * day_ns + spacing_ns)
    × (valid_from l.least (drop (length l.yielded) l.ats) (drop (length l.yielded) l.offsets) ≡ valid_from (first_day * day_ns) l.ats l.offsets)
