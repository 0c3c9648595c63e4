use Rattle.std.proofs.Common.{length, ◌-◌, ◌≤◌}
use Rattle.vectors_zone.proofs.cases.Given as goal

abbrev pub invariant-loop-at : goal.invariant-loop-at
invariant-loop-at l = l.from ≤ l.at

-- a case has at least one byte
abbrev pub decreases-loop-at : goal.decreases-loop-at
decreases-loop-at l = length l.list - l.at
