use Rattle.std.proofs.Common.{◌-◌}
use Rattle.zone.specs.Private.{Between}
use Rattle.zone.proofs.search.bisected.Given as goal

-- the number lies from `low` to `high`
abbrev pub invariant-loop-low : goal.invariant-loop-low
invariant-loop-low l = Between l.ats l.t l.low l.high

abbrev pub decreases-loop-low : goal.decreases-loop-low
decreases-loop-low l = l.high - l.low
