use Rattle.std.proofs.Common.{◌-◌}
use Rattle.tally_rows.proofs.Filling.{Cutting}
use Rattle.tally_rows.proofs.cuts.count_rows.Given as goal

abbrev pub invariant-loop-at : goal.invariant-loop-at
invariant-loop-at l = Cutting l.start l.end l.count l.at

abbrev pub decreases-loop-at : goal.decreases-loop-at
decreases-loop-at l = l.end - l.at
