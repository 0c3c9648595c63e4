-- The first boundaries are written, by whatever zone and date the midnight is one of.
use Rattle.venue.specs.Values.{rule_in}
use Rattle.walk.proofs.Shifting.{Shifting}
use Rattle.walk.proofs.steady.steady_boundaries.Given as goal

abbrev pub invariant-loop-i : goal.invariant-loop-i
invariant-loop-i l = Shifting (rule_in l.rule) l.midnight.0 l.initial.edges l.edges l.before l.i
