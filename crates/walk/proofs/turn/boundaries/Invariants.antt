-- The first boundaries are written, and it is told whether one of them is in doubt.
use Rattle.zone.specs.Clocks.{zone_in}
use Rattle.venue.specs.Values.{rule_in}
use Rattle.walk.proofs.Filling.{Filling, ClearTo}
use Rattle.walk.proofs.turn.boundaries.Given as goal

abbrev pub invariant-loop-i : goal.invariant-loop-i
invariant-loop-i l = record {
  filling : Filling (zone_in l.clock) (rule_in l.rule) l.d.0 l.initial.edges l.edges l.before l.i;
  clear_to : ClearTo (zone_in l.clock) (rule_in l.rule) l.d.0 l.clear l.i;
}
