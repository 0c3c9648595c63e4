use Rattle.std.proofs.Common.{◌≡◌}
use lib.ListN.{drop}
use Rattle.zone.specs.Clocks.{zone_in}
use Rattle.venue.specs.Values.{rule_in}
use Rattle.plain.specs.Deciding.{rises, taken_at}
use Rattle.plain.proofs.date.rises.Given as goal

abbrev pub invariant-loop-i : goal.invariant-loop-i
invariant-loop-i l =
    rises (taken_at (zone_in l.clock) l.d.0) l.fn.from.0 l.to.0 (rule_in l.rule).points
    ≡ rises (taken_at (zone_in l.clock) l.d.0) l.before l.to.0 (drop l.i (rule_in l.rule).points)
