use Rattle.std.proofs.Common.{◌≡◌, ◌-◌, ◌≤◌}
use Rattle.zone.specs.Clocks.{zone_in}
use Rattle.venue.specs.Values.{rules_in}
use Rattle.day.specs.Governing.{governing_rule}
use Rattle.plain.proofs.Looking.{left}
use Rattle.plain.proofs.window.reaches.Given as goal

abbrev pub invariant-loop-date : goal.invariant-loop-date
invariant-loop-date l =
    record {
      within : l.date.0 ≤ l.last.0;
      same : left (zone_in l.clock) (governing_rule (rules_in l.rules)) l.end.0 l.last.0 l.fn.d.0
          ≡ left (zone_in l.clock) (governing_rule (rules_in l.rules)) l.end.0 l.last.0 l.date.0;
    }

abbrev pub decreases-loop-date : goal.decreases-loop-date
decreases-loop-date l = l.last.0 - l.date.0
