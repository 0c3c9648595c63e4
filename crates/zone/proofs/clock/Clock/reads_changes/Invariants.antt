use Rattle.zone.specs.Clocks.{zone_in}
use Rattle.zone.proofs.Ahead.{Ahead}
use Rattle.zone.proofs.clock.Clock.reads_changes.Given as goal

-- the transitions before the one looked at tell nothing more
abbrev pub invariant-loop-k : goal.invariant-loop-k
invariant-loop-k l = Ahead (zone_in l.fn.self) l.fn.d.0 l.fn.from.0 l.fn.to.0 l.fn.self.ats.now l.fn.self.offsets.now l.k
