use Rattle.zone.specs.Clocks.{zone_in}
use Rattle.zone.proofs.Ahead.{through_empty, through_all}
use Rattle.zone.proofs.clock.Clock.reads_throughout.Goals as goal

pub returns-then-to-from : goal.returns-then-to-from
returns-then-to-from c = through_empty (zone_in c.args.self.now) _ _ _ c.if-to-from.true

pub returns : goal.returns
returns c =
    through_all (zone_in c.args.self.now) _ _ _ c.if-to-from.false c.reads_on.ensures c.reads_on-2.ensures c.reads_changes.ensures
