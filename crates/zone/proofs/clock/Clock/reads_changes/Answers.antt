use Rattle.std.proofs.Common.{ap, sym, not, arith}
use Rattle.zone.proofs.Ahead.{ahead_passed, ahead_end, ahead_late, ahead_stops, ahead_goes}
use Rattle.zone.proofs.clock.Clock.reads_changes.Goals as goal

pub loop-k-init : goal.loop-k-init
loop-k-init c = ahead_passed c.args.self.now.valid c.passed-k.ensures

pub returns-then-to-at : goal.returns-then-to-at
returns-then-to-at c = sym (ahead_late c.args.self.now.valid c.loop-k.invariant (omega arith) c.if-to-at.true)

pub returns-then-not-reads_on : goal.returns-then-not-reads_on
returns-then-not-reads_on c =
    sym
    (ahead_stops c.args.self.now.valid c.loop-k.invariant (omega arith) c.if-to-at.false c.reads_on.ensures c.reads_on-in-loop-k.ensures
    (ap not c.if-not-reads_on.true))

pub loop-k-preserved : goal.loop-k-preserved
loop-k-preserved c =
    ahead_goes c.args.self.now.valid c.loop-k.invariant (omega arith) c.if-to-at.false c.reads_on.ensures c.reads_on-in-loop-k.ensures
    (ap not c.if-not-reads_on.false)

pub returns : goal.returns
returns c = sym (ahead_end c.args.self.now.valid c.loop-k.invariant (omega arith) (omega arith))
