use Rattle.std.proofs.Common.{refl, arith}
use Rattle.zone.specs.Clocks.{zone_in}
use Rattle.events.proofs.Finding.{event_met, event_passed, events_end}
use Rattle.events.proofs.seek.on_date.Goals as goal
use Rattle.events.proofs.seek.on_date.Goals.{then-first-d, else-first-d}

pub loop-at-preserved : goal.loop-at-preserved
loop-at-preserved c =
    let z = zone_in c.args.clock.now in
    let inv = c.loop-at.invariant in
    let first_read = c.first.ensures.0 in
    let last_read = c.last.ensures.0 in
    elim c.if-first-d.branch [
      | then-first-d w ↦
          let met = w.on_times-so_far.ensures in
          event_met z _ _ _ _ _ inv c.loop-at-test.true refl first_read last_read w.if-first-d.true met.0 met.1 w.so_far-is
      | else-first-d w ↦ event_passed z _ _ _ _ _ inv c.loop-at-test.true refl first_read last_read w.if-first-d.false w.so_far-is
    ]

pub returns : goal.returns
returns c =
    let inv = c.loop-at.invariant in
    events_end _ _ _ _ c.args.events.now.book.now _ inv c.loop-at-test.false (omega (arith, inv.inside, c.args.events.now.few))
