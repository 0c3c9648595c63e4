use Rattle.std.proofs.Common.{length, ◌<◌, sym, ◌∙◌, arith}
use Rattle.zone.specs.Clocks.{zone_in}
use Rattle.venue.specs.Values.{event_in}
use Rattle.events.proofs.Finding.{time_met, time_passed, times_end}
use Rattle.events.proofs.seek.on_times.Goals as goal
use Rattle.events.proofs.seek.on_times.Goals.{then-happens, else-happens}

pub loop-i-preserved : goal.loop-i-preserved
loop-i-preserved c =
    let z = zone_in c.args.clock.now in
    let e = event_in c.args.event.now in
    let h : c.loop-i.i < length e.times = omega (arith, c.times-i-end.ensures.0, c.loop-i-test.true) in
    let asked = sym c.happens.ensures in
    elim c.if-happens.branch [
      | then-happens w ↦
          time_met z _ _ _ e c.loop-i.invariant h c.time.ensures.0 c.occurrence-o.ensures (asked ∙ w.if-happens.true) (w.so_far-is ∙ w.met-so_far.ensures)
      | else-happens w ↦ time_passed z _ _ _ e c.loop-i.invariant h c.time.ensures.0 c.occurrence-o.ensures (asked ∙ w.if-happens.false) w.so_far-is
    ]

pub returns : goal.returns
returns c =
    let n = c.times-i-end.ensures in
    let inv = c.loop-i.invariant in
    times_end _ _ _ _ (event_in c.args.event.now) inv (omega (arith, n.0, c.loop-i-test.false)) (omega (arith, n.0, n.1, inv.inside))
