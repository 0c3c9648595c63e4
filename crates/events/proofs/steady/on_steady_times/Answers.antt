use Rattle.std.proofs.Common.{length, ◌<◌, arith}
use Rattle.records.specs.Records.{event_at}
use Rattle.events.proofs.Keeping.{keeps_none, keeps_by, keep_one, keep_end, time_in, time_out, no_times}
use Rattle.events.proofs.steady.on_steady_times.Goals as goal
use Rattle.events.proofs.steady.on_steady_times.Goals.{then-span-at, else-span-at}

pub loop-i-preserved : goal.loop-i-preserved
loop-i-preserved c =
    let e = event_at c.args.event.now.book.now c.args.event.now.at in
    let h : c.loop-i.i < length e.times = omega (arith, c.times-i-end.ensures.0, c.loop-i-test.true) in
    elim c.if-span-at.branch [
      | then-span-at w ↦
          keep_one c.loop-i.invariant h c.time.ensures.0 (time_in _ _ _ _ _ _ w.if-span-at.true)
          (keeps_by w.keep-count.ensures w.when-is w.which-is w.count-is) (omega (arith, w.keep-count.ensures.count, w.count-is))
      | else-span-at w ↦
          keep_one c.loop-i.invariant h c.time.ensures.0 (time_out _ _ _ _ _ _ w.if-span-at.false) (keeps_by keeps_none w.when-is w.which-is w.count-is)
          (omega (arith, w.count-is))
    ]

pub returns : goal.returns
returns c =
    let n = c.times-i-end.ensures in
    let inv = c.loop-i.invariant in
    (keep_end (no_times _ _ _ _) inv (omega (arith, n.0, c.loop-i-test.false)), omega (arith, n.0, n.1, inv.inside, inv.few))
