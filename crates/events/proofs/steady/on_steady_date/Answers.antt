use Rattle.std.proofs.Common.{refl, arith}
use Rattle.events.proofs.Keeping.{keeps_none, keeps_by, keep_one, keep_end, event_in, event_out, no_events}
use Rattle.events.proofs.steady.on_steady_date.Goals as goal
use Rattle.events.proofs.steady.on_steady_date.Goals.{then-first-d, else-first-d}

pub loop-at-preserved : goal.loop-at-preserved
loop-at-preserved c =
    let book = c.args.events.now.book.now in
    let first_read = c.first.ensures.0 in
    let last_read = c.last.ensures.0 in
    elim c.if-first-d.branch [
      | then-first-d w ↦
          let kept = w.on_steady_times-count.ensures in
          keep_one c.loop-at.invariant c.loop-at-test.true refl (event_in book _ _ _ _ _ _ first_read last_read w.if-first-d.true)
          (keeps_by kept.0 w.when-is w.which-is w.count-is) (omega (arith, kept.1, w.count-is))
      | else-first-d w ↦
          keep_one c.loop-at.invariant c.loop-at-test.true refl (event_out book _ _ _ _ _ _ first_read last_read w.if-first-d.false)
          (keeps_by keeps_none w.when-is w.which-is w.count-is) (omega (arith, w.count-is))
    ]

pub returns : goal.returns
returns c =
    let inv = c.loop-at.invariant in
    (keep_end (no_events _ _ _ _ _) inv c.loop-at-test.false, omega (arith, inv.inside, inv.few, c.args.events.now.few))
