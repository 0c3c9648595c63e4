-- Head, ends and totals, each behind the one before it; the head says the number of the row's kind.
use Rattle.std.proofs.Common.{refl}
use Rattle.answer.specs.Meaning.{totals_of}
use Rattle.answer.proofs.Chain.{after, day_bytes, tally_bytes}
use Rattle.answer.proofs.put.put_row.Goals as goal
use Rattle.answer.proofs.put.put_row.Goals.{in-Day, in-Closing}

pub returns : goal.returns
returns c =
    let ts = totals_of c.args.row.start.0 c.args.row.end.0 c.args.totals.now in
    let body = after c.put_interval-b.ensures (rw c.told-totals at c.put_each.ensures) refl in
    elim c.match-kind.branch [
      | in-Day w ↦ rw (w.in-Day.is, day_bytes ts) (after (rw w.number-is at c.put_head-a.ensures) body refl)
      | in-Closing w ↦ rw (w.in-Closing.is, tally_bytes ts) (after (rw w.number-is at c.put_head-a.ensures) body refl)
    ]
