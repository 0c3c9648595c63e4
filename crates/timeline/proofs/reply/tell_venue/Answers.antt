use Rattle.std.proofs.Common.{arith}
use Rattle.std.specs.Prelude.{Some}
use Rattle.day.specs.Venues.{values_in}
use Rattle.timeline.proofs.Parts.{cut_at, told_short, told_written}
use Rattle.timeline.proofs.reply.tell_venue.Goals as goal

pub returns-then-out-length : goal.returns-then-out-length
returns-then-out-length c =
    let window = c.args.window in
    let cut =
    cut_at (values_in c.args.venue.now) window.start.0 window.end.0 c.min.ensures c.max.ensures c.min-2.ensures c.max-2.ensures
    c.walk_size.ensures.0 in
    told_short (Some c.args.venue.now.coverage) cut (omega (arith, c.if-out-length.true, c.gap_size.ensures.0, c.gap_size-2.ensures.0))

pub returns : goal.returns
returns c =
    let window = c.args.window in
    let cut =
    cut_at (values_in c.args.venue.now) window.start.0 window.end.0 c.min.ensures c.max.ensures c.min-2.ensures c.max-2.ensures
    c.walk_size.ensures.0 in
    told_written (Some c.args.venue.now.coverage) cut (omega (arith, c.if-out-length.false, c.gap_size.ensures.0, c.gap_size-2.ensures.0))
    c.put_unknown-a.ensures c.put_walk-b.ensures c.put_unknown.ensures
