use Rattle.std.proofs.Common.{arith}
use Rattle.zone.proofs.Domain.{date_small}
use Rattle.events.specs.Seeking.{begin}
use Rattle.events.proofs.Finding.{date_one, dates_few, dates_end}
use Rattle.events.proofs.seek.search_events.Goals as goal

pub loop-date-preserved : goal.loop-date-preserved
loop-date-preserved c =
    let met = c.on_date-so_far-in-loop-date.ensures in
    date_one _ _ _ _ _ _ c.loop-date.invariant c.loop-date-test.true met.0 met.1

pub returns : goal.returns
returns c =
    let inv = c.loop-date.invariant in
    let ends = c.day_at-ends.ensures in (
      dates_end _ _ _ _ _ _ (begin c.args.at.0 c.args.index) c.on_date-so_far.ensures.0 inv c.loop-date-test.false c.day_at-begins.ensures ends,
      omega (arith, dates_few _ _ _ _ _ _ inv, ends, date_small _ _ _ c.args.span.end.0 c.args.clock.now.valid),
    )
