use Rattle.std.proofs.Common.{arith}
use Rattle.events.proofs.Keeping.{dates_forward, date_one, dates_end}
use Rattle.events.proofs.steady.on_steady_dates.Goals as goal

pub loop-date-preserved : goal.loop-date-preserved
loop-date-preserved c =
    let kept = c.on_steady_date-n.ensures in
    date_one _ _ _ _ _ _ _ _ c.loop-date.invariant c.loop-date-test.true c.steady_midnight-midnight.ensures kept.0 kept.1

-- behind the last date
pub returns-2 : goal.returns-2
returns-2 c =
    let kept = c.on_steady_date-n.ensures in
    let begins = c.steady_day-begins.ensures in
    let ends = c.steady_day-ends.ensures in
    let forward = dates_forward c.args.offset _ _ c.requires.2 in
    dates_end _ _ _ _ _ _ _ (date_one _ _ _ _ _ _ _ _ c.loop-date.invariant c.loop-date-test.true c.steady_midnight-midnight.ensures kept.0 kept.1)
    (omega arith) (omega (arith, forward, begins, ends)) begins ends
