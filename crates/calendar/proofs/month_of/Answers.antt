use Rattle.std.proofs.Common.{arith}
use Rattle.calendar.specs.Gregorian.{month_days}
use Rattle.calendar.proofs.Totals.{none}
use Rattle.calendar.proofs.month_of.Goals as goal

pub loop-month-init : goal.loop-month-init
loop-month-init c = omega (arith, none (month_days c.args.leap_year) 1)
