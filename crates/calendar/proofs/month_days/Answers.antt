use Rattle.std.proofs.Common.{true, false, sym, arith}
use Rattle.calendar.specs.Gregorian.{month_days}
use Rattle.calendar.proofs.Years.{no_month, month_most}
use Rattle.calendar.proofs.month_days.Goals as goal

pub returns-then-m-gt12 : goal.returns-then-m-gt12
returns-then-m-gt12 c = (sym (no_month c.args.leap_year c.args.month c.if-m-gt12.true), omega arith)

pub returns-then-leap_year : goal.returns-then-leap_year
unfolding month_days
returns-then-leap_year c = (rw c.if-leap_year.true, month_most true c.args.month)

pub returns-else-leap_year : goal.returns-else-leap_year
unfolding month_days
returns-else-leap_year c = (rw c.if-leap_year.false, month_most false c.args.month)
