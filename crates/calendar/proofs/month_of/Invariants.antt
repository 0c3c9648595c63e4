use Rattle.std.proofs.Common.{◌≤◌, ◌-◌}
use Rattle.calendar.specs.Gregorian.{total, month_days}
use Rattle.calendar.proofs.month_of.Given as goal

abbrev pub invariant-loop-month : goal.invariant-loop-month
invariant-loop-month l = total (month_days l.leap_year) 1 (l.month - 1) ≤ l.day
