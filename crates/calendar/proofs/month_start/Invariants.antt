use Rattle.std.proofs.Common.{◌≡◌, ◌-◌}
use Rattle.calendar.specs.Gregorian.{total, month_days}
use Rattle.calendar.proofs.month_start.Given as goal

abbrev pub invariant-loop-m : goal.invariant-loop-m
invariant-loop-m l = l.days ≡ total (month_days l.leap_year) 1 (l.m - 1)
