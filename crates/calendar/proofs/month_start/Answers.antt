use Rattle.std.proofs.Common.{◌≡◌, ◌+◌, ◌-◌, sym, arith}
use Rattle.calendar.specs.Gregorian.{month_days}
use Rattle.calendar.proofs.Totals.{none, next_from_one}
use Rattle.calendar.proofs.Years.{months_most}
use Rattle.calendar.proofs.month_start.Goals as goal

pub loop-m-init : goal.loop-m-init
loop-m-init c = sym (none (month_days c.args.leap_year) 1)

pub overflow_add-days : goal.overflow_add-days
overflow_add-days c = omega (arith, months_most c.args.leap_year (c.loop-m.m - 1))

pub loop-m-preserved : goal.loop-m-preserved
loop-m-preserved c =
    let z : c.loop-m.m + 1 - 1 ≡ c.loop-m.m = omega arith in
    rw z (omega (arith, next_from_one (month_days c.args.leap_year) c.loop-m.m (omega arith)))

pub returns : goal.returns
returns c =
    let z : c.loop-m.m ≡ c.args.month = omega arith in
    rw (← z) (omega (arith, months_most c.args.leap_year (c.loop-m.m - 1)))
