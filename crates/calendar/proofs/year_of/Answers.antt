use Rattle.std.proofs.Common.{suc, ◌+◌, ◌-◌, ◌/◌, ap, add-one, arith}
use Rattle.calendar.specs.Answers.{first_day}
use Rattle.calendar.specs.Gregorian.{first_year, total, year_days}
use Rattle.calendar.proofs.Years.{all_years, years_least, years_most, not_last}
use Rattle.calendar.proofs.year_of.Goals as goal

pub returns-then-year_start-day : goal.returns-then-year_start-day
returns-then-year_start-day c =
    let day = c.args.day in
    let guess = (day - first_day) / 366 in (
      not_last year_days first_year 300 guess (day - first_day) (omega arith) (omega arith) (omega (arith, all_years)),
      omega arith,
      omega (arith, years_least (suc (guess + 1))),
    )

pub returns-else-year_start-day : goal.returns-else-year_start-day
returns-else-year_start-day c =
    let guess = (c.args.day - first_day) / 366 in
    (omega arith, omega (arith, years_most guess), omega (arith, ap (total year_days first_year) (add-one guess)))
