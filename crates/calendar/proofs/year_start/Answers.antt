use Rattle.std.proofs.Common.{arith}
use Rattle.calendar.specs.Answers.{first_day}
use Rattle.calendar.specs.Gregorian.{first_year, leap, year_days}
use Rattle.calendar.proofs.Totals.{table, rises}
use Rattle.calendar.proofs.Years.{all_years}
use Rattle.calendar.proofs.year_start.Goals as goal

pub returns : goal.returns
unfolding year_days leap
returns c =
    let known = table year_days 301 first_year first_day c.args.k (omega arith) in
    (known, omega (arith, rises year_days first_year c.args.k 300 c.requires, all_years))
