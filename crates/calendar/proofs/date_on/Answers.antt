use Rattle.std.proofs.Common.{◌≡◌, ◌+◌, ◌-◌, Some, ap, ◌∙◌, arith}
use Rattle.calendar.specs.Answers.{meaning}
use Rattle.calendar.specs.Gregorian.{first_year, year_days, month_days, leap}
use Rattle.calendar.proofs.Dates.{day_on, made, has_number}
use Rattle.calendar.proofs.Totals.{next, next_from_one}
use Rattle.calendar.proofs.Years.{year_months}
use Rattle.calendar.proofs.date_on.Goals as goal

pub month_of-month-requires : goal.month_of-month-requires
month_of-month-requires c =
    let k = c.year_of-k.result in
    rw c.is_leap-leap_year.ensures (omega (arith, next year_days first_year k, year_months (first_year + k)))

pub returns : goal.returns
returns c =
    let k = c.year_of-k.result in
    let m = c.month_of-month.result in
    let in-month = rw c.is_leap-leap_year.ensures at c.month_of-month.ensures in
    let begun = rw c.is_leap-leap_year.ensures at c.month_start-before.ensures in
    let j = c.args.d.0 - c.year_start.result - c.month_start-before.result in
    let size = month_days (leap (first_year + k)) in
    let x = made k m j (omega arith) (omega arith) (omega (arith, next_from_one size m (omega arith))) in
    let on : day_on (first_year + k) m (j + 1) ≡ c.args.d.0 = omega (arith, x.1) in
    has_number (first_year + k) m (j + 1) x.0 ∙ ap (λ n. Some (meaning n)) on
