use Rattle.std.proofs.Common.{◌≡◌, ◌+◌, ◌-◌, Some, sym, ap, ◌∙◌, arith}
use Rattle.calendar.specs.Answers.{meaning}
use Rattle.calendar.specs.Gregorian.{elapsed, month_days}
use Rattle.calendar.proofs.Dates.{day_on, valid_of, has_number, has_none}
use Rattle.calendar.proofs.day_on.Goals as goal

pub returns-then-year-lt-FIRST_YEAR : goal.returns-then-year-lt-FIRST_YEAR
returns-then-year-lt-FIRST_YEAR c = sym (has_none c.args.year c.args.month c.args.day (λ v. omega arith))

pub returns-then-year-gt-LAST_YEAR : goal.returns-then-year-gt-LAST_YEAR
returns-then-year-gt-LAST_YEAR c = sym (has_none c.args.year c.args.month c.args.day (λ v. omega arith))

pub returns-then-day-lt1 : goal.returns-then-day-lt1
returns-then-day-lt1 c = sym (has_none c.args.year c.args.month c.args.day (λ v. omega arith))

pub returns-then-month_days-day : goal.returns-then-month_days-day
returns-then-month_days-day c =
    let days = ap (λ b. month_days b c.args.month) c.is_leap-leap_year.ensures in
    sym (has_none c.args.year c.args.month c.args.day (λ v. omega arith))

pub month_start-requires : goal.month_start-requires
month_start-requires c =
    let days = ap (λ b. month_days b c.args.month) c.is_leap-leap_year.ensures in
    let v = valid_of c.args.year c.args.month c.args.day (omega arith) (omega arith) (omega arith) (omega arith) in
    omega arith

pub returns : goal.returns
unfolding elapsed
returns c =
    let days = ap (λ b. month_days b c.args.month) c.is_leap-leap_year.ensures in
    let begun = rw c.is_leap-leap_year.ensures at c.month_start.ensures in
    let y = c.args.year in
    let m = c.args.month in
    let d = c.args.day in
    let v = valid_of y m d (omega arith) (omega arith) (omega arith) (omega arith) in
    let on : day_on y m d ≡ c.year_start.result + c.month_start.result + (d - 1) = omega arith in
    sym (has_number y m d v ∙ ap (λ n. Some (meaning n)) on)
