use Rattle.std.proofs.Common.{◌≡◌, ℕ, Some, ap, ◌∙◌, arith}
use mir.Facts.{to_z-of_z}
use Rattle.calendar.specs.Answers.{within}
use Rattle.calendar.proofs.Dates.{within_day, date_within}
use Rattle.calendar.proofs.date_of.Goals as goal

pub returns-in_err-day : goal.returns-in_err-day
returns-in_err-day c =
    let none_within = c.in_err-day.ensures ∙ ap within (to_z-of_z c.ranges.number) in
    rw c.from_residual.ensures (λ y m d e. let some_within = date_within y m d c.args.number e in let z : ◌≡◌ {A = ℕ} 0 1 = cc in omega arith)

-- the Day that was found means the number that was asked for, and is one of the calendar
pub date_on-requires : goal.date_on-requires
date_on-requires c = let known = within_day c.in_ok-day.day.0 _ c.in_ok-day.ensures in (known.1, known.2)

pub returns : goal.returns
returns c =
    let known = within_day c.in_ok-day.day.0 _ c.in_ok-day.ensures in
    c.date_on.ensures ∙ ap Some (known.0 ∙ to_z-of_z c.ranges.number)
