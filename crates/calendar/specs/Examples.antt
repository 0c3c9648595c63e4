-- Document 01's starred examples of dates, computed: one statement over a table. Assumes nothing.
use Rattle.std.specs.Prelude.{ℕ, ◌+◌, ◌≡◌, refl, cond, List, [], ◌∷◌, map, ℤ, pos}
use Rattle.std.specs.Prelude.{Option, None, Some}
use Rattle.calendar.specs.Gregorian
use Rattle.calendar.specs.Gregorian.{Civil, elapsed, is_date, day_number}
use Rattle.calendar.specs.Answers.{weekday_of}

-- the day number of a date
abbrev pub number_told : Civil → Option ℤ
number_told x = day_number x.year x.month x.day

-- its weekday, Monday 0; a date is the Day that many days after 1900-01-01, which is Day 7
abbrev pub weekday_told : Civil → Option ℕ
weekday_told x = cond (is_date x.year x.month x.day) (Some (weekday_of (elapsed x.year x.month x.day + 7))) None

abbrev on : ℕ → ℕ → ℕ → Civil
on y m d = record { year = y; month = m; day = d }

-- day 20,458 is Monday 2026-01-05; 1900 has no 29 February, 2000 has, 2100 not
abbrev pub dates : List Civil
dates = on 2026 1 5 ∷ on 1900 2 29 ∷ on 2000 2 29 ∷ on 2100 2 29 ∷ []

pub starred : (map number_told dates ≡ Some (pos 20458) ∷ None ∷ Some (pos 11016) ∷ None ∷ []) × (map weekday_told dates ≡ Some 0 ∷ None ∷ Some 1 ∷ None ∷ [])
unfolding day_number is_date Gregorian.number elapsed Gregorian.total Gregorian.year_days Gregorian.leap Gregorian.month_days
starred = (refl, refl)
