-- What the conversions answer, in document 01's numbers. Assumes nothing.
use Rattle.std.specs.Prelude.{ℕ, ◌%◌, ◌≡◌, ℤ}
use Rattle.std.specs.Prelude.{Option, None, Some, option_map}
use Rattle.std.proofs.Math.IntN.{sub_ℕ}
use Rattle.wire.specs.Signs.{between}
use Rattle.calendar.specs.Gregorian.{day_number}
use Rattle.calendar.specs.declared.Day.{Day}
use Rattle.calendar.specs.declared.Date.{Date}

-- Days count from 1899-12-25: these are 1900-01-01, 2199-12-31 and 1970-01-01
abbrev pub first_day : ℕ
first_day = 7

abbrev pub last_day : ℕ
last_day = 109579

abbrev pub zero_day : ℕ
zero_day = 25574

-- the day number that a Day means
abbrev pub meaning : ℕ → ℤ
meaning d = sub_ℕ d zero_day

-- Monday 0 to Sunday 6
abbrev pub weekday_of : ℕ → ℕ
weekday_of d = d % 7

-- a day number from -25,567 to 84,005; another is none
abbrev pub within : ℤ → Option ℤ
within n = between (meaning first_day) (meaning last_day) n

-- the day number of the Day that an answer gives
abbrev pub found : Option Day → Option ℤ
found r = option_map (λ (d : Day). meaning d.0) r

-- the date that has the day number n; none exactly where no date has it
abbrev pub DateOf : ℤ → Option Date → Type 0
DateOf n (Some x) = day_number x.year x.month x.day ≡ Some n
DateOf n None = (y m d : ℕ) → day_number y m d ≡ Some n → ⊥
