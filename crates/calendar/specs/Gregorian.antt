-- The Gregorian calendar of ISO 8601, for the dates from 1900-01-01 to 2199-12-31, and document 01's day numbers: days since
-- 1970-01-01. Assumes nothing.
use Rattle.std.specs.Prelude.{ℕ, zero, suc, ◌+◌, ◌-◌, ◌%◌, Bool, true, false, cond, not, ◌&&◌, ◌||◌, List, [], ◌∷◌, eqb, leb, ltb, ℤ, get_or}
use Rattle.std.specs.Prelude.{Option, None, Some}
use Rattle.std.proofs.Math.IntN.{sub_ℕ}

-- the years of the calendar here
abbrev pub first_year : ℕ
first_year = 1900

abbrev pub last_year : ℕ
last_year = 2199

-- the sizes of the k places from a on, added up
unfoldable pub total : (ℕ → ℕ) → ℕ → ℕ → ℕ
total size a zero = 0
total size a (suc k) = total size a k + size (a + k)

-- divisible by 4 and not by 100, or by 400
unfoldable pub leap : ℕ → Bool
leap y = (eqb (y % 4) 0 && not (eqb (y % 100) 0)) || eqb (y % 400) 0

unfoldable pub year_days : ℕ → ℕ
year_days y = cond (leap y) 366 365

-- the days of the months 1 to 12, of a leap year and of a common one; there is no month 0
abbrev pub months : Bool → List ℕ
months true = 0 ∷ 31 ∷ 29 ∷ 31 ∷ 30 ∷ 31 ∷ 30 ∷ 31 ∷ 31 ∷ 30 ∷ 31 ∷ 30 ∷ 31 ∷ []
months false = 0 ∷ 31 ∷ 28 ∷ 31 ∷ 30 ∷ 31 ∷ 30 ∷ 31 ∷ 31 ∷ 30 ∷ 31 ∷ 30 ∷ 31 ∷ []

-- the days of a month of a leap year or a common one; what is no month has none
unfoldable pub month_days : Bool → ℕ → ℕ
month_days b m = get_or (months b) m 0

-- the days from 1900-01-01 to a date: those of the years before it, of the months before it, and of its month before it
unfoldable pub elapsed : ℕ → ℕ → ℕ → ℕ
elapsed y m d = total year_days first_year (y - first_year) + total (month_days (leap y)) 1 (m - 1) + (d - 1)

-- a date from 1900-01-01 to 2199-12-31
unfoldable pub is_date : ℕ → ℕ → ℕ → Bool
is_date y m d = leb first_year y && (leb y last_year && (leb 1 d && leb d (month_days (leap y) m)))

-- days since 1970-01-01
unfoldable pub number : ℕ → ℕ → ℕ → ℤ
number y m d = sub_ℕ (elapsed y m d) (elapsed 1970 1 1)

-- the day number of a year, month and day; none where they are no such date
unfoldable pub day_number : ℕ → ℕ → ℕ → Option ℤ
day_number y m d = cond (is_date y m d) (Some (number y m d)) None

-- a year, month and day, in this order
pub record Civil : Type 0 where
  pub year : ℕ
  pub month : ℕ
  pub day : ℕ

-- the date after a date: the next day of its month, else the next month's first, else the next year's
unfoldable pub next_date : Civil → Civil
next_date x =
    cond (ltb x.day (month_days (leap x.year) x.month)) (record { year = x.year; month = x.month; day = x.day + 1 })
    (cond (ltb x.month 12) (record { year = x.year; month = x.month + 1; day = 1 }) (record { year = x.year + 1; month = 1; day = 1 }))
