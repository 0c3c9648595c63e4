-- The totals of years and of a year's months. Assumes nothing.
use mathlib.Core.Path.{◌≡◌, refl, ap}
use mathlib.Core.Bool.{Bool, true, false, cond}
use Prim.Native.Nat.{ℕ, ◌+◌, ◌*◌, ◌≤◌, ◌<◌}
use mathlib.Core.Logic.{⊎_elim}
use native.Mathlib.Nat.{eq-or-lt_of_le}
use native.Mathlib.Omega.{arith}
use lib.ListN.{get_or-eq_default}
use Rattle.calendar.specs.Gregorian.{first_year, total, leap, year_days, months, month_days}
use Rattle.calendar.proofs.Totals.{at_most_law, at_most_each, at_least_each}

pub all_years : total year_days first_year 300 ≡ 109573
unfolding total year_days leap
all_years = refl

year_size : (b : Bool) → cond b 366 365 ≤ 366
year_size true = omega arith
year_size false = omega arith

pub years_most : (k : ℕ) → total year_days first_year k ≤ 366 * k
unfolding year_days
years_most k = at_most_each year_days first_year 366 (λ y. year_size (leap y)) k

year_least : (b : Bool) → 365 ≤ cond b 366 365
year_least true = omega arith
year_least false = omega arith

pub years_least : (k : ℕ) → 365 * k ≤ total year_days first_year k
unfolding year_days
years_least k = at_least_each year_days first_year 365 (λ y. year_least (leap y)) k

pub month_most : (b : Bool) (m : ℕ) → month_days b m ≤ 31
unfolding month_days
month_most true m = at_most_law 31 (months true) m tt
month_most false m = at_most_law 31 (months false) m tt

pub months_most : (b : Bool) (k : ℕ) → total (month_days b) 1 k ≤ 31 * k
months_most b k = at_most_each (month_days b) 1 31 (month_most b) k

all_months : (b : Bool) → total (month_days b) 1 12 ≡ cond b 366 365
unfolding total month_days
all_months true = refl
all_months false = refl

-- what is no month has no days
pub no_month : (b : Bool) (m : ℕ) → 12 < m → month_days b m ≡ 0
unfolding month_days
no_month true m h = get_or-eq_default (months true) 0 h
no_month false m h = get_or-eq_default (months false) 0 h

pub no_month_zero : (b : Bool) → month_days b 0 ≡ 0
unfolding month_days
no_month_zero true = refl
no_month_zero false = refl

-- the months of a year are its days
pub year_months : (y : ℕ) → total (month_days (leap y)) 1 12 ≡ year_days y
unfolding year_days
year_months y = all_months (leap y)

-- a place whose end lies in the calendar is not the last one
pub not_last : (size : ℕ → ℕ) (a n k b : ℕ) → k < n → total size a (k + 1) ≤ b → b < total size a n → k + 1 < n
not_last size a n k b h l m =
    ⊎_elim (λ e. absurd (omega (arith, ap (total size a) e))) (λ p. p) (eq-or-lt_of_le (omega arith))
