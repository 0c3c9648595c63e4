-- Dates and the Days and day numbers of them. Assumes nothing.
use mathlib.Core.Path.{◌≡◌, refl, sym, ap, subst, ◌∙◌}
use mathlib.Core.Bool.{Bool, true, false}
use Rattle.std.specs.Prelude.{None, Some}
use Prim.Native.Nat.{ℕ, zero, suc, ◌+◌, ◌-◌, ◌≤◌, ◌<◌}
use native.Mathlib.Decide.{dec_le}
use native.Mathlib.Omega.{arith}
use borrow.Author.Tests.{leb-true, le-leb}
use lib.Dec.{leb, lit≤}
use lib.IntN.{ℤ, sub_ℕ}
use mir.Syntax.{w32}
use Rattle.wire.specs.Signs.{meant}
use Rattle.wire.proofs.Signs.{and_true, shifted, origin, counted, counted_once, between_yes, between_low, between_high, between_found}
use Rattle.calendar.specs.Gregorian.{first_year, last_year, total, leap, year_days, month_days, elapsed, is_date, number, day_number}
use Rattle.calendar.specs.Answers.{first_day, last_day, zero_day, meaning, within}
use Rattle.calendar.proofs.Totals.{apart, unique}
use Rattle.calendar.proofs.Years.{all_years, year_months, no_month, no_month_zero}

-- ---- what a date is

pub record Valid (y m d : ℕ) : Type 0 where
  pub year_from : first_year ≤ y
  pub year_to : y ≤ last_year
  pub month_from : 1 ≤ m
  pub month_to : m ≤ 12
  pub day_from : 1 ≤ d
  pub day_to : d ≤ month_days (leap y) m

-- a month that has a day is one of the twelve
months_from : (b : Bool) (m d : ℕ) → 1 ≤ d → d ≤ month_days b m → 1 ≤ m
months_from b zero d h l = absurd (omega (arith, no_month_zero b))
months_from b (suc m) d h l = omega arith

months_to : (b : Bool) (m d : ℕ) → 1 ≤ d → d ≤ month_days b m → m ≤ 12
months_to b m d h l = go (dec_le m 12)
  where
    go : Dec (m ≤ 12) → m ≤ 12
    go (yes p) = p
    go (no p) = absurd (omega (arith, no_month b m (omega arith)))

pub valid_of : (y m d : ℕ) → first_year ≤ y → y ≤ last_year → 1 ≤ d → d ≤ month_days (leap y) m → Valid y m d
valid_of y m d a b e f =
    record {
      year_from = a;
      year_to = b;
      month_from = months_from (leap y) m d e f;
      month_to = months_to (leap y) m d e f;
      day_from = e;
      day_to = f;
    }

pub valid : (y m d : ℕ) → is_date y m d ≡ true → Valid y m d
unfolding is_date
valid y m d e =
    let a = and_true (leb first_year y) _ e in
    let b = and_true (leb y last_year) _ a.1 in
    let f = and_true (leb 1 d) _ b.1 in
    valid_of y m d (leb-true first_year y a.0) (leb-true y last_year b.0) (leb-true 1 d f.0) (leb-true d (month_days (leap y) m) f.1)

pub is_date_law : (y m d : ℕ) → Valid y m d → is_date y m d ≡ true
unfolding is_date
is_date_law y m d v =
    simp (le-leb first_year y v.year_from, le-leb y last_year v.year_to, le-leb 1 d v.day_from, le-leb d (month_days (leap y) m) v.day_to)

pub no_date : (y m d : ℕ) → (Valid y m d → ⊥) → is_date y m d ≡ false
no_date y m d f = go (is_date y m d) refl
  where
    go : (b : Bool) → is_date y m d ≡ b → is_date y m d ≡ false
    go true e = absurd (f (valid y m d e))
    go false e = e

-- ---- Days

-- the Day of a date: 1900-01-01 is Day 7
abbrev pub day_on : ℕ → ℕ → ℕ → ℕ
day_on y m d = elapsed y m d + first_day

epoch : elapsed 1970 1 1 ≡ 25567
unfolding elapsed total year_days leap month_days
epoch = refl

pub day_means : (y m d : ℕ) → meaning (day_on y m d) ≡ number y m d
unfolding number
day_means y m d = ap (λ (e : ℕ). sub_ℕ (day_on y m d) (e + first_day)) (sym epoch) ∙ shifted first_day (elapsed y m d) (elapsed 1970 1 1)

pub has_number : (y m d : ℕ) → Valid y m d → day_number y m d ≡ Some (meaning (day_on y m d))
unfolding day_number
has_number y m d v = rw (is_date_law y m d v) (ap Some (sym (day_means y m d)))

pub has_none : (y m d : ℕ) → (Valid y m d → ⊥) → day_number y m d ≡ None
unfolding day_number
has_none y m d f = rw (no_date y m d f)

-- the date with a number is one
pub numbered_date : (y m d : ℕ) (n : ℤ) → day_number y m d ≡ Some n → Valid y m d × (meaning (day_on y m d) ≡ n)
unfolding day_number
numbered_date y m d n e = go (is_date y m d) refl
  where
    go : (b : Bool) → is_date y m d ≡ b → Valid y m d × (meaning (day_on y m d) ≡ n)
    go true i = let v = valid y m d i in let h = has_number y m d v in (v, cc)
    go false i = absurd (let h : None ≡ Some n = rw i at e in let z : ◌≡◌ {A = ℕ} 0 1 = cc in omega arith)

-- two Days that mean the same are one
pub meaning_once : (a b : ℕ) → meaning a ≡ meaning b → a ≡ b
meaning_once a b e = counted_once w32 zero_day (lit≤ tt) a b e

-- ---- a date lies within its year, and within the calendar

within_year : (y m d : ℕ) → Valid y m d → total (month_days (leap y)) 1 (m - 1) + (d - 1) < year_days y
within_year y m d v =
    let size = month_days (leap y) in
    let z : 1 + (m - 1) ≡ m = omega arith in
    omega (arith, year_months y, apart size 1 (m - 1) 12 (omega arith), ap size z)

pub in_calendar : (y m d : ℕ) → Valid y m d → day_on y m d ≤ last_day
unfolding elapsed
in_calendar y m d v =
    let z : first_year + (y - first_year) ≡ y = omega arith in
    omega (arith, within_year y m d v, apart year_days first_year (y - first_year) 300 (omega arith), ap year_days z, all_years)

in_year : (y m d m' d' : ℕ) → Valid y m d → Valid y m' d' → day_on y m d ≡ day_on y m' d' → (m ≡ m') × (d ≡ d')
unfolding elapsed
in_year y m d m' d' v v' e =
    let size = month_days (leap y) in
    let a : 1 + (m - 1) ≡ m = omega arith in
    let b : 1 + (m' - 1) ≡ m' = omega arith in
    let month = unique size 1 (m - 1) (m' - 1) (d - 1) (d' - 1) (omega (arith, ap size a)) (omega (arith, ap size b)) (omega arith) in
    (omega arith, omega (arith, ap (total size 1) month))

-- two dates on one Day are one date
pub one_date : (y m d y' m' d' : ℕ) → Valid y m d → Valid y' m' d' → day_on y m d ≡ day_on y' m' d' → (y ≡ y') × (m ≡ m') × (d ≡ d')
unfolding elapsed
one_date y m d y' m' d' v v' e =
    let a : first_year + (y - first_year) ≡ y = omega arith in
    let b : first_year + (y' - first_year) ≡ y' = omega arith in
    let in-first : total (month_days (leap y)) 1 (m - 1) + (d - 1) < year_days (first_year + (y - first_year)) = rw a (within_year y m d v) in
    let in-second : total (month_days (leap y')) 1 (m' - 1) + (d' - 1) < year_days (first_year + (y' - first_year)) = rw b (within_year y' m' d' v') in
    let year = unique year_days first_year (y - first_year) (y' - first_year) _ _ in-first in-second (omega arith) in
    let same : y' ≡ y = omega arith in
    let rest = in_year y m d m' d' v (subst (λ (t : ℕ). Valid t m' d') same v')
    (e ∙ ap (λ (t : ℕ). day_on t m' d') same) in
    (sym same, rest.0, rest.1)

-- the date of the year first_year + k in the month m that j days precede
pub made : (k m j : ℕ) → k < 300 → 1 ≤ m → j < month_days (leap (first_year + k)) m
    → Valid (first_year + k) m (j + 1) × (day_on (first_year + k) m (j + 1) ≡ first_day + total year_days first_year k + total (month_days (leap (first_year + k))) 1 (m - 1) + j)
unfolding elapsed
made k m j hk hm hj =
    let z : first_year + k - first_year ≡ k = omega arith in
    (valid_of (first_year + k) m (j + 1) (omega arith) (omega arith) (omega arith) (omega arith), omega (arith, ap (total year_days first_year) z))

-- ---- Days as placed day numbers

-- Day 0, placed
abbrev pub day_zero : ℕ
day_zero = origin w32 zero_day (lit≤ tt)

pub day_placed : (d : ℕ) → meaning d ≡ meant w32 (d + day_zero)
day_placed d = counted w32 zero_day (lit≤ tt) d

pub within_yes : (p : ℕ) → first_day + day_zero ≤ p → p ≤ last_day + day_zero → within (meant w32 p) ≡ Some (meant w32 p)
within_yes p a b = between_yes w32 zero_day (lit≤ tt) first_day last_day p a b

pub within_low : (p : ℕ) → p < first_day + day_zero → within (meant w32 p) ≡ None
within_low p h = between_low w32 zero_day (lit≤ tt) first_day last_day p h

pub within_high : (p : ℕ) → last_day + day_zero < p → within (meant w32 p) ≡ None
within_high p h = between_high w32 zero_day (lit≤ tt) first_day last_day p h

-- a Day that was found for a day number means it, and is one of the calendar
pub within_day : (d : ℕ) (n : ℤ) → Some (meaning d) ≡ within n → (meaning d ≡ n) × (first_day ≤ d) × (d ≤ last_day)
within_day d n e = between_found w32 zero_day (lit≤ tt) first_day last_day d n e

-- a date's day number is one of the domain
pub date_within : (y m d : ℕ) (n : ℤ) → day_number y m d ≡ Some n → within n ≡ Some n
date_within y m d n e =
    let known = numbered_date y m d n e in
    let p = day_on y m d + day_zero in
    let is : meant w32 p ≡ n = sym (day_placed (day_on y m d)) ∙ known.1 in
    subst (λ (k : ℤ). within k ≡ Some k) is (within_yes p (omega arith) (omega (arith, in_calendar y m d known.0)))
