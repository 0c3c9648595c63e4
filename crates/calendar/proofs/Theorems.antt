-- A conversion has one answer, each undoes the other, every day number of the domain has a date, and the next day is the next date's.
-- Assumes nothing.
use mathlib.Core.Path.{◌≡◌, refl, sym, ap, ◌∙◌}
use mathlib.Core.Bool.{Bool, true, false, cond, ◌&&◌}
use mathlib.Core.List.{List, [], ◌∷◌}
use Rattle.std.specs.Prelude.{Option, None, Some}
use Prim.Native.Nat.{ℕ, zero, suc, ◌+◌, ◌-◌, ◌%◌, ◌≤◌, ◌<◌}
use native.Mathlib.Nat.{le_of_suc-le-suc, not-suc-le-zero}
use native.Mathlib.Decide.{dec_le}
use native.Mathlib.Omega.{arith}
use borrow.Author.Tests.{ltb-true, ltb-false, lt-ltb, le-ltb, leb-true}
use lib.Dec.{T, ltb, leb, leb→le}
use lib.IntN.{ℤ, pos, negsuc}
use lib.Signed.{le_z}
use Rattle.wire.specs.Signs.{between}
use Rattle.wire.proofs.Signs.{and_true}
use lib.ListN.{length, get_or}
use mir.Facts.{and_yes}
use Rattle.calendar.specs.Gregorian.{first_year, last_year, total, leap, year_days, months, month_days, elapsed, number, day_number, Civil, next_date}
use Rattle.calendar.specs.Answers.{first_day, last_day, zero_day, meaning, within, found, DateOf, weekday_of}
use Rattle.calendar.specs.declared.Day.{Day}
use Rattle.calendar.specs.declared.Date.{Date}
use Rattle.calendar.proofs.Totals
use Rattle.calendar.proofs.Totals.{next, next_from_one, rises}
use Rattle.calendar.proofs.Years.{year_months, all_years}
use Rattle.calendar.proofs.Dates.{Valid, valid_of, day_on, day_means, has_number, numbered_date, one_date, meaning_once}

-- ---- no second answer fits

pub numbered_once : (n r s : Option ℤ) → r ≡ n → s ≡ n → r ≡ s
numbered_once n r s p q = p ∙ sym q

day_by : (a b : ℕ) → a ≡ b → ◌≡◌ {A = Option Day} (Some (record { 0 = a })) (Some (record { 0 = b }))
day_by a b e = cc

pub found_once : (r s : Option Day) → found r ≡ found s → r ≡ s
found_once (Some a) (Some b) e = let same : meaning a.0 ≡ meaning b.0 = cc in day_by a.0 b.0 (meaning_once a.0 b.0 same)
found_once (Some a) None e = cc
found_once None (Some b) e = cc
found_once None None e = refl

date_by : (y y' m m' d d' : ℕ) → y ≡ y' → m ≡ m' → d ≡ d'
    → ◌≡◌ {A = Option Date} (Some (record { year = y; month = m; day = d })) (Some (record { year = y'; month = m'; day = d' }))
date_by y y' m m' d d' p q r = cc

pub dates_once : (n : ℤ) (r s : Option Date) → DateOf n r → DateOf n s → r ≡ s
dates_once n (Some x) (Some z) p q =
    let a = numbered_date x.year x.month x.day n p in
    let b = numbered_date z.year z.month z.day n q in
    let on = meaning_once _ _ (a.1 ∙ sym b.1) in
    let same = one_date x.year x.month x.day z.year z.month z.day a.0 b.0 on in
    date_by x.year z.year x.month z.month x.day z.day same.0 same.1 same.2
dates_once n (Some x) None p q = absurd (q x.year x.month x.day p)
dates_once n None (Some z) p q = absurd (p z.year z.month z.day q)
dates_once n None None p q = refl

-- ---- the table of years, in document 01's numbers: an entry is the day number of 1 January

pub year_starts : (k : ℕ) → meaning (first_day + total year_days first_year k) ≡ number (first_year + k) 1 1
unfolding elapsed
year_starts k =
    let z : first_year + k - first_year ≡ k = omega arith in
    let day : first_day + total year_days first_year k ≡ day_on (first_year + k) 1 1 =
    omega (arith, ap (total year_days first_year) z, Totals.none (month_days (leap (first_year + k))) 1) in
    ap meaning day ∙ day_means (first_year + k) 1 1

-- ---- round trips

-- from a date to its day number and back
pub there_and_back : (y m d : ℕ) (n : ℤ) (r : Option Date) → day_number y m d ≡ Some n → DateOf n r → r ≡ Some (record { year = y; month = m; day = d })
there_and_back y m d n r p q = dates_once n r (Some (record { year = y; month = m; day = d })) q p

-- from a day number to its date and back
pub back_and_there : (n : ℤ) (x : Date) (r : Option ℤ) → DateOf n (Some x) → r ≡ day_number x.year x.month x.day → r ≡ Some n
back_and_there n x r p q = q ∙ p

-- ---- the next day is the next date's

abbrev at_least : ℕ → List ℕ → Bool
at_least b [] = true
at_least b (x ∷ xs) = leb b x && at_least b xs

at_least_law : (b : ℕ) (xs : List ℕ) (k : ℕ) → T (at_least b xs) → k < length xs → b ≤ get_or xs k 0
at_least_law b [] k t h = absurd (not-suc-le-zero h)
at_least_law b (x ∷ xs) zero t h = leb→le b x (and_yes (leb b x) (at_least b xs) t).0
at_least_law b (x ∷ xs) (suc k) t h = at_least_law b xs k (and_yes (leb b x) (at_least b xs) t).1 (le_of_suc-le-suc h)

month_least : (b : Bool) (m : ℕ) → 1 ≤ m → m ≤ 12 → 28 ≤ month_days b m
unfolding month_days
month_least b zero h l = absurd (not-suc-le-zero h)
month_least true (suc k) h l = at_least_law 28 (lib.ListN.drop 1 (months true)) k tt l
month_least false (suc k) h l = at_least_law 28 (lib.ListN.drop 1 (months false)) k tt l

abbrev day_of : Civil → ℕ
day_of x = day_on x.year x.month x.day

-- the last day of a year, and the first of the next
year_end : (y m d : ℕ) → Valid y m d → month_days (leap y) m ≤ d → 12 ≤ m → total year_days first_year (y + 1 - first_year) + first_day ≡ day_on y m d + 1
unfolding elapsed
year_end y m d v l h =
    let size = month_days (leap y) in
    let twelve : m ≡ 12 = omega arith in
    let z : y + 1 - first_year ≡ suc (y - first_year) = omega arith in
    let this : first_year + (y - first_year) ≡ y = omega arith in
    omega (
      arith,
      ap (total year_days first_year) z,
      next year_days first_year (y - first_year),
      ap year_days this,
      year_months y,
      next_from_one size m (omega arith),
      ap (total size 1) twelve,
    )

pub next_day : (x : Civil) → Valid x.year x.month x.day → day_of x < last_day
    → Valid (next_date x).year (next_date x).month (next_date x).day × (day_of (next_date x) ≡ day_of x + 1)
unfolding next_date elapsed
next_day x v last = go (ltb d (month_days (leap y) m)) (ltb m 12) refl refl
  where
    y : ℕ
    y = x.year

    m : ℕ
    m = x.month

    d : ℕ
    d = x.day

    go : (s t : Bool) → ltb d (month_days (leap y) m) ≡ s → ltb m 12 ≡ t
        → Valid (next_date x).year (next_date x).month (next_date x).day × (day_of (next_date x) ≡ day_of x + 1)
    go true t e f =
        let l = ltb-true d (month_days (leap y) m) e in
        simp e (valid_of y m (d + 1) (omega arith) (omega arith) (omega arith) (omega arith), omega arith)
    go false true e f =
        let l = ltb-false d (month_days (leap y) m) e in
        let h = ltb-true m 12 f in
        let z : m + 1 - 1 ≡ m = omega arith in
        simp (e, f) (
          valid_of y (m + 1) 1 (omega arith) (omega arith) (omega arith) (omega (arith, month_least (leap y) (m + 1) (omega arith) (omega arith))),
          omega (arith, next_from_one (month_days (leap y)) m (omega arith), ap (total (month_days (leap y)) 1) z),
        )
    go false false e f =
        let ends = year_end y m d v (ltb-false d (month_days (leap y) m) e) (ltb-false m 12 f) in
        simp (e, f) (
          valid_of (y + 1) 1 1 (omega arith) (in_years y ends) (omega arith) (omega (arith, month_least (leap (y + 1)) 1 (omega arith) (omega arith))),
          omega (arith, Totals.none (month_days (leap (y + 1))) 1),
        )
      where
        in_years : (k : ℕ) → total year_days first_year (k + 1 - first_year) + first_day ≡ day_of x + 1 → k + 1 ≤ last_year
        in_years k g = by (dec_le (k + 1) last_year)
          where
            by : Dec (k + 1 ≤ last_year) → k + 1 ≤ last_year
            by (yes p) = p
            by (no p) = absurd (omega (arith, rises year_days first_year 300 (k + 1 - first_year) (omega arith), all_years))

-- ---- every day number of the domain has a date

first : Valid first_year 1 1 × (day_on first_year 1 1 ≡ first_day)
unfolding elapsed total month_days leap
first = (valid_of first_year 1 1 (omega arith) (omega arith) (omega arith) (omega arith), refl)

has_date : (k : ℕ) → k ≤ last_day - first_day → (x : Civil) × Valid x.year x.month x.day × (day_of x ≡ first_day + k)
has_date zero h = (record { year = first_year; month = 1; day = 1 }, first.0, first.1)
has_date (suc k) h =
    let on = has_date k (omega arith) in
    let more = next_day on.0 on.1 (omega (arith, on.2)) in
    (next_date on.0, more.0, omega (arith, more.1, on.2))

-- the Day of a day number of the domain
on_day : (n : ℤ) → (le_z (meaning first_day) n && le_z n (meaning last_day)) ≡ true → (d : ℕ) × (first_day ≤ d) × (d ≤ last_day) × (meaning d ≡ n)
on_day (pos a) e =
    let h = leb-true a (last_day - zero_day) e in
    let z : a + zero_day - zero_day ≡ a = omega arith in
    (a + zero_day, omega arith, omega arith, simp (le-ltb (a + zero_day) zero_day (omega arith), z))
on_day (negsuc a) e =
    let h = leb-true a (zero_day - suc first_day) (and_true (leb a (zero_day - suc first_day)) true e).0 in
    let d = zero_day - suc a in
    let z : zero_day - suc d ≡ a = omega arith in
    (d, omega arith, omega arith, simp (lt-ltb d zero_day (omega arith), z))

-- a conversion that finds no date was asked for a day number outside the domain
pub none_outside : (n : ℤ) → DateOf n None → within n ≡ None
unfolding between
none_outside n no_date = go (le_z (meaning first_day) n && le_z n (meaning last_day)) refl
  where
    go : (b : Bool) → (le_z (meaning first_day) n && le_z n (meaning last_day)) ≡ b → cond b (Some n) None ≡ None
    go false e = refl
    go true e =
        let on = on_day n e in
        let x = has_date (on.0 - first_day) (omega (arith, on.2)) in
        let same : day_of x.0 ≡ on.0 = omega (arith, x.2, on.1) in
        absurd
        (no_date x.0.year x.0.month x.0.day
        (has_number x.0.year x.0.month x.0.day x.1 ∙ ap Some (ap meaning same ∙ on.3)))

-- ---- weekdays

pub next_weekday : (d : ℕ) → weekday_of (d + 1) ≡ (weekday_of d + 1) % 7
next_weekday d = omega arith
