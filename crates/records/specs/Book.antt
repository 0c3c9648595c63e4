-- Which byte strings are books, and the number that every other gets: document 01, "Book" and "Numbers given back". Assumes nothing.
use Rattle.std.specs.Prelude.{ℕ, zero, suc, ◌+◌, ◌*◌, ◌^◌, Bool, true, false, not, cond, ◌&&◌, ◌||◌, List, [], ◌∷◌, ltb, leb, eqb, ℤ, pos, ◌+ℤ◌, length}
use Rattle.std.specs.Prelude.{Option, None, Some}
use Rattle.std.proofs.Math.IntN.{sub_ℕ}
use Rattle.std.specs.Int.Signed.{lt_z, le_z}
use Rattle.calendar.specs.Answers.{first_day, last_day, meaning}
use Rattle.zone.specs.Units.{second_ns, day_ns, most_offset, spacing}
use Rattle.records.specs.Layout
use Rattle.records.specs.Layout.{number, size, kind, by, coverage_kind, event_kind, head_size, length_of}
use Rattle.records.specs.Limits.{Limits}
use Rattle.records.specs.Records.{Published, Point, Rule, Record, coverage, transition, rule, event, kind_of, record_at}

-- ---- ranges, both ends included

pub record Range : Type 0 where
  pub low : ℤ
  pub high : ℤ

abbrev pub inside : Range → ℤ → Bool
inside r n = le_z r.low n && le_z n r.high

-- queries and coverage, in nanoseconds before and after 1970: 1901-01-01Z to 2199-01-01Z
abbrev pub instants_before : ℕ
instants_before = 2177452800 * second_ns

abbrev pub instants_after : ℕ
instants_after = 7226582400 * second_ns

abbrev pub instants : Range
instants = record { low = sub_ℕ 0 instants_before; high = pos instants_after }

-- transitions, in seconds before and after 1970: 1900-01-01Z to 2200-01-01Z
abbrev pub seconds_before : ℕ
seconds_before = 2208988800

abbrev pub seconds_after : ℕ
seconds_after = 7258118400

abbrev pub seconds : Range
seconds = record { low = sub_ℕ 0 seconds_before; high = pos seconds_after }

-- an offset, in seconds: -57,600 to 57,600
abbrev pub offsets : Range
offsets = record { low = sub_ℕ 0 most_offset; high = pos most_offset }

-- day numbers: 1900-01-01 to 2199-12-31, -25,567 to 84,005
abbrev pub days : Range
days = record { low = meaning first_day; high = meaning last_day }

-- the width of an uncertainty, in nanoseconds
abbrev pub most_width : ℕ
most_width = 10 ^ 15

abbrev pub widths : Range
widths = record { low = pos 0; high = pos most_width }

-- ---- the last of what is listed: tags of uncertainties that a book may state, codes of rules, their masks (a bit for each weekday), phases

abbrev pub last_published : ℕ
last_published = 3

abbrev pub last_code : ℕ
last_code = 3

abbrev pub last_mask : ℕ
last_mask = 127

abbrev pub last_phase : ℕ
last_phase = 7

abbrev pub any : {A : Type 0} → (A → Bool) → List A → Bool
any test [] = false
any test (x ∷ xs) = test x || any test xs

-- ---- 2: bad length, unknown kind, first record not kind 1

abbrev pub kind_at : List ℕ → ℕ → ℕ
kind_at s at = number kind s at

abbrev pub next_at : List ℕ → ℕ → ℕ
next_at s at = at + size.width + number size s at

unfoldable pub bad_frame : List ℕ → ℕ → Bool
bad_frame s at =
    (ltb (length s) (at + head_size) || ltb (length s) (next_at s at))
    || ((ltb (kind_at s at) coverage_kind || ltb event_kind (kind_at s at)) || not (eqb (number size s at) (length_of (kind_at s at) (number (Layout.count (kind_at s at)) s at))))

abbrev pub headless : List Record → Record → Bool
headless [] r = not (eqb (kind_of r) coverage_kind)
headless (b ∷ before) r = false

-- ---- 3: too many of a kind, a second kind 1 included

abbrev pub many : ℕ → List Record → ℕ
many k [] = 0
many k (r ∷ rs) = cond (eqb (kind_of r) k) (suc (many k rs)) (many k rs)

abbrev pub most : Limits → ℕ → ℕ
most l k = by k 1 l.transitions l.rules l.events

abbrev pub too_many : Limits → List Record → Record → Bool
too_many l before r = leb (most l (kind_of r)) (many (kind_of r) before)

-- ---- 4: field outside its range, but for a rule's n 0

-- tag 0 exact, 1 granularity, 2 bound, 3 process start; nanoseconds 0 for tags 0 and 3; text 0 for 0 and 1
abbrev pub bad_uncertainty : Published → Bool
bad_uncertainty u =
    (ltb last_published u.tag || not (inside widths u.nanoseconds))
    || (((eqb u.tag 0 || eqb u.tag 3) && not (le_z u.nanoseconds (pos 0))) || (ltb u.tag 2 && not (eqb u.text 0)))

abbrev pub bad_days : ℤ → ℤ → Bool
bad_days first last = not (inside days first) || not (inside days last)

-- a weekly rule has label 0; another has mask 0
abbrev pub bad_rule : Rule → Bool
bad_rule r =
    ((bad_days r.first r.last || ltb last_code r.code) || ltb last_mask r.mask)
    || (((eqb r.code 0 && not (eqb r.label 0)) || (not (eqb r.code 0) && not (eqb r.mask 0))) || bad_uncertainty r.uncertainty)

abbrev pub bad_time : ℕ → Bool
bad_time t = leb day_ns t

abbrev pub bad_point : Point → Bool
bad_point p = bad_time p.time || ltb last_phase p.phase

-- the fields of a record, and its points or times
unfoldable pub bad_fields : Limits → Record → Bool
bad_fields l (coverage c) = (not (inside instants c.start) || not (inside instants c.end)) || not (inside offsets c.offset)
bad_fields l (transition t) = not (inside seconds t.at) || not (inside offsets t.offset)
bad_fields l (rule r) = bad_rule r || ltb l.points (length r.points)
bad_fields l (event e) = (bad_days e.first e.last || bad_uncertainty e.uncertainty) || ltb l.times (length e.times)

abbrev pub bad_items : Record → Bool
bad_items (coverage c) = false
bad_items (transition t) = false
bad_items (rule r) = any bad_point r.points
bad_items (event e) = any bad_time e.times

abbrev pub outside : Limits → Record → Bool
outside l r = bad_fields l r || bad_items r

-- ---- 5: rule's first point not 00:00, or its n 0

abbrev pub late : List Point → Bool
late [] = true
late (p ∷ ps) = not (eqb p.time 0)

abbrev pub late_start : Record → Bool
late_start (coverage c) = false
late_start (transition t) = false
late_start (rule r) = late r.points
late_start (event e) = false

-- ---- 6: points not rising

abbrev pub falls_from : ℕ → List Point → Bool
falls_from t [] = false
falls_from t (p ∷ ps) = leb p.time t || falls_from p.time ps

abbrev pub falls : List Point → Bool
falls [] = false
falls (p ∷ ps) = falls_from p.time ps

abbrev pub falling : Record → Bool
falling (coverage c) = false
falling (transition t) = false
falling (rule r) = falls r.points
falling (event e) = false

-- ---- 7: last day before first

abbrev pub reversed : Record → Bool
reversed (coverage c) = false
reversed (transition t) = false
reversed (rule r) = lt_z r.last r.first
reversed (event e) = lt_z e.last e.first

-- ---- 8: coverage end not after start

abbrev pub covers_nothing : Record → Bool
covers_nothing (coverage c) = le_z c.end c.start
covers_nothing (transition t) = false
covers_nothing (rule r) = false
covers_nothing (event e) = false

-- ---- 9: transition too close or back

-- the last transition's instant, of records with the latest first
abbrev pub last_instant : List Record → Option ℤ
last_instant [] = None
last_instant (coverage c ∷ before) = last_instant before
last_instant (transition t ∷ before) = Some t.at
last_instant (rule r ∷ before) = last_instant before
last_instant (event e ∷ before) = last_instant before

abbrev pub closer : Option ℤ → ℤ → Bool
closer None at = false
closer (Some last) at = lt_z at (last +ℤ pos spacing)

abbrev pub too_close : List Record → Record → Bool
too_close before (coverage c) = false
too_close before (transition t) = closer (last_instant before) t.at
too_close before (rule r) = false
too_close before (event e) = false

-- ---- the number: a record is judged after those before it, the first that fails decides, inside it the smallest number

-- the number n where the test holds, else what the tests after it give
abbrev pub refuse : Bool → ℕ → ℕ → ℕ
refuse test n others = cond test n others

-- the number n, and where that is 0 what comes after it
abbrev pub or_then : ℕ → ℕ → ℕ
or_then n others = cond (eqb n 0) others n

-- of a record, after those before it, the latest first
unfoldable pub number_of : Limits → List Record → Record → ℕ
number_of l before r =
    refuse (headless before r) 2
    (refuse (too_many l before r) 3
    (refuse (outside l r) 4
    (refuse (late_start r) 5 (refuse (falling r) 6 (refuse (reversed r) 7 (refuse (covers_nothing r) 8 (refuse (too_close before r) 9 0)))))))

unfoldable pub number_at : Limits → List ℕ → ℕ → List Record → ℕ
number_at l s at before = refuse (bad_frame s at) 2 (number_of l before (record_at s at))

-- of the records from `at` on. A record has four bytes at least, so as many turns as bytes suffice
unfoldable pub number_from : Limits → List ℕ → ℕ → ℕ → List Record → ℕ
number_from l s zero at before = 0
number_from l s (suc turns) at before =
    let rest = number_from l s turns (next_at s at) (record_at s at ∷ before) in
    cond (leb (length s) at) 0 (cond (eqb (number_at l s at before) 0) rest (number_at l s at before))

-- 1: book over its bytes. 0 for an acceptable book
unfoldable pub refusal : Limits → List ℕ → ℕ
refusal l s = refuse (ltb l.bytes (length s)) 1 (number_from l s (length s) 0 [])

-- ---- the records of a book, and where they stand

unfoldable pub records_from : List ℕ → ℕ → ℕ → List Record
records_from s zero at = []
records_from s (suc turns) at =
    let rest = records_from s turns (next_at s at) in
    cond (leb (length s) at) [] (record_at s at ∷ rest)

unfoldable pub records : List ℕ → List Record
records s = records_from s (length s) 0

-- ---- phases: 0 Closed, 1 PreOpen, 2 OpeningAuction, 3 ContinuousTrading, 4 MidDayBreak, 5 ClosingAuction, 6 PostClose, 7 NonTradingInterruption

abbrev pub trading : ℕ → Bool
trading phase = (eqb phase 2 || eqb phase 3) || eqb phase 5
