-- Whether dates and windows are plain, as tests over a zone and the rule that governs a date. Assumes nothing.
use Rattle.std.specs.Prelude.{◌≡◌, Bool, true, false, ◌&&◌, ◌||◌, List, [], ◌∷◌, ℕ, zero, suc, ◌-◌, leb, ltb, ℤ}
use Rattle.std.specs.Prelude.{Option, None, Some}
use Rattle.zone.specs.Units.{nearest_reading, reading_at}
use Rattle.zone.specs.Zone.{Zone, date_at, resolve}
use Rattle.zone.specs.Answers.{taken}
use Rattle.zone.specs.Throughout.{reads_throughout}
use Rattle.records.specs.Records.{Point, Rule, Coverage, Record}
use Rattle.records.specs.Book.{records}
use Rattle.venue.specs.Opening.{coverage_of}
use Rattle.spans.specs.Timeline.{Part}
use Rattle.day.specs.Days.{values_of}
use Rattle.plain.specs.Plain.{longest_run}
use Rattle.plain.specs.Books.{window}

-- the test is true exactly when P holds
pub record Decides (b : Bool) (P : Type 0) : Type 0 where
  pub yes : b ≡ true → P
  pub no : P → b ≡ true

-- ---- a date

-- the instant taken for a time of a date
abbrev pub taken_at : Zone → ℕ → ℕ → ℕ
taken_at z d x = taken (resolve z (nearest_reading (reading_at d x)))

-- the points convert in non-falling order between two instants
unfoldable pub rises : (ℕ → ℕ) → ℕ → ℕ → List Point → Bool
rises conv lo hi [] = leb lo hi
rises conv lo hi (p ∷ ps) = leb lo (conv p.time) && rises conv (conv p.time) hi ps

abbrev pub in_order : (ℕ → ℕ) → ℕ → ℕ → Option Rule → Bool
in_order conv lo hi None = true
in_order conv lo hi (Some r) = rises conv lo hi r.points

-- between the instants a and b
abbrev pub plain_between : Zone → (ℕ → Option Rule) → ℕ → ℕ → ℕ → Bool
plain_between z g d a b = (leb a b && in_order (taken_at z d) a b (g d)) && reads_throughout z d a b

unfoldable pub plain_date : Zone → (ℕ → Option Rule) → ℕ → Bool
plain_date z g d = plain_between z g d (taken_at z d 0) (taken_at z (suc d) 0)

-- ---- a window

-- of at most n dates from d on, each is plain until one's midnight is not before the end
unfoldable pub reaches : Zone → (ℕ → Option Rule) → ℕ → ℕ → ℕ → Bool
reaches z g end zero d = false
reaches z g end (suc n) d = plain_date z g d && (leb end (taken_at z d 0) || reaches z g end n (suc d))

-- the most dates that are looked at: a run of 3,660, and the one behind it
abbrev pub most_dates : ℕ
most_dates = suc longest_run

-- the window, if its start reads d
abbrev pub plain_from : Zone → (ℕ → Option Rule) → Part → ℕ → Bool
plain_from z g w d =
    ((ltb 0 d && leb (taken_at z d 0) w.start) && plain_date z g (d - 1)) && reaches z g w.end most_dates d

unfoldable pub plain_window : Zone → (ℕ → Option Rule) → Part → Bool
plain_window z g w = plain_from z g w (date_at z w.start)

-- ---- a window of a book

abbrev pub plain_for : List Record → Part → Option Coverage → Bool
plain_for rs w None = false
plain_for rs w (Some c) = plain_window (values_of rs c).zone (values_of rs c).governing w

-- the window is plain for the venue that the book names
abbrev pub plain : List ℕ → ℤ → ℤ → Bool
plain s start end = plain_for (records s) (window start end) (coverage_of (records s))
