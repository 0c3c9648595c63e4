-- The rules that are kept for the days ahead. Assumes nothing.
use Rattle.std.specs.Prelude.{ℕ, ◌+◌, ◌-◌, ◌≤◌, ◌<◌, ◌≡◌, cond, ◌||◌, List, ◌∷◌, ltb, leb, length, get_or, take, drop}
use Rattle.wire.specs.Fields.{wrote}
use Rattle.records.specs.Limits.{base}
use Rattle.venue.specs.Reading.{ListedRules}
use Rattle.day.specs.Governing.{governing_place}
use Rattle.day.specs.Narrowing.{near_of}

-- an array's numbers: the first day that rules are kept for, the day behind the last, how many they are; then, behind these, their places
abbrev pub kept_from : ℕ
kept_from = 3

abbrev pub first_day : List ℕ → ℕ
first_day a = get_or a 0 0

abbrev pub day_behind : List ℕ → ℕ
day_behind a = get_or a 1 0

abbrev pub kept_places : List ℕ → List ℕ
kept_places a = take (get_or a 2 0) (drop kept_from a)

-- for so many days
abbrev pub stretch : ℕ
stretch = 64

-- the numbers for a date and the days after it
abbrev pub kept_numbers : List ℕ → List ℕ → ℕ → List ℕ
kept_numbers s rules d = let near = near_of s rules d (d + stretch - 1) in d ∷ (d + stretch) ∷ length near ∷ near

-- the array after a date is asked for: as it was if it is kept for the date, or if there are more rules than a book may have
unfoldable pub kept_after : List ℕ → List ℕ → ℕ → List ℕ → List ℕ
kept_after s rules d a =
    cond (ltb base.rules (length rules)) a (cond (ltb d (first_day a) || leb (day_behind a) d) (wrote a 0 (kept_numbers s rules d)) a)

-- on the days that they are kept for, the kept rules choose as all do
pub record Keeps (s rules a : List ℕ) : Type 0 where
  pub fits : kept_from + get_or a 2 0 ≤ length a
  pub listed : ListedRules s (kept_places a)
  pub same : (d : ℕ) → first_day a ≤ d → d < day_behind a → governing_place s (kept_places a) d ≡ governing_place s rules d

-- and a day is one of them
pub record KeepsFor (s rules : List ℕ) (d : ℕ) (a : List ℕ) : Type 0 where
  pub keeps : Keeps s rules a
  pub from : first_day a ≤ d
  pub before : d < day_behind a
