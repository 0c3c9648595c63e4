-- Where no transition is near: the wall shows an instant by one offset, and a date's times stand as far behind its midnight as they are long.
-- Assumes nothing.
use Rattle.std.specs.Prelude.{ℕ, ◌+◌, ◌-◌, ◌*◌, ◌/◌, ◌≤◌, min, max, Bool, true, cond, not, ◌&&◌, List, [], ◌∷◌, nat_le, nat_lt}
use Rattle.std.specs.Prelude.{Option, None, Some}
use Rattle.calendar.specs.Answers.{first_day, last_day}
use Rattle.zone.specs.Units.{day_ns, most_offset, most_offset_ns, offset_ns, reading_day}
use Rattle.zone.specs.Zone.{Change, Zone, offset_at, instant_by}

-- 56 hours: a day, and twice as much as an offset can be
abbrev pub margin_ns : ℕ
margin_ns = day_ns + 2 * most_offset_ns

-- where transitions can stand: so far from the first and the last instant in use that nothing saturates
abbrev pub first_steady : ℕ
first_steady = first_day * day_ns

abbrev pub last_steady : ℕ
last_steady = (last_day + 1) * day_ns

-- no transition stands after a and up to b
unfoldable pub none_within : ℕ → ℕ → List Change → Bool
none_within a b [] = true
none_within a b (c ∷ cs) = not (nat_lt a c.at && nat_le c.at b) && none_within a b cs

-- the offset, if no transition stands from 56 hours before `from` to 56 hours after `to`
unfoldable pub steady_of : Zone → ℕ → ℕ → Option ℕ
steady_of z from to =
    cond (nat_le first_steady from && nat_le to last_steady)
    (cond (none_within (from - margin_ns) (to + margin_ns) z.changes) (Some (offset_at z (from - margin_ns))) None)
    None

-- the date that the wall shows by an offset
abbrev pub day_by : ℕ → ℕ → ℕ
day_by o t = reading_day (t + offset_ns o - most_offset_ns)

-- the instant at which a date begins by an offset
abbrev pub midnight_by : ℕ → ℕ → ℕ
midnight_by o d = instant_by o (d * day_ns)

-- an offset and an instant, and an offset and a date, for which these are meant
abbrev pub OnWall : ℕ → ℕ → Type 0
OnWall o t = (o ≤ 2 * most_offset) × (first_steady ≤ t) × (t ≤ last_steady)

abbrev pub DayOnWall : ℕ → ℕ → Type 0
DayOnWall o d = (o ≤ 2 * most_offset) × (3 ≤ d) × (d ≤ last_day + 5)

-- ---- dates: near one are the UTC day of its number, the one before and the next, as an offset moves a date by less than a day

-- the first of the transitions' instants after t, if there is one
unfoldable pub next_after : ℕ → List ℕ → Option ℕ
next_after t [] = None
next_after t (a ∷ ats) = cond (nat_lt t a) (Some a) (next_after t ats)

-- the first date from d on whose next day does not end before a transition; where that is past the calendar, the date behind it
abbrev pub near_from : ℕ → Option ℕ → ℕ
near_from d None = last_day + 1
near_from d (Some at) = max d (min ((at - 1) / day_ns - 1) (last_day + 1))

-- the first date from d on near which the clock changes: a transition stands after the day before the date begins and not after the next day
-- ends. Where there is none, the date behind the calendar; outside the calendar, d itself
unfoldable pub steady_until : List ℕ → ℕ → ℕ
steady_until ats d = cond (nat_le first_day d && nat_le d last_day) (near_from d (next_after ((d - 1) * day_ns) ats)) d
