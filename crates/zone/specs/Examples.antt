-- Document 01's starred examples of conversions, computed: one statement over a table, in the document's numbers. Assumes nothing.
use Rattle.std.specs.Prelude.{◌≡◌, ℕ, ◌+◌, ◌-◌, ◌*◌, List, [], ◌∷◌, map, ℤ, pos, refl}
use Rattle.calendar.specs.Answers.{zero_day}
use Rattle.zone.specs.Units.{second_ns, day_ns, most_offset, instant_number, reading_at}
use Rattle.zone.specs.Zone
use Rattle.zone.specs.Zone.{Zone, resolve}
use Rattle.zone.specs.Answers.{taken}

-- a second since 1970, as an instant
abbrev second : ℕ → ℕ
second s = zero_day * day_ns + s * second_ns

-- offset -18,000, to -14,400 at 1,772,953,200, back at 1,793,512,800
abbrev new_york : Zone
new_york = record {
  first = most_offset - 18000;
  changes = record { at = second 1772953200; offset = most_offset - 14400 } ∷ record { at = second 1793512800; offset = most_offset - 18000 } ∷ [];
}

pub record Wall : Type 0 where
  pub day : ℕ
  pub hour : ℕ
  pub minute : ℕ

abbrev pub converted : Wall → ℤ
converted w = instant_number (taken (resolve new_york (reading_at (w.day + zero_day) ((w.hour * 60 + w.minute) * 60 * second_ns))))

-- 02:30 on the day of the first change, 01:30 on that of the second
abbrev pub walls : List Wall
walls = record { day = 20520; hour = 2; minute = 30 } ∷ record { day = 20758; hour = 1; minute = 30 } ∷ []

pub starred : map converted walls ≡ pos (1772955000 * second_ns) ∷ pos (1793511000 * second_ns) ∷ []
unfolding resolve Zone.last_offset
starred = refl
