-- Instants and readings as numbers: nanoseconds since 1899-12-25T00:00, of UTC or of a venue's wall. Assumes nothing.
use Rattle.std.specs.Prelude.{ℕ, ◌+◌, ◌-◌, ◌*◌, ◌/◌, ◌%◌, ◌^◌, ◌<◌, ◌≤◌, min, max, ℤ}
use Rattle.std.proofs.Math.IntN.{sub_ℕ}
use Rattle.std.specs.Int.{w64}
use Rattle.calendar.specs.Answers.{first_day, last_day, zero_day}
use Rattle.wire.specs.Signs.{since, meant, half}

abbrev pub second_ns : ℕ
second_ns = 1000000000

abbrev pub day_ns : ℕ
day_ns = 86400 * second_ns

-- document 01's number of an instant: nanoseconds since 1970
abbrev pub instant_number : ℕ → ℤ
instant_number t = sub_ℕ t (zero_day * day_ns)

-- the instant that a number means, and that a number of seconds does; one before 1899-12-25 counts as that
abbrev pub instant_of : ℤ → ℕ
instant_of n = since (zero_day * day_ns) n

abbrev pub seconds_instant : ℤ → ℕ
seconds_instant n = since (zero_day * 86400) n * second_ns

-- a placed number of seconds whose instant is not before 1899-12-25, and fits 64 bits
abbrev pub SecondsFit : ℕ → Type 0
SecondsFit p = (half w64 ≤ p + zero_day * 86400) × (seconds_instant (meant w64 p) < 2 ^ 64)

-- an offset is kept in seconds and never negative: plus 57,600, the most that it can be
abbrev pub most_offset : ℕ
most_offset = 57600

-- transitions stand at least so many seconds apart
abbrev pub spacing : ℕ
spacing = 172800

abbrev pub most_offset_ns : ℕ
most_offset_ns = most_offset * second_ns

abbrev pub offset_ns : ℕ → ℕ
offset_ns o = o * second_ns

-- Instants in use run from 1899-12-26 to 2200-01-08, readings in use from a day later to a day earlier: every date of the calendar, the
-- midnight after it, and all that they convert to. What lies outside counts as the nearest inside, as the Rust saturates at the bounds
-- of its library.
abbrev pub first_instant : ℕ
first_instant = (first_day - 6) * day_ns

abbrev pub last_instant : ℕ
last_instant = (last_day + 8) * day_ns

abbrev pub first_reading : ℕ
first_reading = (first_day - 5) * day_ns

abbrev pub last_reading : ℕ
last_reading = (last_day + 7) * day_ns

abbrev pub nearest_instant : ℕ → ℕ
nearest_instant t = max first_instant (min t last_instant)

abbrev pub nearest_reading : ℕ → ℕ
nearest_reading x = max first_reading (min x last_reading)

-- the date and the time of day of a reading, and the reading at a time of a date
abbrev pub reading_day : ℕ → ℕ
reading_day x = x / day_ns

abbrev pub reading_time : ℕ → ℕ
reading_time x = x % day_ns

abbrev pub reading_at : ℕ → ℕ → ℕ
reading_at d x = min d (last_day + 6) * day_ns + min x day_ns
