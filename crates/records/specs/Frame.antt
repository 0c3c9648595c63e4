-- A record whose length is right; a range of placed numbers. Assumes nothing.
use Rattle.std.specs.Prelude.{ℕ, ◌+◌, ◌≤◌, ◌≡◌, List, length}
use Rattle.records.specs.Layout.{number, size, by, count, length_of, coverage_kind, event_kind, head_size}
use Rattle.std.specs.Int.{Width}
use Rattle.wire.specs.Signs.{meant}
use Rattle.records.specs.Book.{Range, kind_at, next_at}

-- from one placed number to another
abbrev pub placed_range : Width → ℕ → ℕ → Range
placed_range w low high = record { low = meant w low; high = meant w high }

-- how many points or times the record at `at` has: none, unless it is a rule or an event
abbrev pub items_at : List ℕ → ℕ → ℕ
items_at s at = by (kind_at s at) 0 0 (number (count (kind_at s at)) s at) (number (count (kind_at s at)) s at)

-- a record whose length is right
pub record Framed (s : List ℕ) (at : ℕ) : Type 0 where
  pub kind_low : coverage_kind ≤ kind_at s at
  pub kind_high : kind_at s at ≤ event_kind
  pub head : at + head_size ≤ length s
  pub whole : next_at s at ≤ length s
  pub sized : number size s at ≡ length_of (kind_at s at) (number (count (kind_at s at)) s at)
