-- The limits of a book, as one value. Assumes nothing.
use Rattle.std.specs.Prelude.{ℕ}

-- at most so many bytes of a book, records of a kind, points of a rule, times of an event
pub record Limits : Type 0 where
  pub bytes : ℕ
  pub transitions : ℕ
  pub rules : ℕ
  pub events : ℕ
  pub points : ℕ
  pub times : ℕ

abbrev pub base : Limits
base = record { bytes = 65536; transitions = 640; rules = 256; events = 32; points = 16; times = 8 }
