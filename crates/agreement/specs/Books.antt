-- What agrees over a plain window of a book: demand 3's sentence, over the book's records. Instants are document 01's integers.
-- Assumes nothing.
use Rattle.std.specs.Prelude.{ℕ, ◌≡◌, ◌↔◌, true, List, ℤ}
use Rattle.std.specs.Prelude.{Option, None, Some}
use Rattle.std.specs.Int.Signed.{lt_z, le_z}
use Rattle.zone.specs.Zone.{date_at}
use Rattle.records.specs.Limits.{base}
use Rattle.records.specs.Records.{Coverage}
use Rattle.records.specs.Book.{refusal, records}
use Rattle.venue.specs.Opening.{coverage_of}
use Rattle.spans.specs.Spans.{Mark, phase, unknown}
use Rattle.day.specs.Days.{Values, values_of}
use Rattle.zone.specs.Units.{instant_of}

-- the book is accepted and names a venue, whose coverage is c: so does every accepted book but that of zero bytes
pub record Names (s : List ℕ) (c : Coverage) : Type 0 where
  pub accepted : refusal base s ≡ 0
  pub coverage : coverage_of (records s) ≡ Some c

-- from an integer to before another
abbrev pub Between : ℤ → ℤ → ℤ → Type 0
Between start end at = (le_z start at ≡ true) × (lt_z at end ≡ true)

-- no rule governs the date that the instant reads
abbrev pub Ungoverned : Values → ℤ → Type 0
Ungoverned v at = v.governing (date_at v.zone (instant_of at)) ≡ None

-- A phase segment stands at the instant exactly when the point answer is known, with the same phase and evidence; an unknown segment exactly
-- outside coverage; no segment exactly where coverage holds but no rule governs.
pub record Agreed (s : List ℕ) (c : Coverage) (at : ℤ) (segment point : Option Mark) : Type 0 where
  pub known : (p e : ℕ) → (segment ≡ Some (phase p e)) ↔ (point ≡ Some (phase p e))
  pub outside : (segment ≡ Some unknown) ↔ (Between c.start c.end at → ⊥)
  pub nothing : (segment ≡ None) ↔ (Between c.start c.end at × Ungoverned (values_of (records s) c) at)
