-- Which lists of records a book may hold: document 01's "Book", said of the values and not of the bytes. Assumes nothing.
use Rattle.std.specs.Prelude.{ℕ, ◌≤◌, ◌<◌, ◌^◌, ◌≡◌, true, false, List, [], ◌∷◌, ℤ, pos, ◌+ℤ◌, length, get_or}
use Rattle.std.specs.Int.Signed.{le_z}
use Rattle.zone.specs.Units.{spacing}
use Rattle.records.specs.Limits.{Limits}
use Rattle.records.specs.Records.{Rule, Event, Record, coverage, transition, rule, event, kind_of, encode_all}
use Rattle.records.specs.Book.{many, most, outside, late_start, falling, reversed, covers_nothing}
use Rattle.records.specs.Layout.{coverage_kind}

-- every element is a byte
abbrev pub Bytes : List ℕ → Type 0
Bytes s = (k : ℕ) → get_or s k 0 < 256

-- numbers without a range of their own fit their two bytes
pub record FitsRule (r : Rule) : Type 0 where
  pub label : r.label < 2 ^ 16
  pub evidence : r.evidence < 2 ^ 16
  pub derived : r.derived < 2 ^ 16
  pub text : r.uncertainty.text < 2 ^ 16

pub record FitsEvent (e : Event) : Type 0 where
  pub code : e.code < 2 ^ 16
  pub evidence : e.evidence < 2 ^ 16
  pub text : e.uncertainty.text < 2 ^ 16

abbrev pub Fits : Record → Type 0
Fits (coverage c) = Unit {0}
Fits (transition t) = Unit {0}
Fits (rule r) = FitsRule r
Fits (event e) = FitsEvent e

-- a record that is good by itself
pub record Sound (l : Limits) (r : Record) : Type 0 where
  pub fits : Fits r
  pub within : outside l r ≡ false
  pub prompt : late_start r ≡ false
  pub rising : falling r ≡ false
  pub forward : reversed r ≡ false
  pub covering : covers_nothing r ≡ false

abbrev pub AllSound : Limits → List Record → Type 0
AllSound l [] = Unit {0}
AllSound l (r ∷ rs) = Sound l r × AllSound l rs

-- the first record, if there is one, is of kind 1
abbrev pub Headed : List Record → Type 0
Headed [] = Unit {0}
Headed (r ∷ rs) = kind_of r ≡ coverage_kind

-- the clock changes' instants, as listed
abbrev pub instants_of : List Record → List ℤ
instants_of [] = []
instants_of (coverage c ∷ rs) = instants_of rs
instants_of (transition t ∷ rs) = t.at ∷ instants_of rs
instants_of (rule r ∷ rs) = instants_of rs
instants_of (event e ∷ rs) = instants_of rs

-- each so far behind the one before it
abbrev pub Spaced : List ℤ → Type 0
Spaced [] = Unit {0}
Spaced (a ∷ []) = Unit {0}
Spaced (a ∷ b ∷ zs) = (le_z (a +ℤ pos spacing) b ≡ true) × Spaced (b ∷ zs)

pub record Valid (l : Limits) (rs : List Record) : Type 0 where
  pub short : length (encode_all rs) ≤ l.bytes
  pub headed : Headed rs
  pub few : (k : ℕ) → many k rs ≤ most l k
  pub sound : AllSound l rs
  pub apart : Spaced (instants_of rs)

-- so many points and times that their number fits its byte
pub record Countable (l : Limits) : Type 0 where
  pub points : l.points < 2 ^ 8
  pub times : l.times < 2 ^ 8
