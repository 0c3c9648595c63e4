-- A zone's offsets and readings, after RFC 9636. Assumes nothing.
use Rattle.std.specs.Prelude.{◌≡◌, ℕ, ◌+◌, ◌-◌, ◌<◌, ◌≤◌, Bool, true, false, cond, ◌⊎◌, List, [], ◌∷◌, ◌==◌, nat_le}
use Rattle.zone.specs.Units.{most_offset_ns, offset_ns, nearest_instant, reading_day}
use Rattle.zone.specs.declared.Resolution.{Resolution}
use Rattle.zone.specs.declared.Resolution.TheVariants.{Clear, Fold, Gap}

-- a transition: from the instant `at` on the offset is `offset`
pub record Change : Type 0 where
  pub at : ℕ
  pub offset : ℕ

pub record Zone : Type 0 where
  pub first : ℕ
  pub changes : List Change

-- the zone that slices of instants and of offsets hold
abbrev pub changes_of : List ℕ → List ℕ → List Change
changes_of [] os = []
changes_of (a ∷ ats) [] = []
changes_of (a ∷ ats) (o ∷ os) = record { at = a; offset = o } ∷ changes_of ats os

abbrev pub zone_of : ℕ → List ℕ → List ℕ → Zone
zone_of first ats offsets = record { first = first; changes = changes_of ats offsets }

-- ---- the offset at an instant: the last transition's at or before it, else the first

unfoldable pub last_offset : ℕ → List Change → ℕ → ℕ
last_offset o [] t = o
last_offset o (c ∷ cs) t = last_offset (cond (nat_le c.at t) c.offset o) cs t

abbrev pub offset_at : Zone → ℕ → ℕ
offset_at z t = last_offset z.first z.changes t

-- ---- readings

-- the wall shows x at the instant t
abbrev pub Reads : Zone → ℕ → ℕ → Type 0
Reads z t x = x + most_offset_ns ≡ t + offset_ns (offset_at z t)

-- what the wall shows
abbrev pub reading_of : Zone → ℕ → ℕ
reading_of z t = nearest_instant t + offset_ns (offset_at z (nearest_instant t)) - most_offset_ns

-- its date
abbrev pub date_at : Zone → ℕ → ℕ
date_at z t = reading_day (reading_of z t)

-- ---- the instant of a reading

-- by an offset
abbrev pub instant_by : ℕ → ℕ → ℕ
instant_by o x = x + most_offset_ns - offset_ns o

-- every instant that can read x lies from `most_offset_ns` before it to `most_offset_ns` after it; these are x by the offsets there
abbrev pub instant_by_before : Zone → ℕ → ℕ
instant_by_before z x = instant_by (offset_at z (x - most_offset_ns)) x

abbrev pub instant_by_after : Zone → ℕ → ℕ
instant_by_after z x = instant_by (offset_at z (x + most_offset_ns)) x

abbrev pub reads : Zone → ℕ → ℕ → Bool
reads z t x = x + most_offset_ns == t + offset_ns (offset_at z t)

-- a and b are x by the offsets before and after: whether they read x, and whether they are one
abbrev pub resolved : Bool → Bool → Bool → ℕ → ℕ → Resolution
resolved true true true a b = Clear (record { 0 = a })
resolved true true false a b = Fold (record { before = record { 0 = a }; after = record { 0 = b } })
resolved true false one a b = Clear (record { 0 = a })
resolved false true one a b = Clear (record { 0 = b })
resolved false false one a b = Gap (record { before = record { 0 = a }; after = record { 0 = b } })

-- with one instant clear, with two a fold, with none a gap
unfoldable pub resolve : Zone → ℕ → Resolution
resolve z x = resolved (reads z (instant_by_before z x) x) (reads z (instant_by_after z x) x) (instant_by_before z x == instant_by_after z x) (instant_by_before z x) (instant_by_after z x)

-- ---- what an answer says of a reading x

-- the wall jumps over x at the instant `at`: by the offset before it x would stand there or later, by the one after it before
pub record Skips (z : Zone) (x at before after : ℕ) : Type 0 where
  pub by_before : before ≡ instant_by (offset_at z (at - 1)) x
  pub by_after : after ≡ instant_by (offset_at z at) x
  pub late : at ≤ before
  pub early : after < at

-- clear: one instant reads x. Fold: two do. Gap: none does, and the two are x by the offsets before and after the transition that skips it
abbrev pub Means : Zone → ℕ → Resolution → Type 0
Means z x (Clear t) = Reads z t.0 x × ((u : ℕ) → Reads z u x → u ≡ t.0)
Means z x (Fold d) =
    (d.before.0 < d.after.0) × Reads z d.before.0 x × Reads z d.after.0 x × ((u : ℕ) → Reads z u x → (u ≡ d.before.0) ⊎ (u ≡ d.after.0))
Means z x (Gap d) = ((u : ℕ) → Reads z u x → ⊥) × ((at : ℕ) × Skips z x at d.before.0 d.after.0)
