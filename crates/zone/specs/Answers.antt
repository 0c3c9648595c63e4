-- What a zone's slices must be, and its answers in document 01's numbers. Assumes nothing.
use Rattle.std.specs.Prelude.{◌≡◌, ℕ, ◌+◌, ◌*◌, ◌≤◌, max, Bool, true, false, cond, ◌&&◌, List, [], ◌∷◌, ◌++◌, length, ℤ, pos, nat_le}
use Rattle.std.specs.Prelude.{Option, None, Some}
use Rattle.std.specs.Int.{w64}
use Rattle.std.specs.Coded.{le_prop}
use Rattle.std.proofs.Props.{props}
use Rattle.std.proofs.Common.{of_z}
use Rattle.wire.specs.Fields.{bytes}
use Rattle.calendar.specs.Answers.{first_day, last_day}
use Rattle.zone.specs.Units.{second_ns, day_ns, most_offset, instant_number, nearest_reading, reading_at, spacing}
use Rattle.zone.specs.Zone.{Zone, resolve}
use Rattle.zone.specs.declared.Boundary.{Boundary}
use Rattle.zone.specs.declared.Resolution.{Resolution}
use Rattle.zone.specs.declared.Resolution.TheVariants.{Clear, Fold, Gap}
use Rattle.zone.specs.declared.Uncertainty.{Uncertainty}
use Rattle.zone.specs.declared.Uncertainty.TheVariants.{Exact, PublishedGranularity, PublishedBound, ProcessStart, AmbiguousLocalTime, NonexistentLocalTime}

-- ---- transitions

-- each number from lo to hi
abbrev pub Each : ℕ → ℕ → List ℕ → Type 0
Each lo hi [] = Unit {0}
Each lo hi (x ∷ xs) = (lo ≤ x) × (x ≤ hi) × Each lo hi xs

abbrev pub spacing_ns : ℕ
spacing_ns = spacing * second_ns

-- each at least the spacing after the one before
abbrev pub After : ℕ → List ℕ → Type 0
After a [] = Unit {0}
After a (b ∷ bs) = a + spacing_ns ≤ b

abbrev pub Spaced : List ℕ → Type 0
Spaced [] = Unit {0}
Spaced (a ∷ ats) = After a ats × Spaced ats

-- the transitions' instants and offsets, and the first offset, as an accepted book gives them
pub record Valid (first : ℕ) (ats offsets : List ℕ) : Type 0 where
  pub alike : length ats ≡ length offsets
  pub first_in : first ≤ 2 * most_offset
  pub offsets_in : Each 0 (2 * most_offset) offsets
  pub ats_in : Each (first_day * day_ns) ((last_day + 1) * day_ns) ats
  pub spaced : Spaced ats

-- each of these is so in one way at most
pub each_prop : (lo hi : ℕ) (xs : List ℕ) → IsProp (Each lo hi xs)
each_prop lo hi [] = Prim.hlevel
each_prop lo hi (x ∷ xs) = let h = each_prop lo hi xs in Prim.hlevel (le_prop, h)

after_prop : (a : ℕ) (bs : List ℕ) → IsProp (After a bs)
after_prop a [] = Prim.hlevel
after_prop a (b ∷ bs) = Prim.hlevel le_prop

spaced_prop : (ats : List ℕ) → IsProp (Spaced ats)
spaced_prop [] = Prim.hlevel
spaced_prop (a ∷ ats) = let h = after_prop a ats in let t = spaced_prop ats in Prim.hlevel (h, t)

pub valid_prop : (first : ℕ) (ats offsets : List ℕ) → IsProp (Valid first ats offsets)
valid_prop first ats offsets = Prim.hlevel (each_prop, spaced_prop, le_prop, props)

-- the same as a test: the next instant may be `least`, or later
abbrev pub valid_from : ℕ → List ℕ → List ℕ → Bool
valid_from least [] [] = true
valid_from least [] (o ∷ offsets) = false
valid_from least (a ∷ ats) [] = false
valid_from least (a ∷ ats) (o ∷ offsets) =
    ((nat_le least a && nat_le a ((last_day + 1) * day_ns)) && nat_le o (2 * most_offset)) && valid_from (a + spacing_ns) ats offsets

abbrev pub valid : ℕ → List ℕ → List ℕ → Bool
valid first ats offsets = nat_le first (2 * most_offset) && valid_from (first_day * day_ns) ats offsets

-- ---- the instant taken for a reading: in a fold the earlier, which is by the offset before; in a gap the later

abbrev pub taken : Resolution → ℕ
taken (Clear t) = t.0
taken (Fold d) = d.before.0
taken (Gap d) = max d.before.0 d.after.0

-- its uncertainty: the doubt, else what is published
abbrev pub uncertain : Resolution → Uncertainty → Uncertainty
uncertain (Clear t) u = u
uncertain (Fold d) u = AmbiguousLocalTime d
uncertain (Gap d) u = NonexistentLocalTime d

abbrev pub boundary : Resolution → Uncertainty → Boundary
boundary r u = record { at = record { 0 = taken r }; uncertainty = uncertain r u }

-- the boundary at a time of a date
abbrev pub boundary_at : Zone → ℕ → ℕ → Uncertainty → Boundary
boundary_at z d x u = boundary (resolve z (nearest_reading (reading_at d x))) u

-- ---- uncertainty

-- how wide, in nanoseconds; none where unbounded
abbrev pub width : Uncertainty → Option ℕ
width Exact = Some 0
width (PublishedGranularity n) = Some n
width (PublishedBound n text) = Some n
width (ProcessStart text) = None
width (AmbiguousLocalTime d) = None
width (NonexistentLocalTime d) = None

abbrev pub wider : Option ℕ → Option ℕ → Uncertainty → Uncertainty → Uncertainty
wider None b left right = left
wider (Some a) None left right = right
wider (Some a) (Some b) left right = cond (nat_le b a) left right

-- the wider of two, the left on ties and when it is unbounded
abbrev pub widest_of : Uncertainty → Uncertainty → Uncertainty
widest_of left right = wider (width left) (width right) left right

-- document 01's tag, two numbers and text of each case
pub record Values : Type 0 where
  pub tag : ℕ
  pub one : ℤ
  pub two : ℤ
  pub text : ℕ

abbrev pub values : Uncertainty → Values
values Exact = record { tag = 0; one = pos 0; two = pos 0; text = 0 }
values (PublishedGranularity n) = record { tag = 1; one = pos n; two = pos 0; text = 0 }
values (PublishedBound n text) = record { tag = 2; one = pos n; two = pos 0; text = text }
values (ProcessStart text) = record { tag = 3; one = pos 0; two = pos 0; text = text }
values (AmbiguousLocalTime d) = record { tag = 4; one = instant_number d.before.0; two = instant_number d.after.0; text = 0 }
values (NonexistentLocalTime d) = record { tag = 5; one = instant_number d.before.0; two = instant_number d.after.0; text = 0 }

-- the 19 bytes of an uncertainty
unfoldable pub uncertainty_bytes : Uncertainty → List ℕ
uncertainty_bytes u = bytes 1 (values u).tag ++ (bytes 8 (of_z w64 (values u).one) ++ (bytes 8 (of_z w64 (values u).two) ++ bytes 2 (values u).text))
