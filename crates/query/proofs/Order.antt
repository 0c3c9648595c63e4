-- Integers and their instants are in the same order; a window that passes, and one inside it. Assumes nothing.
use mathlib.Core.Path.{◌≡◌, refl, sym, ap, ap₂, ◌∙◌}
use mathlib.Core.Bool.{Bool, true, cond, ◌&&◌}
use Rattle.std.specs.Prelude.{Ok, Err}
use Prim.Native.Nat.{ℕ, ◌+◌, ◌≤◌, ◌<◌}
use native.Mathlib.Omega.{arith}
use borrow.Author.Tests.{lt-ltb, le-leb, leb-true, ltb-true, eq-eqb}
use lib.Dec.{ltb, leb}
use lib.IntN.{ℤ, pos, negsuc}
use lib.Signed.{lt_z, le_z}
use mir.Syntax.{w64}
use Rattle.wire.specs.Signs.{meant}
use Rattle.wire.proofs.Signs.{and_true, order_lt, order_le}
use Rattle.zone.specs.Units.{instant_number, instant_of}
use Rattle.zone.specs.declared.Interval.{Interval}
use Rattle.zone.proofs.Domain.{instant_zero, instant_placed}
use Rattle.records.specs.Book.{Range, inside, instants}
use Rattle.query.specs.Judging.{window_refusal, window_of}
use Rattle.query.proofs.Instants.{number_back}
use Rattle.query.proofs.Windows.{Windowed, passes, window_between}

-- ---- integers

pub le_le : (a b c : ℤ) → le_z a b ≡ true → le_z b c ≡ true → le_z a c ≡ true
le_le (pos a) (pos b) (pos c) h i = le-leb a c (omega (arith, leb-true a b h, leb-true b c i))
le_le (pos a) (pos b) (negsuc c) h i = i
le_le (pos a) (negsuc b) c h i = absurd (let z : ◌≡◌ {A = ℕ} 0 1 = cc in omega arith)
le_le (negsuc a) b (pos c) h i = refl
le_le (negsuc a) (pos b) (negsuc c) h i = absurd (let z : ◌≡◌ {A = ℕ} 0 1 = cc in omega arith)
le_le (negsuc a) (negsuc b) (negsuc c) h i = le-leb c a (omega (arith, leb-true b a h, leb-true c b i))

pub lt_le : (a b : ℤ) → lt_z a b ≡ true → le_z a b ≡ true
lt_le (pos a) (pos b) h = le-leb a b (omega (arith, ltb-true a b h))
lt_le (pos a) (negsuc b) h = h
lt_le (negsuc a) (pos b) h = refl
lt_le (negsuc a) (negsuc b) h = le-leb b a (omega (arith, ltb-true b a h))

-- what lies between two of a range is of the range
pub inside_between : (r : Range) (a b z : ℤ) → inside r a ≡ true → inside r b ≡ true → le_z a z ≡ true → le_z z b ≡ true → inside r z ≡ true
inside_between r a b z h i k l =
    let low = le_le r.low a z (and_true (le_z r.low a) (le_z a r.high) h).0 k in
    let high = le_le z b r.high l (and_true (le_z r.low b) (le_z b r.high) i).1 in
    ap₂ ◌&&◌ low high

-- ---- integers that their instants give back

abbrev pub GivenBack : ℤ → Type 0
GivenBack n = instant_number (instant_of n) ≡ n

module _ (m n : ℤ) (a : GivenBack m) (b : GivenBack n) where
  placed_is : (z : ℤ) → GivenBack z → z ≡ meant w64 (instant_of z + instant_zero)
  placed_is z k = sym k ∙ instant_placed (instant_of z)

  le_is : le_z m n ≡ leb (instant_of m + instant_zero) (instant_of n + instant_zero)
  le_is = ap₂ le_z (placed_is m a) (placed_is n b) ∙ order_le w64 (instant_of m + instant_zero) (instant_of n + instant_zero)

  lt_is : lt_z m n ≡ ltb (instant_of m + instant_zero) (instant_of n + instant_zero)
  lt_is = ap₂ lt_z (placed_is m a) (placed_is n b) ∙ order_lt w64 (instant_of m + instant_zero) (instant_of n + instant_zero)

  pub instant_le : le_z m n ≡ true → instant_of m ≤ instant_of n
  instant_le h = omega (arith, leb-true (instant_of m + instant_zero) (instant_of n + instant_zero) (sym le_is ∙ h))

  pub instant_lt : lt_z m n ≡ true → instant_of m < instant_of n
  instant_lt h = omega (arith, ltb-true (instant_of m + instant_zero) (instant_of n + instant_zero) (sym lt_is ∙ h))

  pub number_le : instant_of m ≤ instant_of n → le_z m n ≡ true
  number_le h = le_is ∙ le-leb (instant_of m + instant_zero) (instant_of n + instant_zero) (omega arith)

  pub number_lt : instant_of m < instant_of n → lt_z m n ≡ true
  number_lt h = lt_is ∙ lt-ltb (instant_of m + instant_zero) (instant_of n + instant_zero) (omega arith)

-- a window that passes
pub window_passed : (m n : ℤ) → window_refusal m n ≡ 0 → Windowed m n (record { 0 = instant_of m }) (record { 0 = instant_of n })
unfolding window_of
window_passed m n e =
    let w : Interval = record { start = record { 0 = instant_of m }; end = record { 0 = instant_of n } } in
    window_between m n {w = w} (sym (ap (λ (q : Bool). cond q (Ok w) (Err (window_refusal m n))) (eq-eqb (window_refusal m n) 0 e)))

-- from an integer of a window that passes to a later one of it is such a window
pub window_inside : (m n m' n' : ℤ) → window_refusal m n ≡ 0 → le_z m m' ≡ true → lt_z m' n' ≡ true → le_z n' n ≡ true → window_refusal m' n' ≡ 0
window_inside m n m' n' e a b c =
    let w = window_passed m n e in
    let start = inside_between instants m n m' w.start_in w.end_in a (le_le m' n' n (lt_le m' n' b) c) in
    let end = inside_between instants m n n' w.start_in w.end_in (le_le m m' n' a (lt_le m' n' b)) c in
    let x : Interval = record { start = record { 0 = instant_of m' }; end = record { 0 = instant_of n' } } in
    (window_between m' n' {w = x} (passes m' n' start end x.start x.end refl refl (instant_lt m' n' (number_back m' start) (number_back n' end) b))).passed
