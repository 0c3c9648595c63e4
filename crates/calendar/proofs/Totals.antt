-- Totals of sizes: a table of them is right where one computed test passes, and a place is told by what lies before it.
-- Assumes nothing.
use mathlib.Core.Path.{◌≡◌, refl, sym, ap, ◌∙◌}
use mathlib.Core.Bool.{Bool, true, ◌&&◌}
use mathlib.Core.List.{List, [], ◌∷◌}
use mathlib.Core.Logic.{⊎_elim}
use Prim.Native.Nat.{ℕ, zero, suc, ◌+◌, ◌-◌, ◌*◌, ◌≤◌, ◌<◌}
use native.Mathlib.Nat.{add-zero, add-suc, suc-add, le_of_suc-le-suc, not-suc-le-zero, eq-or-lt_of_le}
use native.Mathlib.Decide.{dec_lt}
use native.Mathlib.Omega.{arith}
use lib.Dec.{T, leb, leb→le}
use lib.ListN.{get_or}
use mir.Facts.{and_yes}
use Rattle.calendar.specs.Gregorian.{total}

-- ---- a table of totals

-- the table of n entries that begins with x, each next entry the one before it plus the size of the place between them. The checker
-- computes it, and holds a table of constants to it entry by entry
abbrev pub steps : (ℕ → ℕ) → ℕ → ℕ → ℕ → List ℕ
steps size zero a x = []
steps size (suc n) a x = x ∷ steps size n (suc a) (x + size a)

-- a total taken from its first place
total_first : (size : ℕ → ℕ) (a k : ℕ) → total size a (suc k) ≡ size a + total size (suc a) k
unfolding total
total_first size a zero = let z = ap size (add-zero a) in omega arith
total_first size a (suc k) = let on = total_first size a k in let z = ap size (add-suc a k ∙ sym (suc-add a k)) in omega arith

-- the rule of such a table, at each of its entries
pub table : (size : ℕ → ℕ) (n a x k : ℕ) → k < n → get_or (steps size n a x) k 0 ≡ x + total size a k
unfolding total
table size zero a x k h = absurd (not-suc-le-zero h)
table size (suc n) a x zero h = omega arith
table size (suc n) a x (suc k) h = omega (arith, table size n (suc a) (x + size a) k (le_of_suc-le-suc h), total_first size a k)

-- each entry is at most b
abbrev pub at_most : ℕ → List ℕ → Bool
at_most b [] = true
at_most b (x ∷ xs) = leb x b && at_most b xs

pub at_most_law : (b : ℕ) (xs : List ℕ) (k : ℕ) → T (at_most b xs) → get_or xs k 0 ≤ b
at_most_law b [] k t = omega arith
at_most_law b (x ∷ xs) zero t = leb→le x b (and_yes (leb x b) (at_most b xs) t).0
at_most_law b (x ∷ xs) (suc k) t = at_most_law b xs k (and_yes (leb x b) (at_most b xs) t).1

-- ---- what lies before a place

module _ (size : ℕ → ℕ) (a : ℕ) where
  pub none : total size a 0 ≡ 0
  unfolding total
  none = refl

  pub next : (k : ℕ) → total size a (suc k) ≡ total size a k + size (a + k)
  unfolding total
  next k = refl

  -- a later place starts past the whole of an earlier one
  pub apart : (i j : ℕ) → i < j → total size a i + size (a + i) ≤ total size a j
  unfolding total
  apart i zero h = absurd (not-suc-le-zero h)
  apart i (suc j) h =
      ⊎_elim (λ e. omega (arith, ap (total size a) e, ap (λ (k : ℕ). size (a + k)) e)) (λ l. omega (arith, apart i j l))
      (eq-or-lt_of_le (le_of_suc-le-suc h))

  pub rises : (i j : ℕ) → i ≤ j → total size a i ≤ total size a j
  rises i j h = ⊎_elim (λ e. omega (arith, ap (total size a) e)) (λ l. omega (arith, apart i j l)) (eq-or-lt_of_le h)

  pub at_most_each : (b : ℕ) → ((k : ℕ) → size k ≤ b) → (k : ℕ) → total size a k ≤ b * k
  unfolding total
  at_most_each b h zero = omega arith
  at_most_each b h (suc k) = let one = h (a + k) in omega (arith, at_most_each b h k)

  pub at_least_each : (b : ℕ) → ((k : ℕ) → b ≤ size k) → (k : ℕ) → b * k ≤ total size a k
  unfolding total
  at_least_each b h zero = omega arith
  at_least_each b h (suc k) = let one = h (a + k) in omega (arith, at_least_each b h k)

  -- a number lies within one place only
  pub unique : (i j r s : ℕ) → r < size (a + i) → s < size (a + j) → total size a i + r ≡ total size a j + s → i ≡ j
  unique i j r s p q e = go (dec_lt i j) (dec_lt j i)
    where
      go : Dec (i < j) → Dec (j < i) → i ≡ j
      go (yes l) d = omega (arith, apart i j l)
      go (no l) (yes m) = omega (arith, apart j i m)
      go (no l) (no m) = omega arith

-- places counted from 1, as months are
pub next_from_one : (size : ℕ → ℕ) (m : ℕ) → 1 ≤ m → total size 1 m ≡ total size 1 (m - 1) + size m
next_from_one size zero h = absurd (not-suc-le-zero h)
next_from_one size (suc k) h =
    let z : suc k - 1 ≡ k = omega arith in
    let y : 1 + k ≡ suc k = omega arith in
    rw z (next size 1 k ∙ ap (λ (j : ℕ). total size 1 k + size j) y)
