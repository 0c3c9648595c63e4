-- Tests: a range of integers is a range of placed numbers. Assumes nothing.
use mathlib.Core.Path.{◌≡◌, refl, sym, ap, ap₂, ◌∙◌}
use mathlib.Core.Bool.{Bool, true, false, not, ◌&&◌, ◌||◌}
use Prim.Native.Nat.{ℕ, ◌≤◌}
use native.Mathlib.Nat.{lt_of_not-le}
use native.Mathlib.Decide.{dec_le}
use borrow.Author.Tests.{lt-ltb, le-ltb, le-leb, lt-leb, ne_eqb, ltb-false}
use lib.Dec.{ltb, leb}
use lib.Signed.{le_z}
use mir.Syntax.{Width}
use Rattle.wire.specs.Signs.{meant}
use Rattle.wire.proofs.Signs.{order_le}
use Rattle.records.specs.Layout.{by, coverage_kind, transition_kind, rule_kind}
use Rattle.records.specs.Book.{inside}
use Rattle.records.specs.Frame.{placed_range}

pub or_false : (a b : Bool) → (a || b) ≡ false → (a ≡ false) × (b ≡ false)
or_false true b e = (e, cc)
or_false false b e = (refl, e)

pub or_no : (a : Bool) → (a || false) ≡ a
or_no true = refl
or_no false = refl

pub not_leb : (a b : ℕ) → not (leb a b) ≡ ltb b a
not_leb a b = go (dec_le a b)
  where
    go : Dec (a ≤ b) → not (leb a b) ≡ ltb b a
    go (yes h) = simp (le-leb a b h, le-ltb b a h)
    go (no h) = let l = lt_of_not-le h in simp (lt-leb a b l, lt-ltb b a l)

not_and : (a b : Bool) → not (a && b) ≡ (not a || not b)
not_and true b = refl
not_and false b = refl

-- outside a range: below it or above it
pub outside_test : (w : Width) (low high p : ℕ) → (ltb p low || ltb high p) ≡ not (inside (placed_range w low high) (meant w p))
outside_test w low high p =
    sym (ap not (ap₂ ◌&&◌ (order_le w low p) (order_le w p high)) ∙ not_and (leb low p) (leb p high) ∙ ap₂ ◌||◌ (not_leb low p) (not_leb p high))

pub inside_range : (w : Width) (low high p : ℕ) → not (inside (placed_range w low high) (meant w p)) ≡ false → (low ≤ p) × (p ≤ high)
inside_range w low high p q =
    let h = or_false (ltb p low) (ltb high p) (outside_test w low high p ∙ q) in
    (ltb-false p low h.0, ltb-false high p h.1)

-- not at most: above
pub above_test : (w : Width) (x p : ℕ) → ltb x p ≡ not (le_z (meant w p) (meant w x))
above_test w x p = sym (ap not (order_le w p x) ∙ not_leb p x)

-- by the kind of a record, where it is none of the first three
pub by_rest : {A : Type 0} {k : ℕ} (a b c d : A) → (k ≡ coverage_kind → ⊥) → (k ≡ transition_kind → ⊥) → (k ≡ rule_kind → ⊥) → by k a b c d ≡ d
by_rest a b c d n1 n2 n3 = simp (ne_eqb _ _ n1, ne_eqb _ _ n2, ne_eqb _ _ n3)
