-- The total of a kind of span in a row is the number of its instants at which such a span stands. Assumes nothing.
use mathlib.Core.Path.{◌≡◌, refl, ap, ◌∙◌}
use mathlib.Core.Bool.{Bool, true, false, cond, not}
use mathlib.Core.List.{List, [], ◌∷◌}
use Rattle.std.specs.Prelude.{Option, None, Some}
use Prim.Native.Nat.{ℕ, zero, suc, ◌+◌, ◌-◌, ◌≤◌, ◌<◌, min, max}
use native.Mathlib.Decide.{dec_lt}
use native.Mathlib.Omega.{arith}
use Rattle.spans.specs.Spans.{Mark, Span, Body, look, Within}
use Rattle.spans.specs.Totals.{total, bit, count, shows}
use Rattle.spans.proofs.Lists.{look_in, look_early, look_late, before}

-- counting
pub same_count : (P Q : ℕ → Bool) (a n : ℕ) → ((t : ℕ) → a ≤ t → t < a + n → P t ≡ Q t) → count P a n ≡ count Q a n
unfolding count
same_count P Q a zero h = refl
same_count P Q a (suc n) h =
    let e = h (a + n) (omega arith) (omega arith) in
    let r = same_count P Q a n (λ t i j. h t i (omega arith)) in
    simp (e, r)

module _ {A : Type 0} (B : Body A) (k : Mark → Bool) (a : ℕ) where
  none_yet : (ss : List (Span A)) → total B k a a ss ≡ 0
  unfolding total
  none_yet [] = refl
  none_yet (s ∷ ss) = go (k (B.mark s.body)) (none_yet ss)
    where
      go : (q : Bool) → total B k a a ss ≡ 0 → cond q (min a s.to - max a s.from) 0 + total B k a a ss ≡ 0
      go true e = omega arith
      go false e = omega arith

  -- one instant more
  one_more : (b lo hi : ℕ) (ss : List (Span A)) → a ≤ b → Within lo hi ss
      → total B k a (suc b) ss ≡ bit (shows k (look B.mark ss b)) + total B k a b ss
  unfolding total look
  one_more b lo hi [] h w = refl
  one_more b lo hi (s ∷ ss) h w = go (dec_lt b s.from) (dec_lt b s.to) (one_more b s.to hi ss h w.2)
    where
      q : Bool
      q = k (B.mark s.body)

      x : Option Mark
      x = look B.mark (s ∷ ss) b

      flat : (y : Bool) → min (suc b) s.to - max a s.from ≡ min b s.to - max a s.from
          → cond y (min (suc b) s.to - max a s.from) 0 ≡ cond y (min b s.to - max a s.from) 0
      flat true e = e
      flat false e = refl

      up : (y : Bool) → min (suc b) s.to - max a s.from ≡ suc (min b s.to - max a s.from)
          → cond y (min (suc b) s.to - max a s.from) 0 ≡ bit y + cond y (min b s.to - max a s.from) 0
      up true e = omega arith
      up false e = omega arith

      go : Dec (b < s.from) → Dec (b < s.to) → total B k a (suc b) ss ≡ bit (shows k (look B.mark ss b)) + total B k a b ss
          → cond q (min (suc b) s.to - max a s.from) 0 + total B k a (suc b) ss
          ≡ bit (shows k x) + (cond q (min b s.to - max a s.from) 0 + total B k a b ss)
      go (yes u) d on =
          let e : x ≡ look B.mark ss b = look_early B.mark b s ss u in
          omega (arith, ap (λ (o : Option Mark). bit (shows k o)) e, flat q (omega arith))
      go (no u) (no d) on =
          let e : x ≡ look B.mark ss b = look_late B.mark b s ss (omega arith) in
          omega (arith, ap (λ (o : Option Mark). bit (shows k o)) e, flat q (omega arith))
      go (no u) (yes d) on =
          let e : x ≡ Some (B.mark s.body) = look_in B.mark b s ss (omega arith) d in
          let f : look B.mark ss b ≡ None = before B.mark b s.to hi ss d w.2 in
          omega (arith, ap (λ (o : Option Mark). bit (shows k o)) e, ap (λ (o : Option Mark). bit (shows k o)) f, up q (omega arith))

  pub total_count : (n lo hi : ℕ) (ss : List (Span A)) → Within lo hi ss → total B k a (a + n) ss ≡ count (λ t. shows k (look B.mark ss t)) a n
  unfolding count
  total_count zero lo hi ss w = let z : a + 0 ≡ a = omega arith in rw z (none_yet ss)
  total_count (suc n) lo hi ss w =
      let z : a + suc n ≡ suc (a + n) = omega arith in
      let on = total_count n lo hi ss w in
      rw z (one_more (a + n) lo hi ss (omega arith) w ∙ ap (λ (m : ℕ). bit (shows k (look B.mark ss (a + n))) + m) on)

-- those that have the property and those that have it not
pub others : (P : ℕ → Bool) (a n : ℕ) → count P a n + count (λ t. not (P t)) a n ≡ n
unfolding count
others P a zero = refl
others P a (suc n) = go (P (a + n)) (others P a n)
  where
    go : (q : Bool) → count P a n + count (λ t. not (P t)) a n ≡ n → bit q + count P a n + (bit (not q) + count (λ t. not (P t)) a n) ≡ suc n
    go true e = omega arith
    go false e = omega arith
