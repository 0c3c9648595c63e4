-- Which integers placed numbers and signed fields mean, over the width. Assumes nothing.
use Rattle.std.proofs.Common.{◌≡◌, ℕ, suc, ◌+◌, ◌-◌, ◌%◌, ◌^◌, ◌<◌, ◌≤◌, Bool, true, false, ◌&&◌, ltb, leb, ℤ, pos, negsuc, ◌+ℤ◌, sym, refl, ap, ◌∙◌, ap₂, mod-eq_of_lt, lt_of_not-le, arith, SFits, to_z, of_z, ltb-false, ltb-true, le-ltb, lt-ltb, le-leb, leb-true}
use Rattle.std.specs.Prelude.{None, Some}
use native.Mathlib.Nat.{mod-eq-sub-mod}
use native.Mathlib.Decide.{dec_lt, dec_le}
use borrow.Author.Tests.{lt-leb}
use lib.IntN.{sub_ℕ}
use lib.Signed.{lt_z, le_z}
use mir.Syntax.{Width}
use mir.Val.{bits}
use mir.ValLaws.{pow-bits, to_z_pos, to_z-of_z}
use Rattle.wire.specs.Signs.{half, since, placed, meant, turned, between}

pub and_true : (a b : Bool) → (a && b) ≡ true → (a ≡ true) × (b ≡ true)
and_true true b e = (refl, e)
and_true false b e = (e, absurd (let z : ◌≡◌ {A = ℕ} 0 1 = cc in omega arith))

pub and_no : (a : Bool) → (a && false) ≡ false
and_no true = refl
and_no false = refl

-- a difference of two numbers that both rise by k
pub shifted : (k a b : ℕ) → sub_ℕ (a + k) (b + k) ≡ sub_ℕ a b
shifted k a b = go (ltb a b) refl
  where
    go : (t : Bool) → ltb a b ≡ t → sub_ℕ (a + k) (b + k) ≡ sub_ℕ a b
    go true e =
        let l = ltb-true a b e in
        let z : b + k - suc (a + k) ≡ b - suc a = omega arith in
        simp (e, lt-ltb (a + k) (b + k) (omega arith), z)
    go false e =
        let l = ltb-false a b e in
        let z : a + k - (b + k) ≡ a - b = omega arith in
        simp (e, le-ltb (a + k) (b + k) (omega arith), z)

not_below : {a b : ℕ} → (a < b → ⊥) → b ≤ a
not_below h = omega arith

ltb_same : (a b c d : ℕ) → (a < b → c < d) → (c < d → a < b) → ltb a b ≡ ltb c d
ltb_same a b c d f g = go (dec_lt c d)
  where
    go : Dec (c < d) → ltb a b ≡ ltb c d
    go (yes h) = lt-ltb a b (g h) ∙ sym (lt-ltb c d h)
    go (no h) = le-ltb a b (not_below (λ l. h (f l))) ∙ sym (le-ltb c d (not_below h))

leb_same : (a b c d : ℕ) → (a ≤ b → c ≤ d) → (c ≤ d → a ≤ b) → leb a b ≡ leb c d
leb_same a b c d f g = go (dec_le c d)
  where
    go : Dec (c ≤ d) → leb a b ≡ leb c d
    go (yes h) = le-leb a b (g h) ∙ sym (le-leb c d h)
    go (no h) = lt-leb a b (lt_of_not-le (λ l. h (f l))) ∙ sym (lt-leb c d (lt_of_not-le h))

module _ (w : Width) where
  -- ---- an integer, placed

  pub placed_below : (z : ℤ) → SFits w z → placed w z < 2 ^ bits w
  unfolding placed
  placed_below (pos n) f = let h : n < half w = f.sfits in omega (arith, pow-bits w)
  placed_below (negsuc n) f = let h : n < half w = f.sfits in omega (arith, pow-bits w)

  -- it is the integer plus half of the range
  pub placed_sum : (z : ℤ) → SFits w z → pos (placed w z) ≡ z +ℤ pos (half w)
  unfolding placed
  placed_sum (pos n) f = refl
  placed_sum (negsuc n) f =
      let h : n < half w = f.sfits in
      let l : suc n ≤ half w = omega arith in
      simp (le-ltb (half w) (suc n) l)

  pub meant_placed : (z : ℤ) → SFits w z → meant w (placed w z) ≡ z
  unfolding placed meant
  meant_placed (pos n) f =
      let l : half w ≤ n + half w = omega arith in
      let z : n + half w - half w ≡ n = omega arith in
      simp (le-ltb (n + half w) (half w) l, z)
  meant_placed (negsuc n) f =
      let h : n < half w = f.sfits in
      let l : half w - suc n < half w = omega arith in
      let z : half w - suc (half w - suc n) ≡ n = omega arith in
      simp (lt-ltb (half w - suc n) (half w) l, z)

  pub placed_meant : (x : ℕ) → placed w (meant w x) ≡ x
  unfolding placed meant
  placed_meant x = go (ltb x (half w)) refl
    where
      go : (b : Bool) → ltb x (half w) ≡ b → placed w (sub_ℕ x (half w)) ≡ x
      go true e = let l = ltb-true x (half w) e in simp e (omega arith)
      go false e = let l = ltb-false x (half w) e in simp e (omega arith)

  pub meant_fits : (x : ℕ) → x < 2 ^ bits w → SFits w (meant w x)
  unfolding meant
  meant_fits x h = go (ltb x (half w)) refl
    where
      go : (b : Bool) → ltb x (half w) ≡ b → SFits w (sub_ℕ x (half w))
      go true e = let l = ltb-true x (half w) e in simp e (record { sfits = omega arith })
      go false e = let l = ltb-false x (half w) e in simp e (record { sfits = omega (arith, pow-bits w) })

  -- a sum of integers is a sum of placed numbers
  pub meant_sum : (x k : ℕ) → meant w x +ℤ pos k ≡ meant w (x + k)
  unfolding meant
  meant_sum x k = go (ltb x (half w)) refl
    where
      go : (b : Bool) → ltb x (half w) ≡ b → sub_ℕ x (half w) +ℤ pos k ≡ sub_ℕ (x + k) (half w)
      go true e =
          let l = ltb-true x (half w) e in
          let a : suc (half w - suc x) + x ≡ half w = omega arith in
          let c : k + x ≡ x + k = omega arith in
          simp e (sym (shifted x k (suc (half w - suc x))) ∙ ap₂ sub_ℕ c a)
      go false e =
          let l = ltb-false x (half w) e in
          let z : x - half w + k ≡ x + k - half w = omega arith in
          simp (e, le-ltb (x + k) (half w) (omega arith), z)

  -- counted from another origin
  pub since_meant : (e x : ℕ) → e ≤ half w → since e (meant w x) ≡ x - (half w - e)
  unfolding meant
  since_meant e x l = go (ltb x (half w)) refl
    where
      go : (b : Bool) → ltb x (half w) ≡ b → since e (sub_ℕ x (half w)) ≡ x - (half w - e)
      go true q = let k = ltb-true x (half w) q in simp q (omega arith)
      go false q = let k = ltb-false x (half w) q in simp q (omega arith)

  -- ---- order is kept: the tests on placed numbers are the tests on the integers that they mean

  pub order_lt : (x y : ℕ) → lt_z (meant w x) (meant w y) ≡ ltb x y
  unfolding meant
  order_lt x y = go (ltb x (half w)) (ltb y (half w)) refl refl
    where
      go : (a b : Bool) → ltb x (half w) ≡ a → ltb y (half w) ≡ b → lt_z (sub_ℕ x (half w)) (sub_ℕ y (half w)) ≡ ltb x y
      go true true e f =
          let l = ltb-true x (half w) e in
          let m = ltb-true y (half w) f in
          simp (e, f) (ltb_same (half w - suc y) (half w - suc x) x y (λ h. omega arith) (λ h. omega arith))
      go true false e f = let l = ltb-true x (half w) e in let m = ltb-false y (half w) f in simp (e, f) (sym (lt-ltb x y (omega arith)))
      go false true e f = let l = ltb-false x (half w) e in let m = ltb-true y (half w) f in simp (e, f) (sym (le-ltb x y (omega arith)))
      go false false e f =
          let l = ltb-false x (half w) e in
          let m = ltb-false y (half w) f in
          simp (e, f) (ltb_same (x - half w) (y - half w) x y (λ h. omega arith) (λ h. omega arith))

  pub order_le : (x y : ℕ) → le_z (meant w x) (meant w y) ≡ leb x y
  unfolding meant
  order_le x y = go (ltb x (half w)) (ltb y (half w)) refl refl
    where
      go : (a b : Bool) → ltb x (half w) ≡ a → ltb y (half w) ≡ b → le_z (sub_ℕ x (half w)) (sub_ℕ y (half w)) ≡ leb x y
      go true true e f =
          let l = ltb-true x (half w) e in
          let m = ltb-true y (half w) f in
          simp (e, f) (leb_same (half w - suc y) (half w - suc x) x y (λ h. omega arith) (λ h. omega arith))
      go true false e f = let l = ltb-true x (half w) e in let m = ltb-false y (half w) f in simp (e, f) (sym (le-leb x y (omega arith)))
      go false true e f = let l = ltb-false x (half w) e in let m = ltb-true y (half w) f in simp (e, f) (sym (lt-leb x y (omega arith)))
      go false false e f =
          let l = ltb-false x (half w) e in
          let m = ltb-false y (half w) f in
          simp (e, f) (leb_same (x - half w) (y - half w) x y (λ h. omega arith) (λ h. omega arith))

  -- ---- a signed field: its bits are a two's complement

  turned_low : (x : ℕ) → x < half w → turned w x ≡ x + half w
  turned_low x h = mod-eq_of_lt (omega (arith, pow-bits w))

  turned_high : (x : ℕ) → half w ≤ x → x < 2 ^ bits w → turned w x ≡ x - half w
  turned_high x l h =
      let z : x + half w - 2 ^ bits w ≡ x - half w = omega (arith, pow-bits w) in
      mod-eq-sub-mod (omega (arith, pow-bits w)) ∙ ap (λ (k : ℕ). k % 2 ^ bits w) z ∙ mod-eq_of_lt (omega arith)

  -- the integer that a field of bits x means, as the machine reads it
  pub turned_meant : (x : ℕ) → x < 2 ^ bits w → meant w (turned w x) ≡ to_z w x
  unfolding meant
  turned_meant x h = go (ltb x (half w)) refl
    where
      go : (b : Bool) → ltb x (half w) ≡ b → sub_ℕ (turned w x) (half w) ≡ to_z w x
      go true e =
          let l = ltb-true x (half w) e in
          let z : x + half w - half w ≡ x = omega arith in
          let m : half w ≤ x + half w = omega arith in
          ap (λ (k : ℕ). sub_ℕ k (half w)) (turned_low x l) ∙ simp (e, le-ltb (x + half w) (half w) m, z)
      go false e =
          let l = ltb-false x (half w) e in
          let m : x - half w < half w = omega (arith, pow-bits w) in
          let z : half w - suc (x - half w) ≡ 2 ^ bits w - suc x = omega (arith, pow-bits w) in
          ap (λ (k : ℕ). sub_ℕ k (half w)) (turned_high x l h) ∙ simp (e, lt-ltb (x - half w) (half w) m, z)

  -- the bits to write for an integer are its placed number turned
  pub turned_placed : (z : ℤ) → SFits w z → turned w (placed w z) ≡ of_z w z
  unfolding placed
  turned_placed (pos n) f = let h : n < half w = f.sfits in turned_high (n + half w) (omega arith) (omega (arith, pow-bits w)) ∙ omega arith
  turned_placed (negsuc n) f = let h : n < half w = f.sfits in turned_low (half w - suc n) (omega arith) ∙ omega (arith, pow-bits w)

  -- turning twice gives the number back, so writing undoes reading and reading writing
  pub turned_turned : (x : ℕ) → x < 2 ^ bits w → turned w (turned w x) ≡ x
  turned_turned x h = go (ltb x (half w)) refl
    where
      go : (b : Bool) → ltb x (half w) ≡ b → turned w (turned w x) ≡ x
      go true e =
          let l = ltb-true x (half w) e in
          ap (turned w) (turned_low x l) ∙ turned_high (x + half w) (omega arith) (omega (arith, pow-bits w)) ∙ omega arith
      go false e =
          let l = ltb-false x (half w) e in
          ap (turned w) (turned_high x l h) ∙ turned_low (x - half w) (omega (arith, pow-bits w)) ∙ omega arith

  -- an integer's bits, turned, are its placed number
  pub cast_turned : (z : ℤ) → SFits w z → turned w (of_z w (to_z w (of_z w z))) ≡ placed w z
  cast_turned z f =
      ap (λ (y : ℤ). turned w (of_z w y)) (to_z-of_z w z f)
      ∙ ap (turned w) (sym (turned_placed z f))
      ∙ turned_turned (placed w z) (placed_below z f)

  -- and a placed number, turned, is the bits of the integer that it means
  pub turned_cast : (x : ℕ) → x < 2 ^ bits w → to_z w (turned w x) ≡ meant w x
  turned_cast x h =
      let l : turned w x < 2 ^ bits w = omega arith in
      sym (turned_meant (turned w x) l) ∙ ap (meant w) (turned_turned x h)

  -- ---- numbers counted from an origin e, as days and instants are: d means d - e, and is placed by adding what is left of the half

  pub meant_once : (x y : ℕ) → meant w x ≡ meant w y → x ≡ y
  meant_once x y e = sym (placed_meant x) ∙ ap (placed w) e ∙ placed_meant y

  module _ (e : ℕ) (fits : e ≤ half w) where
    abbrev pub origin : ℕ
    origin = half w - e

    pub counted : (d : ℕ) → sub_ℕ d e ≡ meant w (d + origin)
    unfolding meant
    counted d = let z : e + origin ≡ half w = omega arith in sym (shifted origin d e) ∙ ap (sub_ℕ (d + origin)) z

    pub counted_once : (a b : ℕ) → sub_ℕ a e ≡ sub_ℕ b e → a ≡ b
    counted_once a b i = omega (arith, meant_once (a + origin) (b + origin) (sym (counted a) ∙ i ∙ counted b))

    -- which placed numbers lie from lo to hi
    module _ (lo hi : ℕ) where
      tests : (p : ℕ) → (le_z (sub_ℕ lo e) (meant w p) && le_z (meant w p) (sub_ℕ hi e)) ≡ (leb (lo + origin) p && leb p (hi + origin))
      tests p =
          ap₂ (λ (a b : ℤ). le_z a (meant w p) && le_z (meant w p) b) (counted lo) (counted hi)
          ∙ ap₂ ◌&&◌ (order_le (lo + origin) p) (order_le p (hi + origin))

      pub between_yes : (p : ℕ) → lo + origin ≤ p → p ≤ hi + origin → between (sub_ℕ lo e) (sub_ℕ hi e) (meant w p) ≡ Some (meant w p)
      unfolding between
      between_yes p a b = rw (tests p) (simp (le-leb (lo + origin) p a, le-leb p (hi + origin) b))

      pub between_low : (p : ℕ) → p < lo + origin → between (sub_ℕ lo e) (sub_ℕ hi e) (meant w p) ≡ None
      unfolding between
      between_low p h = rw (tests p) (simp (lt-leb (lo + origin) p h))

      pub between_high : (p : ℕ) → hi + origin < p → between (sub_ℕ lo e) (sub_ℕ hi e) (meant w p) ≡ None
      unfolding between
      between_high p h = rw (tests p) (simp (lt-leb p (hi + origin) h, and_no))

      -- a number that was found means what was asked for, and lies from lo to hi
      pub between_found : (d : ℕ) (n : ℤ) → Some (sub_ℕ d e) ≡ between (sub_ℕ lo e) (sub_ℕ hi e) n → (sub_ℕ d e ≡ n) × (lo ≤ d) × (d ≤ hi)
      unfolding between
      between_found d n i = go (le_z (sub_ℕ lo e) n && le_z n (sub_ℕ hi e)) refl
        where
          go : (b : Bool) → (le_z (sub_ℕ lo e) n && le_z n (sub_ℕ hi e)) ≡ b → (sub_ℕ d e ≡ n) × (lo ≤ d) × (d ≤ hi)
          go false j = absurd (let h : Some (sub_ℕ d e) ≡ None = rw j at i in let z : ◌≡◌ {A = ℕ} 0 1 = cc in omega arith)
          go true j =
              let h : Some (sub_ℕ d e) ≡ Some n = rw j at i in
              let is : sub_ℕ d e ≡ n = cc in
              let p = d + origin in
              let same : meant w p ≡ n = sym (counted d) ∙ is in
              let both = and_true (leb (lo + origin) p) (leb p (hi + origin))
              (sym (tests p) ∙ ap (λ (k : ℤ). le_z (sub_ℕ lo e) k && le_z k (sub_ℕ hi e)) same ∙ j) in
              (is, omega (arith, leb-true (lo + origin) p both.0), omega (arith, leb-true p (hi + origin) both.1))
