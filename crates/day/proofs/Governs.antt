-- What the governing rule is: the highest that applies, the last listed of those that tie. Assumes nothing.
use mathlib.Core.Path.{◌≡◌, refl, sym, ap, ◌∙◌}
use mathlib.Core.Logic.{◌⊎◌, inl, inr}
use mathlib.Core.Bool.{Bool, true, false, cond, ◌&&◌, ◌||◌}
use mathlib.Core.List.{List, [], ◌∷◌, map}
use Rattle.std.specs.Prelude.{Option, None, Some}
use Prim.Native.Nat.{ℕ, zero, suc, ◌≤◌, ◌<◌}
use native.Mathlib.Nat.{le_of_suc-le-suc}
use native.Mathlib.Decide.{ℕ_discrete}
use native.Mathlib.Omega.{arith}
use borrow.Author.Tests.{ltb-true, ltb-false, lt-ltb, le-ltb, leb-true, leb-false, le-leb, eq-eqb, eqb-true}
use lib.Dec.{ltb, leb, eqb}
use Rattle.wire.proofs.Signs.{and_true}
use Rattle.records.specs.Records.{Rule}
use Rattle.records.proofs.Tests.{or_false}
use Rattle.venue.specs.Opening.{day_of}
use Rattle.day.specs.Governing.{precedence, applies, not_lower, takes, governing_from, nth, Governs, governing_of, governing_rule}

-- ---- not lower: by a number p, then by a number f

-- (p, f) is not lower than (q, g)
abbrev test : ℕ → ℕ → ℕ → ℕ → Bool
test p f q g = ltb q p || (eqb q p && leb g f)

abbrev NotLower : ℕ → ℕ → ℕ → ℕ → Type 0
NotLower p f q g = (q < p) ⊎ ((q ≡ p) × (g ≤ f))

or_true : (a b : Bool) → (a || b) ≡ true → (a ≡ true) ⊎ (b ≡ true)
or_true true b e = inl refl
or_true false b e = inr e

passes : (p f q g : ℕ) → NotLower p f q g → test p f q g ≡ true
passes p f q g (inl h) = simp (lt-ltb q p h)
passes p f q g (inr (e, h)) = let l : p ≤ q = omega arith in simp (le-ltb q p l, eq-eqb q p e, le-leb g f h)

passed : (p f q g : ℕ) → test p f q g ≡ true → NotLower p f q g
passed p f q g e = go (or_true (ltb q p) (eqb q p && leb g f) e)
  where
    go : (ltb q p ≡ true) ⊎ ((eqb q p && leb g f) ≡ true) → NotLower p f q g
    go (inl h) = inl (ltb-true q p h)
    go (inr h) = let b = and_true (eqb q p) (leb g f) h in inr (eqb-true q p b.0, leb-true g f b.1)

-- of two, one is not lower than the other
turned : (p f q g : ℕ) → test p f q g ≡ false → test q g p f ≡ true
turned p f q g e = passes q g p f (go (ℕ_discrete q p))
  where
    parts : (ltb q p ≡ false) × ((eqb q p && leb g f) ≡ false)
    parts = or_false (ltb q p) (eqb q p && leb g f) e

    go : Dec (q ≡ p) → NotLower q g p f
    go (yes i) =
        let r = parts.1 in
        let l = leb-false g f (simp (eq-eqb q p i) at r) in
        inr (sym i, omega (arith, l))
    go (no n) = let l = ltb-false q p parts.0 in inl (omega arith)

-- not lower than one that is not lower than a third
joined : (p f q g m h : ℕ) → test p f q g ≡ true → test q g m h ≡ true → test p f m h ≡ true
joined p f q g m h a b = passes p f m h (go (passed p f q g a) (passed q g m h b))
  where
    go : NotLower p f q g → NotLower q g m h → NotLower p f m h
    go (inl x) (inl y) = inl (omega arith)
    go (inl x) (inr (e, y)) = inl (omega arith)
    go (inr (e, x)) (inl y) = inl (omega arith)
    go (inr (d, x)) (inr (e, y)) = inr (e ∙ d, omega arith)

-- ---- of rules

higher_self : (r : Rule) → not_lower r r ≡ true
higher_self r = passes (precedence r.code) (day_of r.first) (precedence r.code) (day_of r.first) (inr (refl, omega arith))

higher_turned : (r q : Rule) → not_lower r q ≡ false → not_lower q r ≡ true
higher_turned r q e = turned (precedence r.code) (day_of r.first) (precedence q.code) (day_of q.first) e

higher_joined : (r q b : Rule) → not_lower r q ≡ true → not_lower q b ≡ true → not_lower r b ≡ true
higher_joined r q b = joined (precedence r.code) (day_of r.first) (precedence q.code) (day_of q.first) (precedence b.code) (day_of b.first)

-- ---- the choice

module _ {A : Type 0} (f : A → Rule) where
  -- what takes the place of the best so far applies
  takes_applies : (best : Option A) (r : A) (d : ℕ) → takes f best r d ≡ true → applies (f r) d ≡ true
  takes_applies None r d e = e
  takes_applies (Some b) r d e = (and_true (applies (f r) d) (not_lower (f r) (f b)) e).0

  -- one that applies and does not take it is lower
  stays : (b r : A) (d : ℕ) → takes f (Some b) r d ≡ false → applies (f r) d ≡ true → not_lower (f r) (f b) ≡ false
  stays b r d e a = simp a at e

  -- what takes it is not lower than one that applies and does not
  takes_above : (best : Option A) (r q : A) (d : ℕ) → takes f best r d ≡ true → takes f best q d ≡ false → applies (f q) d ≡ true
      → not_lower (f r) (f q) ≡ true
  takes_above None r q d t e a = let z : ◌≡◌ {A = Bool} true false = sym a ∙ e in cc
  takes_above (Some b) r q d t e a =
      higher_joined (f r) (f b) (f q) (and_true (applies (f r) d) (not_lower (f r) (f b)) t).1 (higher_turned (f q) (f b) (stays b q d e a))

  -- what takes it from one that took it would have taken it itself
  takes_after : (best : Option A) (q r : A) (d : ℕ) → takes f best q d ≡ true → takes f (Some q) r d ≡ true → takes f best r d ≡ true
  takes_after None q r d t u = (and_true (applies (f r) d) (not_lower (f r) (f q)) u).0
  takes_after (Some b) q r d t u =
      let x = and_true (applies (f r) d) (not_lower (f r) (f q)) u in
      simp x.0 (higher_joined (f r) (f q) (f b) x.1 (and_true (applies (f q) d) (not_lower (f q) (f b)) t).1)

  -- ---- the outcome

  -- nothing of the list takes the place of the best so far, or what governs in the list does
  data Outcome (best : Option A) (rs : List A) (d : ℕ) : Option A → Type 0 where
    kept : ((i : ℕ) (q : A) → nth rs i ≡ Some q → takes f best q d ≡ false) → Outcome best rs d best
    taken : (r : A) → Governs f rs d r → takes f best r d ≡ true → Outcome best rs d (Some r)

  same_some : {a b : A} → ◌≡◌ {A = Option A} (Some a) (Some b) → a ≡ b
  same_some {a} {b} e = ap the e
    where
      the : Option A → A
      the None = a
      the (Some r) = r

  not_none : {P : Type 0} {a : A} → ◌≡◌ {A = Option A} None (Some a) → P
  not_none e = let z : ◌≡◌ {A = ℕ} 0 1 = ap holds e in absurd (omega arith)
    where
      holds : Option A → ℕ
      holds None = 0
      holds (Some r) = 1

  not_both : {P : Type 0} {a : Bool} → a ≡ true → a ≡ false → P
  not_both e f = let z : ◌≡◌ {A = Bool} true false = sym e ∙ f in absurd (let y : ◌≡◌ {A = ℕ} 0 1 = cc in omega arith)

  -- one more at the front
  module _ (q : A) (rs : List A) (d : ℕ) where
    -- none of the rest is as high
    first_governs : applies (f q) d ≡ true → ((i : ℕ) (p : A) → nth rs i ≡ Some p → takes f (Some q) p d ≡ false) → Governs f (q ∷ rs) d q
    first_governs a h = record { place = 0; listed = refl; on = a; highest = highest; last = last }
      where
        highest : (i : ℕ) (p : A) → nth (q ∷ rs) i ≡ Some p → applies (f p) d ≡ true → not_lower (f q) (f p) ≡ true
        highest zero p e b = rw⁻¹ (same_some e) (higher_self (f q))
        highest (suc i) p e b = higher_turned (f p) (f q) (stays q p d (h i p e) b)

        last : (i : ℕ) (p : A) → 0 < i → nth (q ∷ rs) i ≡ Some p → applies (f p) d ≡ true → not_lower (f p) (f q) ≡ false
        last zero p l e b = absurd (omega arith)
        last (suc i) p l e b = stays q p d (h i p e) b

    -- one of the rest governs and is not lower than the first
    rest_governs : (r : A) → Governs f rs d r → (applies (f q) d ≡ true → not_lower (f r) (f q) ≡ true) → Governs f (q ∷ rs) d r
    rest_governs r g h = record { place = suc g.place; listed = g.listed; on = g.on; highest = highest; last = last }
      where
        highest : (i : ℕ) (p : A) → nth (q ∷ rs) i ≡ Some p → applies (f p) d ≡ true → not_lower (f r) (f p) ≡ true
        highest zero p e b = rw⁻¹ (same_some e) (h (ap (λ (x : A). applies (f x) d) (same_some e) ∙ b))
        highest (suc i) p e b = g.highest i p e b

        last : (i : ℕ) (p : A) → suc g.place < i → nth (q ∷ rs) i ≡ Some p → applies (f p) d ≡ true → not_lower (f p) (f r) ≡ false
        last zero p l e b = absurd (omega arith)
        last (suc i) p l e b = g.last i p (le_of_suc-le-suc l) e b

    kept_first : (best : Option A) {now : Option A} → takes f best q d ≡ false → Outcome best rs d now → Outcome best (q ∷ rs) d now
    kept_first best t (kept h) = kept go
      where
        go : (i : ℕ) (p : A) → nth (q ∷ rs) i ≡ Some p → takes f best p d ≡ false
        go zero p e = ap (λ (x : A). takes f best x d) (sym (same_some e)) ∙ t
        go (suc i) p e = h i p e
    kept_first best t (taken r g u) = taken r (rest_governs r g (takes_above best r q d u t)) u

    taken_first : (best : Option A) {now : Option A} → takes f best q d ≡ true → Outcome (Some q) rs d now → Outcome best (q ∷ rs) d now
    taken_first best t (kept h) = taken q (first_governs (takes_applies best q d t) h) t
    taken_first best t (taken r g u) = taken r (rest_governs r g (λ a. (and_true (applies (f r) d) (not_lower (f r) (f q)) u).1)) (takes_after best q r d t u)

  outcome : (best : Option A) (rs : List A) (d : ℕ) → Outcome best rs d (governing_from f best rs d)
  unfolding governing_from
  outcome best [] d = kept (λ i q e. not_none e)
  outcome best (q ∷ rs) d = go (takes f best q d) refl (outcome best rs d) (outcome (Some q) rs d)
    where
      go : (t : Bool) → takes f best q d ≡ t → Outcome best rs d (governing_from f best rs d) → Outcome (Some q) rs d (governing_from f (Some q) rs d)
          → Outcome best (q ∷ rs) d (governing_from f (cond t (Some q) best) rs d)
      go true t a b = taken_first q rs d best t b
      go false t a b = kept_first q rs d best t a

  -- ---- the laws

  module _ (rs : List A) (d : ℕ) where
    pub governs : (r : A) → governing_of f rs d ≡ Some r → Governs f rs d r
    governs r e = go (outcome None rs d) e
      where
        go : {now : Option A} → Outcome None rs d now → now ≡ Some r → Governs f rs d r
        go (kept h) z = not_none z
        go (taken q g t) z = rw (sym (same_some z)) g

    pub none_governs : governing_of f rs d ≡ None → (i : ℕ) (q : A) → nth rs i ≡ Some q → applies (f q) d ≡ false
    none_governs e i q l = go (outcome None rs d) e
      where
        go : {now : Option A} → Outcome None rs d now → now ≡ None → applies (f q) d ≡ false
        go (kept h) z = h i q l
        go (taken r g t) z = not_none (sym z)

    pub governs_none : ((i : ℕ) (q : A) → nth rs i ≡ Some q → applies (f q) d ≡ false) → governing_of f rs d ≡ None
    governs_none h = go (outcome None rs d)
      where
        go : {now : Option A} → Outcome None rs d now → now ≡ None
        go (kept k) = refl
        go (taken r g t) = not_both g.on (h g.place r g.listed)

    -- of two that govern, none is listed later: it would be lower and not lower
    not_later : (r q : A) (g : Governs f rs d r) (k : Governs f rs d q) → g.place < k.place → ⊥
    not_later r q g k l = not_both (k.highest g.place r g.listed g.on) (g.last k.place q l k.listed k.on)

    pub governs_once : (r q : A) → Governs f rs d r → Governs f rs d q → r ≡ q
    governs_once r q g k = same_some (sym g.listed ∙ ap (nth rs) same_place ∙ k.listed)
      where
        same_place : g.place ≡ k.place
        same_place = let a = not_later r q g k in let b = not_later q r k g in omega arith

    pub governed_by : (r : A) → Governs f rs d r → governing_of f rs d ≡ Some r
    governed_by r g = go (outcome None rs d)
      where
        go : {now : Option A} → Outcome None rs d now → now ≡ Some r
        go (kept h) = not_both g.on (h g.place r g.listed)
        go (taken q k t) = ap Some (governs_once q r k g)

-- ---- what is chosen has the rule that is chosen among the rules

abbrev pub its_rule : {A : Type 0} → (A → Rule) → Option A → Option Rule
its_rule f None = None
its_rule f (Some x) = Some (f x)

module _ {A : Type 0} (f : A → Rule) (d : ℕ) where
  same_takes : (best : Option A) (x : A) → takes f best x d ≡ takes (λ (r : Rule). r) (its_rule f best) (f x) d
  same_takes None x = refl
  same_takes (Some b) x = refl

  rule_from : (best : Option A) (xs : List A) → its_rule f (governing_from f best xs d) ≡ governing_from (λ (r : Rule). r) (its_rule f best) (map f xs) d
  unfolding governing_from
  rule_from best [] = refl
  rule_from best (x ∷ xs) =
      rule_from (cond (takes f best x d) (Some x) best) xs
      ∙ ap (λ (o : Option Rule). governing_from (λ (r : Rule). r) o (map f xs) d) (go (takes f best x d) (same_takes best x))
    where
      go : (t : Bool) {u : Bool} → t ≡ u → its_rule f (cond t (Some x) best) ≡ cond u (Some (f x)) (its_rule f best)
      go true e = rw⁻¹ e
      go false e = rw⁻¹ e

  pub governing_rule_law : (xs : List A) → its_rule f (governing_of f xs d) ≡ governing_rule (map f xs) d
  governing_rule_law xs = rule_from None xs
