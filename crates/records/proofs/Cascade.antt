-- The number of a record, test by test. Assumes nothing.
use mathlib.Core.Path.{◌≡◌, refl}
use mathlib.Core.Bool.{Bool, true, false, cond}
use mathlib.Core.List.{List}
use Prim.Native.Nat.{ℕ}
use native.Mathlib.Omega.{arith}
use borrow.Author.Tests.{eqb-true, eqb-false}
use lib.Dec.{eqb}
use Rattle.records.specs.Limits.{Limits}
use Rattle.records.specs.Records.{Record}
use Rattle.records.specs.Book.{refuse, or_then, headless, too_many, outside, late_start, falling, reversed, covers_nothing, too_close, number_of}

-- a test that did not refuse
pub passed : (b : Bool) (n m : ℕ) → (n ≡ 0 → ⊥) → refuse b n m ≡ 0 → (b ≡ false) × (m ≡ 0)
passed true n m nz e = absurd (nz e)
passed false n m nz e = (refl, e)

-- neither of two numbers was given
pub neither : (n m : ℕ) → or_then n m ≡ 0 → (n ≡ 0) × (m ≡ 0)
neither n m e = go (eqb n 0) refl e
  where
    go : (q : Bool) → eqb n 0 ≡ q → cond q m n ≡ 0 → (n ≡ 0) × (m ≡ 0)
    go true h e = (eqb-true n 0 h, e)
    go false h e = absurd (eqb-false n 0 h e)

-- every test of a record passed
pub record Passed (l : Limits) (before : List Record) (r : Record) : Type 0 where
  pub headed : headless before r ≡ false
  pub few : too_many l before r ≡ false
  pub fields : outside l r ≡ false
  pub prompt : late_start r ≡ false
  pub rising : falling r ≡ false
  pub forward : reversed r ≡ false
  pub covering : covers_nothing r ≡ false
  pub apart : too_close before r ≡ false

module _ (l : Limits) (before : List Record) (r : Record) where
  pub passed_all : number_of l before r ≡ 0 → Passed l before r
  unfolding number_of
  passed_all e =
      let a = passed (headless before r) 2 _ (omega arith) e in
      let b = passed (too_many l before r) 3 _ (omega arith) a.1 in
      let c = passed (outside l r) 4 _ (omega arith) b.1 in
      let d = passed (late_start r) 5 _ (omega arith) c.1 in
      let f = passed (falling r) 6 _ (omega arith) d.1 in
      let g = passed (reversed r) 7 _ (omega arith) f.1 in
      let h = passed (covers_nothing r) 8 _ (omega arith) g.1 in
      let i = passed (too_close before r) 9 0 (omega arith) h.1 in
      record {
        headed = a.0;
        few = b.0;
        fields = c.0;
        prompt = d.0;
        rising = f.0;
        forward = g.0;
        covering = h.0;
        apart = i.0;
      }

  pub all_passed : Passed l before r → number_of l before r ≡ 0
  unfolding number_of
  all_passed p = simp (p.headed, p.few, p.fields, p.prompt, p.rising, p.forward, p.covering, p.apart)

  pub number_2 : headless before r ≡ true → number_of l before r ≡ 2
  unfolding number_of
  number_2 e = simp e

  module _ (h2 : headless before r ≡ false) where
    pub number_3 : too_many l before r ≡ true → number_of l before r ≡ 3
    unfolding number_of
    number_3 e = simp (h2, e)

    module _ (h3 : too_many l before r ≡ false) where
      pub number_4 : outside l r ≡ true → number_of l before r ≡ 4
      unfolding number_of
      number_4 e = simp (h2, h3, e)

      module _ (h4 : outside l r ≡ false) where
        pub number_5 : late_start r ≡ true → number_of l before r ≡ 5
        unfolding number_of
        number_5 e = simp (h2, h3, h4, e)

        module _ (h5 : late_start r ≡ false) where
          pub number_6 : falling r ≡ true → number_of l before r ≡ 6
          unfolding number_of
          number_6 e = simp (h2, h3, h4, h5, e)

          module _ (h6 : falling r ≡ false) where
            pub number_7 : reversed r ≡ true → number_of l before r ≡ 7
            unfolding number_of
            number_7 e = simp (h2, h3, h4, h5, h6, e)

            module _ (h7 : reversed r ≡ false) where
              pub number_8 : covers_nothing r ≡ true → number_of l before r ≡ 8
              unfolding number_of
              number_8 e = simp (h2, h3, h4, h5, h6, h7, e)

              pub number_9 : covers_nothing r ≡ false → too_close before r ≡ true → number_of l before r ≡ 9
              unfolding number_of
              number_9 h8 e = simp (h2, h3, h4, h5, h6, h7, h8, e)
