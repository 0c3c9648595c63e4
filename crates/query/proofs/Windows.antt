-- A window: which number it gets, and what is known of one that passes. Assumes nothing.
use mathlib.Core.Path.{◌≡◌, refl, sym, ap, ap₂, ◌∙◌}
use mathlib.Core.Bool.{Bool, true, false, not, cond, ◌||◌}
use Rattle.std.specs.Prelude.{Result, Ok, Err}
use Prim.Native.Nat.{ℕ, ◌+◌, ◌<◌}
use native.Mathlib.Omega.{arith}
use borrow.Author.Tests.{lt-ltb, le-ltb, le-leb, lt-leb, leb-false, eqb-true, eqb-false}
use lib.Dec.{ltb, leb, eqb}
use lib.IntN.{ℤ}
use lib.Signed.{lt_z, le_z}
use mir.Syntax.{w64}
use Rattle.wire.proofs.Signs.{order_lt, order_le}
use Rattle.zone.specs.Units.{instant_number, instant_of}
use Rattle.zone.specs.declared.Instant.{Instant}
use Rattle.zone.specs.declared.Interval.{Interval}
use Rattle.zone.proofs.Domain.{instant_zero}
use Rattle.records.specs.Book.{inside, instants, refuse}
use Rattle.lend.specs.Refusals.{number_of, numbered}
use Rattle.lend.specs.declared.refusal.Refusal.{Refusal}
use Rattle.query.specs.Judging.{window_refusal, window_of}
use Rattle.query.proofs.Instants.{instant_meant, number_back}

-- the number by the four tests
abbrev number_by : Bool → Bool → Bool → Bool → ℕ
number_by start_in end_in before not_after = refuse (not start_in || not end_in) 10 (refuse before 11 (refuse not_after 12 0))

abbrev Answer : Type 0
Answer = Result Interval ℕ

-- an instant, placed
abbrev counted : ℤ → ℕ
counted n = instant_of n + instant_zero

module _ (m n : ℤ) where
  abbrev answer : ℕ → Answer
  answer k = cond (eqb k 0) (Ok (record { start = record { 0 = instant_of m }; end = record { 0 = instant_of n } })) (Err k)

  -- ---- as the code judges it

  pub start_outside : {k : ℕ} → k ≡ 10 → inside instants m ≡ false → Err k ≡ window_of m n
  unfolding window_refusal window_of
  start_outside e a = ap Err e ∙ sym (ap (λ (x : Bool). answer (number_by x (inside instants n) (lt_z n m) (le_z n m))) a)

  pub end_outside : {k : ℕ} → k ≡ 10 → inside instants m ≡ true → inside instants n ≡ false → Err k ≡ window_of m n
  unfolding window_refusal window_of
  end_outside e a b = ap Err e ∙ sym (ap₂ (λ (x y : Bool). answer (number_by x y (lt_z n m) (le_z n m))) a b)

  module _ (a : inside instants m ≡ true) (b : inside instants n ≡ true) where
    by_order : window_of m n ≡ answer (number_by true true (lt_z n m) (le_z n m))
    unfolding window_refusal window_of
    by_order = ap₂ (λ (x y : Bool). answer (number_by x y (lt_z n m) (le_z n m))) a b

    -- the order of instants is that of their numbers
    before_is : lt_z n m ≡ ltb (counted n) (counted m)
    before_is = ap₂ lt_z (sym (instant_meant n b)) (sym (instant_meant m a)) ∙ order_lt w64 (counted n) (counted m)

    not_after_is : le_z n m ≡ leb (counted n) (counted m)
    not_after_is = ap₂ le_z (sym (instant_meant n b)) (sym (instant_meant m a)) ∙ order_le w64 (counted n) (counted m)

    pub reversed : instant_of n < instant_of m → Err 11 ≡ window_of m n
    reversed h = sym (by_order ∙ ap (λ (x : Bool). answer (number_by true true x (le_z n m))) (before_is ∙ lt-ltb (counted n) (counted m) (omega arith)))

    pub empty : instant_of n ≡ instant_of m → Err 12 ≡ window_of m n
    empty h =
        sym (by_order ∙ ap₂ (λ (x y : Bool). answer (number_by true true x y)) (before_is ∙ le-ltb (counted n) (counted m) (omega arith)) (not_after_is ∙ le-leb (counted n) (counted m) (omega arith)))

    pub passes : (a b : Instant) → a.0 ≡ instant_of m → b.0 ≡ instant_of n → instant_of m < instant_of n → Ok (record { start = a; end = b }) ≡ window_of m n
    passes a b p q h =
        ap₂ (λ (x y : ℕ). Ok (record { start = record { 0 = x }; end = record { 0 = y } })) p q
        ∙ sym (by_order ∙ ap₂ (λ (x y : Bool). answer (number_by true true x y)) (before_is ∙ le-ltb (counted n) (counted m) (omega arith)) (not_after_is ∙ lt-leb (counted n) (counted m) (omega arith)))

-- ---- as a caller is told of it

pub record Windowed (m n : ℤ) (a b : Instant) : Type 0 where
  pub passed : window_refusal m n ≡ 0
  pub start : a.0 ≡ instant_of m
  pub end : b.0 ≡ instant_of n
  pub order : a.0 < b.0
  pub start_in : inside instants m ≡ true
  pub end_in : inside instants n ≡ true
  pub start_number : instant_number (instant_of m) ≡ m
  pub end_number : instant_number (instant_of n) ≡ n

module _ (m n : ℤ) where
  passed_tests : window_refusal m n ≡ 0 → (inside instants m ≡ true) × (inside instants n ≡ true) × (le_z n m ≡ false)
  unfolding window_refusal
  passed_tests = go (inside instants m) (inside instants n) (lt_z n m) (le_z n m)
    where
      go : (a b c d : Bool) → number_by a b c d ≡ 0 → (a ≡ true) × (b ≡ true) × (d ≡ false)
      go false b c d e = absurd (omega arith)
      go true false c d e = absurd (omega arith)
      go true true true d e = absurd (omega arith)
      go true true false true e = absurd (omega arith)
      go true true false false e = (refl, refl, refl)

  pub window_between : {w : Interval} → Ok w ≡ window_of m n → Windowed m n w.start w.end
  unfolding window_of
  window_between {w} e = go (eqb (window_refusal m n) 0) refl e
    where
      known : window_refusal m n ≡ 0 → w.start.0 ≡ instant_of m → w.end.0 ≡ instant_of n → Windowed m n w.start w.end
      known z p q =
          let t = passed_tests z in
          let l = leb-false (counted n) (counted m) (sym (not_after_is m n t.0 t.1) ∙ t.2) in
          record {
            passed = z;
            start = p;
            end = q;
            order = omega (arith, l);
            start_in = t.0;
            end_in = t.1;
            start_number = number_back m t.0;
            end_number = number_back n t.1;
          }

      go : (x : Bool) → eqb (window_refusal m n) 0 ≡ x
          → ◌≡◌ {A = Answer} (Ok w) (cond x (Ok (record { start = record { 0 = instant_of m }; end = record { 0 = instant_of n } })) (Err (window_refusal m n)))
          → Windowed m n w.start w.end
      go true i q =
          let s : w ≡ record { start = record { 0 = instant_of m }; end = record { 0 = instant_of n } } = cc in
          known (eqb-true (window_refusal m n) 0 i) (ap (λ (x : Interval). x.start.0) s) (ap (λ (x : Interval). x.end.0) s)
      go false i q = absurd (cc)

  pub window_refused : {k : ℕ} → Err k ≡ window_of m n → (k ≡ window_refusal m n) × (k ≡ 0 → ⊥)
  unfolding window_of
  window_refused {k} e = go (eqb (window_refusal m n) 0) refl e
    where
      go : (x : Bool) → eqb (window_refusal m n) 0 ≡ x
          → ◌≡◌ {A = Answer} (Err k) (cond x (Ok (record { start = record { 0 = instant_of m }; end = record { 0 = instant_of n } })) (Err (window_refusal m n)))
          → (k ≡ window_refusal m n) × (k ≡ 0 → ⊥)
      go true i q = absurd (cc)
      go false i q = let r : k ≡ window_refusal m n = cc in (r, λ z. eqb-false (window_refusal m n) 0 i (sym r ∙ z))

  -- an answer and its number
  pub window_told : (r : Result Interval Refusal) → numbered r ≡ window_of m n → (number_of r ≡ window_refusal m n) × (numbered r ≡ window_of m n)
  window_told (Ok w) e = (sym (window_between e).passed, e)
  window_told (Err k) e = ((window_refused e).0, e)
