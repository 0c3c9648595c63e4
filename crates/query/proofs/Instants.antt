-- A query's instant: in range or not, and the number that it stands for. Assumes nothing.
use mathlib.Core.Path.{◌≡◌, refl, sym, ap, ap₂, ◌∙◌}
use mathlib.Core.Bool.{Bool, true, false, not, cond, ◌||◌}
use Rattle.std.specs.Prelude.{Option, None, Some, Result, Ok, Err}
use Prim.Native.Nat.{ℕ, ◌+◌, ◌-◌, ◌*◌, ◌≤◌, ◌<◌}
use native.Mathlib.Omega.{arith}
use borrow.Author.Tests.{lt-ltb, le-ltb, leb-true, not-false}
use lib.Dec.{ltb}
use lib.IntN.{ℤ, pos, negsuc}
use lib.Signed.{le_z}
use mir.Syntax.{w64}
use mir.Val.{SFits, to_z, of_z}
use mir.ValLaws.{to_z-of_z}
use Rattle.wire.specs.Signs.{half, placed, meant}
use Rattle.wire.proofs.Signs.{and_true, meant_placed, since_meant}
use Rattle.calendar.specs.Answers.{zero_day}
use Rattle.zone.specs.Units.{day_ns, instant_number, instant_of}
use Rattle.zone.specs.declared.Instant.{Instant}
use Rattle.zone.proofs.Domain.{instant_zero, instant_placed}
use Rattle.records.specs.Book.{inside, instants, instants_before, instants_after}
use Rattle.records.proofs.Tests.{outside_test, inside_range}
use Rattle.lend.specs.Refusals.{number_of}
use Rattle.lend.specs.declared.refusal.Refusal.{Refusal}
use Rattle.lend.proofs.Refusals.{refuses, number_once}
use Rattle.query.specs.Judging.{queried, instant_refusal}

abbrev low : ℕ
low = half w64 - instants_before

abbrev high : ℕ
high = half w64 + instants_after

not_true : (b : Bool) → true ≡ not b → b ≡ false
not_true true e = e
not_true false e = refl

or_left : (a b : Bool) → a ≡ true → (a || b) ≡ true
or_left true b e = refl
or_left false b e = absurd (let y : ◌≡◌ {A = ℕ} 0 1 = cc in omega arith)

or_right : (a b : Bool) → b ≡ true → (a || b) ≡ true
or_right true b e = refl
or_right false b e = e

-- what a query at n is answered
abbrev pub answer_to : ℤ → Option ℕ
answer_to n = cond (inside instants n) (Some (instant_of n)) None

-- ---- as the code judges it

module _ (n : ℤ) (f : SFits w64 n) (p : ℕ) (e : p ≡ placed w64 (to_z w64 (of_z w64 n))) where
  is : meant w64 p ≡ n
  is = ap (meant w64) (e ∙ ap (placed w64) (to_z-of_z w64 n f)) ∙ meant_placed w64 n f

  out : (ltb p low || ltb high p) ≡ true → inside instants n ≡ false
  unfolding meant
  out t = ap (inside instants) (sym is) ∙ not_true (inside instants (meant w64 p)) (sym t ∙ outside_test w64 low high p)

  -- the answers to n, where it is outside and where it is in range
  outside : inside instants n ≡ false → (10 ≡ instant_refusal n) × (None ≡ answer_to n)
  outside e = (sym (ap (λ (b : Bool). cond b 0 10) e), sym (ap (λ (b : Bool). cond b (Some (instant_of n)) None) e))

  pub too_early : p < low → (10 ≡ instant_refusal n) × (None ≡ answer_to n)
  too_early h = outside (out (or_left (ltb p low) (ltb high p) (lt-ltb p low h)))

  pub too_late : high < p → (10 ≡ instant_refusal n) × (None ≡ answer_to n)
  too_late h = outside (out (or_right (ltb p low) (ltb high p) (lt-ltb high p h)))

  pub in_range : low ≤ p → p ≤ high → {a : ℕ} → a ≡ instant_of (meant w64 p) → (0 ≡ instant_refusal n) × (Some a ≡ answer_to n)
  unfolding meant
  in_range a b i =
      let t : inside instants (meant w64 p) ≡ true = not-false _ (sym (outside_test w64 low high p) ∙ ap₂ ◌||◌ (le-ltb p low a) (le-ltb high p b)) in
      let z : inside instants n ≡ true = ap (inside instants) (sym is) ∙ t in
      (sym (ap (λ (b : Bool). cond b 0 10) z), ap Some (i ∙ ap instant_of is) ∙ sym (ap (λ (b : Bool). cond b (Some (instant_of n)) None) z))

-- ---- as a caller is told of it

module _ (n : ℤ) (f : SFits w64 n) {r : Result Instant Refusal} (e : queried r ≡ answer_to (to_z w64 (of_z w64 n))) where
  pub asked_outside : {w : Refusal} → r ≡ Err w → inside instants n ≡ false
  asked_outside {w} i = go (inside instants n) (ap queried (sym i) ∙ e ∙ ap answer_to (to_z-of_z w64 n f))
    where
      go : (b : Bool) → None ≡ cond b (Some (instant_of n)) None → b ≡ false
      go true q = absurd (cc)
      go false q = refl

  pub asked_in : {t : Instant} → r ≡ Ok t → (t.0 ≡ instant_of n) × (inside instants n ≡ true)
  asked_in {t} i = go (inside instants n) (ap queried (sym i) ∙ e ∙ ap answer_to (to_z-of_z w64 n f))
    where
      go : (b : Bool) → Some t.0 ≡ cond b (Some (instant_of n)) None → (t.0 ≡ instant_of n) × (b ≡ true)
      go true q = (cc, refl)
      go false q = absurd (cc)

-- the number of one that does not pass
pub number_outside : (n : ℤ) → SFits w64 n → inside instants n ≡ false → {k : ℕ} → k ≡ instant_refusal (to_z w64 (of_z w64 n)) → k ≡ 10
number_outside n f o e = e ∙ ap instant_refusal (to_z-of_z w64 n f) ∙ ap (λ (b : Bool). cond b 0 10) o

-- ---- a number in range

in_fits : (n : ℤ) → inside instants n ≡ true → SFits w64 n
in_fits (pos k) t = record { sfits = omega (arith, leb-true k instants_after (and_true (le_z instants.low (pos k)) (le_z (pos k) instants.high) t).1) }
in_fits (negsuc k) t =
    record { sfits = omega (arith, leb-true k (instants_before - 1) (and_true (le_z instants.low (negsuc k)) (le_z (negsuc k) instants.high) t).0) }

module _ (n : ℤ) (t : inside instants n ≡ true) where
  back : meant w64 (placed w64 n) ≡ n
  back = meant_placed w64 n (in_fits n t)

  placed_low : low ≤ placed w64 n
  unfolding meant
  placed_low = (inside_range w64 low high (placed w64 n) (ap not (ap (inside instants) back ∙ t))).0

  -- its instant means it
  pub instant_meant : meant w64 (instant_of n + instant_zero) ≡ n
  instant_meant =
      let i : instant_of n ≡ placed w64 n - instant_zero =
      ap instant_of (sym back) ∙ since_meant w64 (zero_day * day_ns) (placed w64 n) (omega arith) in
      let j : instant_of n + instant_zero ≡ placed w64 n = omega (arith, placed_low) in
      ap (meant w64) j ∙ back

  pub number_back : instant_number (instant_of n) ≡ n
  number_back = instant_placed (instant_of n) ∙ instant_meant

-- ---- no second answer fits

pub asked_once : (r s : Result Instant Refusal) → number_of r ≡ number_of s → queried r ≡ queried s → r ≡ s
asked_once (Err a) (Err b) n e = ap Err (number_once a b n)
asked_once (Err a) (Ok t) n e = absurd (refuses a n)
asked_once (Ok t) (Err b) n e = absurd (refuses b (sym n))
asked_once (Ok t) (Ok u) n e = let same : t.0 ≡ u.0 = cc in ap (λ (x : ℕ). Ok (record { 0 = x })) same
