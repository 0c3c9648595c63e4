-- The test of transitions is what they must be. Assumes nothing.
use Rattle.std.proofs.Common.{◌≡◌, ℕ, suc, ◌+◌, ◌*◌, ◌≤◌, Bool, true, false, ◌&&◌, leb, List, [], ◌∷◌, length, refl, ap, ◌∙◌, arith, le-leb, leb-true}
use native.Mathlib.Nat.{suc_inj}
use Rattle.wire.proofs.Signs.{and_true, and_no}
use Rattle.calendar.specs.Answers.{first_day, last_day}
use Rattle.zone.specs.Units.{day_ns, most_offset}
use Rattle.zone.specs.Answers.{Each, After, Spaced, spacing_ns, Valid, valid_from, valid}

abbrev last_at : ℕ
last_at = (last_day + 1) * day_ns

-- the test of one transition
abbrev pub good : ℕ → ℕ → ℕ → Bool
good least a o = (leb least a && leb a last_at) && leb o (2 * most_offset)

pub valid_lengths : (least : ℕ) (ats os : List ℕ) → (length ats ≡ length os → ⊥) → valid_from least ats os ≡ false
valid_lengths least [] [] n = absurd (n refl)
valid_lengths least [] (o ∷ os) n = refl
valid_lengths least (a ∷ ats) [] n = refl
valid_lengths least (a ∷ ats) (o ∷ os) n =
    ap (◌&&◌ (good least a o)) (valid_lengths (a + spacing_ns) ats os (λ e. n (ap suc e))) ∙ and_no (good least a o)

-- ---- the test and the record

-- the next transition, if any, is `least` or later
abbrev pub Begins : ℕ → List ℕ → Type 0
Begins least [] = Unit {0}
Begins least (a ∷ ats) = least ≤ a

follows : (a : ℕ) (ats : List ℕ) → Begins (a + spacing_ns) ats → After a ats
follows a [] b = tt
follows a (c ∷ ats) b = b

leads : (a : ℕ) (ats : List ℕ) → After a ats → Begins (a + spacing_ns) ats
leads a [] b = tt
leads a (c ∷ ats) b = b

opens : (lo hi : ℕ) (ats : List ℕ) → Each lo hi ats → Begins lo ats
opens lo hi [] e = tt
opens lo hi (a ∷ ats) e = e.0

-- what the test passes, from `least` on
pub record From (lo least : ℕ) (ats os : List ℕ) : Type 0 where
  pub alike : length ats ≡ length os
  pub offsets_in : Each 0 (2 * most_offset) os
  pub ats_in : Each lo last_at ats
  pub spaced : Spaced ats
  pub begins : Begins least ats

passes : (lo least : ℕ) (ats os : List ℕ) → lo ≤ least → valid_from least ats os ≡ true → From lo least ats os
passes lo least [] [] h e = record { alike = refl; offsets_in = tt; ats_in = tt; spaced = tt; begins = tt }
passes lo least [] (o ∷ os) h e = absurd (let z : ◌≡◌ {A = ℕ} 0 1 = cc in omega arith)
passes lo least (a ∷ ats) [] h e = absurd (let z : ◌≡◌ {A = ℕ} 0 1 = cc in omega arith)
passes lo least (a ∷ ats) (o ∷ os) h e =
    let both = and_true (good least a o) (valid_from (a + spacing_ns) ats os) e in
    let one = and_true (leb least a && leb a last_at) (leb o (2 * most_offset)) both.0 in
    let two = and_true (leb least a) (leb a last_at) one.0 in
    let l = leb-true least a two.0 in
    let m = leb-true a last_at two.1 in
    let n = leb-true o (2 * most_offset) one.1 in
    let on = passes lo (a + spacing_ns) ats os (omega arith) both.1 in
    record {
      alike = ap suc on.alike;
      offsets_in = (omega arith, n, on.offsets_in);
      ats_in = (omega arith, m, on.ats_in);
      spaced = (follows a ats on.begins, on.spaced);
      begins = l;
    }

holds : (lo least : ℕ) (ats os : List ℕ) → From lo least ats os → valid_from least ats os ≡ true
holds lo least [] [] v = refl
holds lo least [] (o ∷ os) v = absurd (omega (arith, v.alike))
holds lo least (a ∷ ats) [] v = absurd (omega (arith, v.alike))
holds lo least (a ∷ ats) (o ∷ os) v =
    simp
    (le-leb least a v.begins, le-leb a last_at v.ats_in.1, le-leb o (2 * most_offset) v.offsets_in.1)
    (holds lo (a + spacing_ns) ats os
    (record {
      alike = suc_inj v.alike;
      offsets_in = v.offsets_in.2;
      ats_in = v.ats_in.2;
      spaced = v.spaced.1;
      begins = leads a ats v.spaced.0;
    }))

pub valid_yes : (first : ℕ) (ats os : List ℕ) → valid first ats os ≡ true → Valid first ats os
valid_yes first ats os e =
    let both = and_true (leb first (2 * most_offset)) (valid_from (first_day * day_ns) ats os) e in
    let on = passes (first_day * day_ns) (first_day * day_ns) ats os (omega arith) both.1 in
    record {
      alike = on.alike;
      first_in = leb-true first (2 * most_offset) both.0;
      offsets_in = on.offsets_in;
      ats_in = on.ats_in;
      spaced = on.spaced;
    }

pub yes_valid : (first : ℕ) (ats os : List ℕ) → Valid first ats os → valid first ats os ≡ true
yes_valid first ats os v =
    simp (le-leb first (2 * most_offset) v.first_in)
    (holds (first_day * day_ns) (first_day * day_ns) ats os
    (record {
      alike = v.alike;
      offsets_in = v.offsets_in;
      ats_in = v.ats_in;
      spaced = v.spaced;
      begins = opens (first_day * day_ns) last_at ats v.ats_in;
    }))
