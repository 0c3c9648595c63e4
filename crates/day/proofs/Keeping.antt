-- The rules that are kept: none at first, then those near a date. Assumes nothing.
use Rattle.std.specs.Prelude.{Option}
use mathlib.Core.Path.{◌≡◌, refl, sym, ap, ap₂, ◌∙◌, subst}
use mathlib.Core.Bool.{Bool, true, false, ◌||◌}
use mathlib.Core.List.{List, [], ◌∷◌, ◌++◌, map, append-nil}
use Prim.Native.Nat.{ℕ, suc, ◌+◌, ◌-◌, ◌≤◌, ◌<◌}
use native.Mathlib.Omega.{arith}
use borrow.Author.Tests.{lt-ltb, le-ltb, ltb-false, leb-false}
use borrow.Rule.Slice.PartMut.{put_mid}
use lib.Dec.{ltb, leb}
use lib.ListN.{length, get_or, set, take, drop}
use lib.Seq.{take-length, drop-length, take-append_seam}
use Rattle.wire.specs.Fields.{wrote}
use Rattle.wire.proofs.Writing.{wrote_length}
use Rattle.records.specs.Limits.{base}
use Rattle.records.specs.Records.{rule_at}
use Rattle.records.proofs.Tests.{or_false}
use Rattle.venue.specs.Reading.{ListedRules}
use Rattle.day.specs.Governing.{governing_rule, governing_place}
use Rattle.day.specs.Narrowing.{near_of}
use Rattle.day.specs.Keeping.{first_day, day_behind, kept_places, stretch, kept_numbers, kept_after, Keeps, KeepsFor, kept_from}
use Rattle.day.specs.Meaning.{ruled, ListedGoverned}
use Rattle.day.proofs.Narrowing.{near_governing, near_few, near_listed}
use Rattle.day.proofs.Choosing.{placed}

-- a blank array keeps no rule for no day
pub keeps_blank : {s rules : List ℕ} (rest : List ℕ) → Keeps s rules (0 ∷ 0 ∷ 0 ∷ rest)
keeps_blank rest = record { fits = omega arith; listed = λ i h. absurd (omega arith); same = λ d h k. absurd (omega arith) }

-- ---- the array as it is stored

-- what was found behind three numbers, of which the last says how many, is one write
pub stored : (old found vs : List ℕ) (x y n : ℕ) → kept_from + length vs ≤ length old → found ≡ wrote (take (length old - kept_from) (drop kept_from old)) 0 vs
    → set (set (set (put_mid 3 (length old - kept_from) old found) 0 x) 1 y) 2 n ≡ wrote old 0 (x ∷ y ∷ n ∷ vs)
unfolding wrote
stored [] found vs x y n l f = absurd (omega arith)
stored (a ∷ []) found vs x y n l f = absurd (omega arith)
stored (a ∷ b ∷ []) found vs x y n l f = absurd (omega arith)
stored (a ∷ b ∷ c ∷ ks) found vs x y n l f =
    let m : length (a ∷ b ∷ c ∷ ks) - kept_from ≡ length ks = omega arith in
    let back = drop (0 + length vs) ks in
    let whole : found ≡ vs ++ back = f ∙ ap (λ (q : List ℕ). wrote q 0 vs) (ap (λ (k : ℕ). take k ks) m ∙ take-length ks) in
    let none = ap (λ (k : ℕ). drop k ks) m ∙ drop-length ks in
    let three : 0 + length (x ∷ y ∷ n ∷ vs) ≡ suc (suc (suc (0 + length vs))) = omega arith in
    ap (λ (q : List ℕ). x ∷ y ∷ n ∷ q)
    (ap₂ (λ (p q : List ℕ). p ++ q) whole none ∙ append-nil (vs ++ back) ∙ sym (ap (λ (k : ℕ). vs ++ drop k (a ∷ b ∷ c ∷ ks)) three))

-- an array with such numbers
record Stored (vs : List ℕ) (x y : ℕ) (a : List ℕ) : Type 0 where
  first : first_day a ≡ x
  behind : day_behind a ≡ y
  count : get_or a 2 0 ≡ length vs
  places : kept_places a ≡ vs

stored_so : (old vs : List ℕ) (x y : ℕ) → kept_from + length vs ≤ length old → Stored vs x y (wrote old 0 (x ∷ y ∷ length vs ∷ vs))
unfolding wrote
stored_so old vs x y l =
    record { first = refl; behind = refl; count = refl; places = take-append_seam vs (drop (0 + length (x ∷ y ∷ length vs ∷ vs)) old) }

-- ---- what it keeps

module _ (s rules a : List ℕ) (d : ℕ) (l : ListedRules s rules) where
  kept_for : kept_from + length rules ≤ length a → KeepsFor s rules d (wrote a 0 (kept_numbers s rules d))
  kept_for h =
      record {
        keeps =
            record {
              fits = omega (arith, f, p.count, wrote_length a 0 (kept_numbers s rules d) (omega (arith, f)));
              listed = subst (ListedRules s) (sym p.places) (near_listed s d (d + stretch - 1) rules l);
              same = λ k h i. ap (λ (ps : List ℕ). governing_place s ps k) p.places
                  ∙ near_governing s (omega (arith, h, p.first)) (omega (arith, i, p.behind)) rules;
            };
        from = omega (arith, p.first);
        before = omega (arith, p.behind);
      }
    where
      vs : List ℕ
      vs = near_of s rules d (d + stretch - 1)

      f : length vs ≤ length rules
      f = near_few s d (d + stretch - 1) rules

      p : Stored vs d (d + stretch) (wrote a 0 (kept_numbers s rules d))
      p = stored_so a vs d (d + stretch) (omega (arith, f))

  -- kept for days of which a date is one
  still : Keeps s rules a → (ltb d (first_day a) || leb (day_behind a) d) ≡ false → KeepsFor s rules d a
  still k e =
      let o = or_false (ltb d (first_day a)) (leb (day_behind a) d) e in
      record { keeps = k; from = ltb-false d (first_day a) o.0; before = leb-false (day_behind a) d o.1 }

  -- the array after the date is asked for
  module _ (few : length rules ≤ base.rules) where
    pub after_anew : (ltb d (first_day a) || leb (day_behind a) d) ≡ true → wrote a 0 (kept_numbers s rules d) ≡ kept_after s rules d a
    unfolding kept_after
    after_anew e = sym (simp (le-ltb base.rules (length rules) few, e))

    pub after_still : (ltb d (first_day a) || leb (day_behind a) d) ≡ false → a ≡ kept_after s rules d a
    unfolding kept_after
    after_still e = sym (simp (le-ltb base.rules (length rules) few, e))

    pub after_keeps : kept_from + base.rules ≤ length a → Keeps s rules a → KeepsFor s rules d (kept_after s rules d a)
    after_keeps h k = go (ltb d (first_day a) || leb (day_behind a) d) refl
      where
        go : (b : Bool) → (ltb d (first_day a) || leb (day_behind a) d) ≡ b → KeepsFor s rules d (kept_after s rules d a)
        go true e = subst (KeepsFor s rules d) (after_anew e) (kept_for (omega arith))
        go false e = subst (KeepsFor s rules d) (after_still e) (still k e)

  pub after_many : base.rules < length rules → a ≡ kept_after s rules d a
  unfolding kept_after
  after_many h = sym (simp (lt-ltb base.rules (length rules) h))

-- ---- the kept places, as a part of the array

abbrev part : List ℕ → List ℕ
part a = take (kept_from + get_or a 2 0 - kept_from) (drop kept_from a)

part_is : (a : List ℕ) → part a ≡ kept_places a
part_is a = let e : kept_from + get_or a 2 0 - kept_from ≡ get_or a 2 0 = omega arith in ap (λ (k : ℕ). take k (drop kept_from a)) e

module _ {s rules a : List ℕ} where
  pub part_listed : Keeps s rules a → ListedRules s (part a)
  part_listed k = subst (ListedRules s) (sym (part_is a)) k.listed

  -- what they choose
  pub part_chosen : {d : ℕ} → KeepsFor s rules d a → (r : Option ℕ) → ListedGoverned s r → r ≡ governing_place s (part a) d
      → (ruled s r ≡ governing_rule (map (rule_at s) rules) d) × ListedGoverned s r × (r ≡ governing_place s rules d)
  part_chosen {d} k r h e =
      let is = e ∙ ap (λ (ps : List ℕ). governing_place s ps d) (part_is a) ∙ k.keeps.same d k.from k.before in
      (placed s rules d r is, h, is)
