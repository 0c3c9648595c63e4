-- The rules near a date govern it as all rules do: one that does not apply never takes the place of another. Assumes nothing.
use mathlib.Core.Path.{◌≡◌, refl, sym, ap, ◌∙◌}
use mathlib.Core.Bool.{Bool, true, false, cond, and-false}
use mathlib.Core.List.{List, [], ◌∷◌}
use Rattle.std.specs.Prelude.{Option, None, Some}
use Prim.Native.Nat.{ℕ, zero, suc, ◌+◌, ◌≤◌, ◌<◌}
use native.Mathlib.Nat.{le_of_suc-le-suc}
use native.Mathlib.Numerals.{add-one}
use native.Mathlib.Omega.{arith}
use borrow.Author.Tests.{leb-false, lt-leb}
use lib.Dec.{leb}
use lib.ListN.{length, get_or, set, drop}
use lib.Seq.{drop-cons, drop-length}
use Rattle.wire.specs.Fields.{wrote}
use Rattle.records.specs.Records.{Rule, rule_at}
use Rattle.venue.specs.Opening.{day_of}
use Rattle.venue.specs.Reading.{ListedRules}
use Rattle.venue.proofs.Passing.{Storing, storing_start, storing_one, storing_end}
use Rattle.day.specs.Governing.{applies, takes, governing_from, governing_place}
use Rattle.day.specs.Narrowing.{meets, near_of}

-- ---- the rules left out

-- a rule with no day from `from` to `to` does not apply on such a day
module _ (r : Rule) {from to d : ℕ} (l : from ≤ d) (h : d ≤ to) where
  not_on : meets r from to ≡ false → applies r d ≡ false
  not_on e = go (leb (day_of r.first) to) refl
    where
      go : (q : Bool) → leb (day_of r.first) to ≡ q → applies r d ≡ false
      go true q =
          let m : leb from (day_of r.last) ≡ false = simp q at e in
          let b = leb-false from (day_of r.last) m in
          simp (lt-leb d (day_of r.last) (omega arith), and-false (leb (day_of r.first) d))
      go false q = let b = leb-false (day_of r.first) to q in simp (lt-leb (day_of r.first) d (omega arith))

module _ (s : List ℕ) {from to d : ℕ} (l : from ≤ d) (h : d ≤ to) where
  never_takes : (best : Option ℕ) (p : ℕ) → meets (rule_at s p) from to ≡ false → takes (rule_at s) best p d ≡ false
  never_takes None p e = not_on (rule_at s p) l h e
  never_takes (Some b) p e = simp (not_on (rule_at s p) l h e)

  near_from : (best : Option ℕ) (ps : List ℕ) → governing_from (rule_at s) best (near_of s ps from to) d ≡ governing_from (rule_at s) best ps d
  unfolding governing_from near_of
  near_from best [] = refl
  near_from best (p ∷ ps) = go (λ b. near_from b ps) (meets (rule_at s p) from to) refl
    where
      go : ((b : Option ℕ) → governing_from (rule_at s) b (near_of s ps from to) d ≡ governing_from (rule_at s) b ps d)
          → (q : Bool) → meets (rule_at s p) from to ≡ q
          → governing_from (rule_at s) best (cond q (p ∷ near_of s ps from to) (near_of s ps from to)) d
          ≡ governing_from (rule_at s) (cond (takes (rule_at s) best p d) (Some p) best) ps d
      go more true q = more (cond (takes (rule_at s) best p d) (Some p) best)
      go more false q = more best ∙ ap (λ (t : Bool). governing_from (rule_at s) (cond t (Some p) best) ps d) (sym (never_takes best p q))

  -- on a day from `from` to `to` the rules near it choose as all do
  pub near_governing : (ps : List ℕ) → governing_place s (near_of s ps from to) d ≡ governing_place s ps d
  near_governing ps = near_from None ps

-- ---- the places

module _ (s : List ℕ) (from to : ℕ) where
  pub near_few : (ps : List ℕ) → length (near_of s ps from to) ≤ length ps
  unfolding near_of
  near_few [] = omega arith
  near_few (p ∷ ps) = go (meets (rule_at s p) from to) (near_few ps)
    where
      go : (q : Bool) → length (near_of s ps from to) ≤ length ps → length (cond q (p ∷ near_of s ps from to) (near_of s ps from to)) ≤ suc (length ps)
      go true m = omega arith
      go false m = omega arith

  pub near_listed : (ps : List ℕ) → ListedRules s ps → ListedRules s (near_of s ps from to)
  unfolding near_of
  near_listed [] a = λ i h. absurd (omega arith)
  near_listed (p ∷ ps) a = go (meets (rule_at s p) from to) (near_listed ps (λ i h. a (suc i) (omega arith)))
    where
      go : (q : Bool) → ListedRules s (near_of s ps from to) → ListedRules s (cond q (p ∷ near_of s ps from to) (near_of s ps from to))
      go true b zero h = a 0 (omega arith)
      go true b (suc i) h = b i (le_of_suc-le-suc h)
      go false b i h = b i h

-- ---- one place after the other

-- those of the places from the i-th on are still to be stored, from n on
pub record Narrowing (s rules : List ℕ) (from to : ℕ) (room now : List ℕ) (n i : ℕ) : Type 0 where
  pub low : i ≤ length rules
  pub behind : n ≤ i
  pub total : n + length (near_of s (drop i rules) from to) ≡ length (near_of s rules from to)
  pub storing : Storing room now n (near_of s rules from to) (near_of s (drop i rules) from to)

module _ {s rules : List ℕ} {from to : ℕ} {room : List ℕ} where
  pub narrow_start : length rules ≤ length room → Narrowing s rules from to room room 0 0
  narrow_start h =
      record {
        low = omega arith;
        behind = omega arith;
        total = omega arith;
        storing = storing_start room (near_of s rules from to) (let f = near_few s from to rules in omega arith);
      }

module _ {s rules : List ℕ} {from to : ℕ} {room now : List ℕ} {n i : ℕ} (c : Narrowing s rules from to room now n i) where
  pub narrowed : length rules ≤ i → (n ≡ length (near_of s rules from to)) × (now ≡ wrote room 0 (near_of s rules from to))
  unfolding near_of
  narrowed h =
      let e : i ≡ length rules = omega (arith, c.low) in
      let gone : near_of s (drop i rules) from to ≡ [] = ap (λ (k : ℕ). near_of s (drop k rules) from to) e ∙ ap (λ (l : List ℕ). near_of s l from to) (drop-length rules) in
      let t = c.total in
      let z = ap length gone in
      (omega arith, storing_end (rw gone at c.storing))

  module _ (h : i < length rules) where
    abbrev here : ℕ
    here = get_or rules i 0

    abbrev rest : List ℕ
    rest = near_of s (drop (i + 1) rules) from to

    one : {t : Bool} → t ≡ meets (rule_at s here) from to → near_of s (drop i rules) from to ≡ cond t (here ∷ rest) rest
    unfolding near_of
    one t =
        let next = near_of s (drop (suc i) rules) from to in
        rw (add-one i) (ap (λ (l : List ℕ). near_of s l from to) (drop-cons rules i 0 h) ∙ ap (λ (q : Bool). cond q (here ∷ next) next) (sym t))

    module _ {t : Bool} (m : t ≡ meets (rule_at s here) from to) where
      near_here : t ≡ true → near_of s (drop i rules) from to ≡ here ∷ rest
      near_here y = one m ∙ ap (λ (q : Bool). cond q (here ∷ rest) rest) y

      pub narrow_room : t ≡ true → n < length now
      narrow_room y = let z = ap length (near_here y) in let f = c.storing.fits in omega arith

      module _ {now' : List ℕ} {n' : ℕ} where
        pub narrow_one : t ≡ true → now' ≡ set now n here → n' ≡ n + 1 → Narrowing s rules from to room now' n' (i + 1)
        narrow_one y e f =
            let z = ap length (near_here y) in
            let a = c.total in
            let b = c.behind in
            rw (e, f) (record { low = omega arith; behind = omega arith; total = omega arith; storing = storing_one here rest (rw (near_here y) at c.storing) })

        pub narrow_none : t ≡ false → now' ≡ now → n' ≡ n → Narrowing s rules from to room now' n' (i + 1)
        narrow_none y e f =
            let g = one m ∙ ap (λ (q : Bool). cond q (here ∷ rest) rest) y in
            let b = c.behind in
            rw (e, f) (record { low = omega arith; behind = omega arith; total = sym (ap (λ (l : List ℕ). n + length l) g) ∙ c.total; storing = rw g at c.storing })
