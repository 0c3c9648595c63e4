-- The choice along the places of rules. Assumes nothing.
use mathlib.Core.Path.{◌≡◌, refl, sym, ap, ◌∙◌}
use mathlib.Core.Bool.{Bool, true, false, cond}
use mathlib.Core.List.{List, map}
use Rattle.std.specs.Prelude.{Option, None, Some}
use Prim.Native.Nat.{ℕ, ◌+◌, ◌≤◌, ◌<◌}
use native.Mathlib.Numerals.{add-one}
use native.Mathlib.Omega.{arith}
use lib.ListN.{length, get_or, drop}
use lib.Seq.{drop-cons, drop-length}
use Rattle.records.specs.Records.{rule_at}
use Rattle.venue.specs.Reading.{ListedRules}
use Rattle.day.specs.Governing.{takes, governing_from, governing_rule, governing_place}
use Rattle.day.specs.Meaning.{ListedGoverned, ruled}
use Rattle.day.proofs.Governs.{its_rule, governing_rule_law}

-- choosing from the best so far among those from the i-th on is choosing among all
pub record Choosing (s rules : List ℕ) (d : ℕ) (best : Option ℕ) (i : ℕ) : Type 0 where
  pub low : i ≤ length rules
  pub stands : ListedGoverned s best
  pub same : governing_from (rule_at s) best (drop i rules) d ≡ governing_place s rules d

ruled_by : (s : List ℕ) (r : Option ℕ) → ruled s r ≡ its_rule (rule_at s) r
ruled_by s None = refl
ruled_by s (Some p) = refl

pub choose_start : {s rules : List ℕ} {d : ℕ} → Choosing s rules d None 0
choose_start = record { low = omega arith; stands = tt; same = refl }

-- a place that is chosen has the rule that governs
pub placed : (s rules : List ℕ) (d : ℕ) (r : Option ℕ) → r ≡ governing_place s rules d → ruled s r ≡ governing_rule (map (rule_at s) rules) d
placed s rules d r e = ruled_by s r ∙ ap (its_rule (rule_at s)) e ∙ governing_rule_law (rule_at s) d rules

module _ {s rules : List ℕ} {d : ℕ} {best : Option ℕ} {i : ℕ} (c : Choosing s rules d best i) where
  pub chosen : length rules ≤ i → (ruled s best ≡ governing_rule (map (rule_at s) rules) d) × ListedGoverned s best × (best ≡ governing_place s rules d)
  unfolding governing_from
  chosen h =
      let e : i ≡ length rules = omega (arith, c.low) in
      let none_left = ap (λ (k : ℕ). drop k rules) e ∙ drop-length rules in
      let is = sym (ap (λ (l : List ℕ). governing_from (rule_at s) best l d) none_left) ∙ c.same in
      (placed s rules d best is, c.stands, is)

  module _ (h : i < length rules) where
    abbrev here : ℕ
    here = get_or rules i 0

    step : governing_from (rule_at s) (cond (takes (rule_at s) best here d) (Some here) best) (drop (i + 1) rules) d ≡ governing_place s rules d
    unfolding governing_from
    step = rw (add-one i) (sym (ap (λ (l : List ℕ). governing_from (rule_at s) best l d) (drop-cons rules i 0 h)) ∙ c.same)

    pub choose_one : {now : Option ℕ} {t : Bool} → ListedRules s rules → t ≡ takes (rule_at s) best here d → t ≡ true → now ≡ Some here
        → Choosing s rules d now (i + 1)
    choose_one {now} l t y e =
        rw e
        (record {
          low = omega arith;
          stands = l i h;
          same = ap (λ (q : Bool). governing_from (rule_at s) (cond q (Some here) best) (drop (i + 1) rules) d) (sym y ∙ t) ∙ step;
        })

    pub choose_none : {now : Option ℕ} {t : Bool} → t ≡ takes (rule_at s) best here d → t ≡ false → now ≡ best → Choosing s rules d now (i + 1)
    choose_none {now} t y e =
        rw e
        (record {
          low = omega arith;
          stands = c.stands;
          same = ap (λ (q : Bool). governing_from (rule_at s) (cond q (Some here) best) (drop (i + 1) rules) d) (sym y ∙ t) ∙ step;
        })
