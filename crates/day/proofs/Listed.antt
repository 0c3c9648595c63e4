-- The rule that governs a date is one of the listed rules, and so is that of every span of a date. Assumes nothing.
use mathlib.Core.Path.{◌≡◌, refl, sym, ap, subst, ◌∙◌}
use mathlib.Core.Logic.{◌⊎◌, inl, inr}
use mathlib.Core.Bool.{Bool, true, false, cond}
use mathlib.Core.List.{List, [], ◌∷◌, map}
use Rattle.std.specs.Prelude.{Option, None, Some}
use Prim.Native.Nat.{ℕ, zero, suc, ◌≤◌, ◌<◌}
use native.Mathlib.Omega.{arith}
use lib.Dec.{ltb}
use lib.ListN.{length, get_or}
use Rattle.zone.specs.Zone.{Zone}
use Rattle.records.specs.Layout.{rule_kind}
use Rattle.records.specs.Limits.{base}
use Rattle.records.specs.Records.{Point, Rule, rule_at}
use Rattle.records.specs.Book.{refusal, records, last_phase}
use Rattle.venue.specs.Opening.{rules_of, rule_places}
use Rattle.venue.specs.Reading.{EachPoint, GoodRule, ListedRule, ListedRules}
use Rattle.venue.proofs.Laws.{good_rule, places_listed, rules_listed}
use Rattle.spans.specs.Spans.{Span, keep, In}
use Rattle.spans.specs.Timeline.{Edge, Venue, raised, cut, of_points, of_rule, spans}
use Rattle.day.specs.Governing.{governing_rule, nth}
use Rattle.day.specs.Days.{Held, venue_by}
use Rattle.day.proofs.Governs.{governs}

-- ---- the rule of a date

-- where a rule stands in a book
pub record Source (s : List ℕ) (r : Rule) : Type 0 where
  pub place : ℕ
  pub listed : ListedRule s place
  pub is : rule_at s place ≡ r

from_places : {A : Type 0} (f : ℕ → A) (ps : List ℕ) (i : ℕ) (r : A) → nth (map f ps) i ≡ Some r → (i < length ps) × (f (get_or ps i 0) ≡ r)
from_places f [] i r e = absurd (let z : ◌≡◌ {A = ℕ} 0 1 = cc in omega arith)
from_places f (p ∷ ps) zero r e = (omega arith, cc)
from_places f (p ∷ ps) (suc i) r e = let on = from_places f ps i r e in (omega arith, on.1)

-- of rules at listed places, and of an accepted book's
pub governing_source : (s rules : List ℕ) → ListedRules s rules → (d : ℕ) (r : Rule) → governing_rule (map (rule_at s) rules) d ≡ Some r → Source s r
governing_source s rules listed d r g =
    let k = governs (λ (x : Rule). x) (map (rule_at s) rules) d r g in
    let on = from_places (rule_at s) rules k.place r k.listed in
    record { place = get_or rules k.place 0; listed = listed k.place on.0; is = on.1 }

pub governing_listed : (s : List ℕ) → refusal base s ≡ 0 → (d : ℕ) (r : Rule) → governing_rule (rules_of (records s)) d ≡ Some r → Source s r
governing_listed s e d r g =
    governing_source s (rule_places s) (places_listed rule_kind s e) d r (ap (λ (rs : List Rule). governing_rule rs d) (rules_listed s e) ∙ g)

pub source_good : (s : List ℕ) (r : Rule) → Source s r → GoodRule r
source_good s r k = subst GoodRule k.is (good_rule s k.place k.listed)

-- ---- the spans of a date

keep_one : {A : Type 0} (x : Span A) (a b : ℕ) (y : A) (rest : List (Span A)) → In x (keep a b y rest) → (x.body ≡ y) ⊎ In x rest
unfolding keep
keep_one {A} x a b y rest = go (ltb a b)
  where
    go : (q : Bool) → In x (cond q (record { from = a; to = b; body = y } ∷ rest) rest) → (x.body ≡ y) ⊎ In x rest
    go true (inl e) = inl (ap (λ (s : Span A). s.body) e)
    go true (inr i) = inr i
    go false i = inr i

-- what a span of a rule holds
pub record Under (r : Rule) (h : Held) : Type 0 where
  pub phase : h.phase ≤ last_phase
  pub rule : h.rule ≡ r

module _ (z : Zone) (g : ℕ → Option Rule) (x : Span Held) where
  abbrev v : Venue Held
  v = venue_by z g

  cut_under : (r : Rule) (s : Edge) (p : ℕ) (qs : List Point) → p ≤ last_phase → EachPoint qs → In x (cut v r s p qs) → Under r x.body
  unfolding cut
  cut_under r s p [] h e i = go (keep_one x s.at end.at (v.body r s p end) [] i)
    where
      end : Edge
      end = raised v s.at (suc s.date) 0

      go : (x.body ≡ v.body r s p end) ⊎ In x [] → Under r x.body
      go (inl q) = record { phase = subst (λ (b : Held). b.phase ≤ last_phase) (sym q) h; rule = ap (λ (b : Held). b.rule) q }
      go (inr j) = absurd j
  cut_under r s p (n ∷ ns) h e i =
      go (keep_one x s.at end.at (v.body r s p end) (cut v r end n.phase ns) i) (cut_under r end n.phase ns e.1 e.2)
    where
      end : Edge
      end = raised v s.at s.date n.time

      go : (x.body ≡ v.body r s p end) ⊎ In x (cut v r end n.phase ns) → (In x (cut v r end n.phase ns) → Under r x.body) → Under r x.body
      go (inl q) on = record { phase = subst (λ (b : Held). b.phase ≤ last_phase) (sym q) h; rule = ap (λ (b : Held). b.rule) q }
      go (inr j) on = on j

  points_under : (r : Rule) (d : ℕ) (ps : List Point) → EachPoint ps → In x (of_points v r d ps) → Under r x.body
  points_under r d [] e i = absurd i
  points_under r d (p ∷ ps) e i = cut_under r (raised v 0 d p.time) p.phase ps e.1 e.2 i

  pub span_under : (d : ℕ) → ((r : Rule) → g d ≡ Some r → EachPoint r.points) → In x (spans v d) → (r : Rule) × (g d ≡ Some r) × Under r x.body
  unfolding spans
  span_under d each = go (g d) refl
    where
      go : (o : Option Rule) → g d ≡ o → In x (of_rule v d o) → (r : Rule) × (g d ≡ Some r) × Under r x.body
      go None e i = absurd i
      go (Some r) e i = (r, e, points_under r d r.points (each r e) i)
