-- Point answers: what they hang on, and that a known one is a whole span of a date. Assumes nothing.
use mathlib.Core.Path.{◌≡◌, ap₂}
use mathlib.Core.Logic.{◌⊎◌, inl, inr}
use mathlib.Core.Bool.{Bool, true, false, cond}
use mathlib.Core.List.{List, [], ◌∷◌, ◌++◌}
use Rattle.std.specs.Prelude.{Option, None, Some}
use Prim.Native.Nat.{ℕ, suc, ◌-◌, ◌≤◌, ◌<◌}
use native.Mathlib.Omega.{arith}
use Rattle.zone.specs.Zone.{Zone, date_at}
use Rattle.records.specs.Records.{Rule}
use Rattle.spans.specs.Spans.{Span, look, In}
use Rattle.spans.specs.Timeline.{Part, spans, inside, point_at}
use Rattle.spans.proofs.Lists.{look_found}
use Rattle.day.specs.Days.{Values, Held, venue_by, venue_of, point_of}
use Rattle.day.proofs.Points.{spans_same}

-- answers agree where the governing rules agree on the three dates looked at
pub point_agrees : (z : Zone) (g h : ℕ → Option Rule) (c : Part) (t : ℕ) → g (date_at z t - 1) ≡ h (date_at z t - 1) → g (date_at z t) ≡ h (date_at z t)
    → g (suc (date_at z t)) ≡ h (suc (date_at z t)) → point_at (λ (x : Held). x) (venue_by z g) c t ≡ point_at (λ (x : Held). x) (venue_by z h) c t
unfolding point_at
point_agrees z g h c t a b e =
    let d = date_at z t in
    ap₂ (λ (x y : List (Span Held)). cond (inside c t) (look (λ (q : Held). q) (x ++ y) t) None) (spans_same z g h (d - 1) a)
    (ap₂ ◌++◌ (spans_same z g h d b) (spans_same z g h (suc d) e))

in_append : {A : Type 0} (s : Span A) (xs ys : List (Span A)) → In s (xs ++ ys) → In s xs ⊎ In s ys
in_append s [] ys i = inr i
in_append s (x ∷ xs) ys (inl e) = inl (inl e)
in_append s (x ∷ xs) ys (inr i) = go (in_append s xs ys i)
  where
    go : In s xs ⊎ In s ys → In s (x ∷ xs) ⊎ In s ys
    go (inl j) = inl (inr j)
    go (inr j) = inr j

-- the spans of the three dates
abbrev looked : Values → ℕ → List (Span Held)
looked v t = spans (venue_of v) (date_at v.zone t - 1) ++ (spans (venue_of v) (date_at v.zone t) ++ spans (venue_of v) (suc (date_at v.zone t)))

-- a known point is a whole span of a date and holds the instant: it is clipped by nothing, not even coverage
pub record Whole (v : Values) (t : ℕ) (h : Held) : Type 0 where
  pub date : ℕ
  pub span : Span Held
  pub one : In span (spans (venue_of v) date)
  pub is : span.body ≡ h
  pub begun : span.from ≤ t
  pub going : t < span.to

pub point_whole : (v : Values) (t : ℕ) (h : Held) → point_of v t ≡ Some h → Whole v t h
unfolding point_at
point_whole v t h e = go (inside v.coverage t) e
  where
    none_some : None ≡ Some h → ⊥
    none_some q = let y : ◌≡◌ {A = ℕ} 0 1 = cc in omega arith

    later : (s : Span Held) → s.body ≡ h → s.from ≤ t → t < s.to
        → In s (spans (venue_of v) (date_at v.zone t)) ⊎ In s (spans (venue_of v) (suc (date_at v.zone t))) → Whole v t h
    later s b f l (inl i) = record { date = date_at v.zone t; span = s; one = i; is = b; begun = f; going = l }
    later s b f l (inr i) = record { date = suc (date_at v.zone t); span = s; one = i; is = b; begun = f; going = l }

    first : (s : Span Held) → s.body ≡ h → s.from ≤ t → t < s.to
        → In s (spans (venue_of v) (date_at v.zone t - 1)) ⊎ In s (spans (venue_of v) (date_at v.zone t) ++ spans (venue_of v) (suc (date_at v.zone t))) → Whole v t h
    first s b f l (inl i) = record { date = date_at v.zone t - 1; span = s; one = i; is = b; begun = f; going = l }
    first s b f l (inr i) = later s b f l (in_append s (spans (venue_of v) (date_at v.zone t)) (spans (venue_of v) (suc (date_at v.zone t))) i)

    go : (q : Bool) → cond q (look (λ (x : Held). x) (looked v t) t) None ≡ Some h → Whole v t h
    go true q =
        let f = look_found (λ (x : Held). x) t h (looked v t) q in
        first f.0 f.2 f.3 f.4 (in_append f.0 (spans (venue_of v) (date_at v.zone t - 1)) (spans (venue_of v) (date_at v.zone t) ++ spans (venue_of v) (suc (date_at v.zone t))) f.1)
    go false q = absurd (none_some q)
