-- The span that holds an instant, of a date and of three. Assumes nothing.
use Rattle.std.specs.Prelude.{ℕ}
use Rattle.day.specs.declared.DaySegment.{DaySegment}
use mathlib.Core.Path.{◌≡◌, refl, sym, ap, ◌∙◌, subst}
use mathlib.Core.Bool.{Bool, true, false, cond, ◌&&◌}
use mathlib.Core.List.{List, [], ◌∷◌, ◌++◌, map}
use Rattle.std.specs.Prelude.{Option, None, Some}
use Prim.Native.Nat.{ℕ, suc, ◌+◌, ◌-◌, ◌≤◌, ◌<◌}
use borrow.Author.Tests.{lt-ltb, le-ltb, le-leb, lt-leb, ltb-true}
use lib.Dec.{leb, ltb}
use Rattle.zone.specs.Zone.{Zone}
use Rattle.records.specs.Records.{Point, Rule}
use Rattle.spans.specs.Spans.{Span, keep, holds, look, Within}
use Rattle.spans.specs.Timeline.{Edge, Venue, Part, raised, between, cut, of_points, of_rule, spans, point_at}
use Rattle.spans.proofs.Lists.{before}
use Rattle.spans.proofs.Walking.{spans_within}
use Rattle.day.specs.Days.{Held, venue_by, after, is_known, holding_date}
use Rattle.venue.specs.Reading.{ListedRule}
use Rattle.day.specs.Meaning.{held, held_by, ruled, begun, ChosenAt, ListedGoverned}
use Rattle.day.specs.Governing.{governing_rule, governing_place}
use Rattle.records.specs.Records.{rule_at}
use native.Mathlib.Numerals.{add-one}

-- ---- answers agree where the values agree: spans by a rule do not ask which rule governs

module _ (z : Zone) (g h : ℕ → Option Rule) where
  cut_same : (r : Rule) (s : Edge) (p : ℕ) (qs : List Point) → cut (venue_by z g) r s p qs ≡ cut (venue_by z h) r s p qs
  unfolding cut
  cut_same r s p [] = refl
  cut_same r s p (q ∷ qs) =
      let e = raised (venue_by z g) s.at s.date q.time in
      ap (between (venue_by z g) r s p e) (cut_same r e q.phase qs)

  pub points_same : (r : Rule) (d : ℕ) (ps : List Point) → of_points (venue_by z g) r d ps ≡ of_points (venue_by z h) r d ps
  points_same r d [] = refl
  points_same r d (p ∷ ps) = cut_same r (raised (venue_by z g) 0 d p.time) p.phase ps

  -- the spans of a date hang on the rule that governs it alone
  pub spans_same : (d : ℕ) → g d ≡ h d → spans (venue_by z g) d ≡ spans (venue_by z h) d
  unfolding spans
  spans_same d e = go (g d) ∙ ap (of_rule (venue_by z h) d) e
    where
      go : (o : Option Rule) → of_rule (venue_by z g) d o ≡ of_rule (venue_by z h) d o
      go None = refl
      go (Some r) = points_same r d r.points

-- what is answered for a date: the first of its spans that ends after t, by the rule that governs it
module _ (s places : List ℕ) (z : Zone) (d t : ℕ) where
  abbrev its_spans : List (Span Held)
  its_spans = spans (venue_by z (governing_rule (map (rule_at s) places))) d

  abbrev pub Ending : Option DaySegment → Type 0
  Ending r = (held s r ≡ after t its_spans) × ChosenAt s (governing_place s places d) r

  -- no rule governs the date
  pub day_none : {o : Option ℕ} {r : Option DaySegment} → ruled s o ≡ governing_rule (map (rule_at s) places) d → o ≡ None → r ≡ None → Ending r
  unfolding spans after
  day_none e n q = rw q (sym (ap (λ (x : Option Rule). after t (of_rule (venue_by z (governing_rule (map (rule_at s) places))) d x)) (sym e ∙ ap (ruled s) n)), tt)

  -- one does
  pub day_some : {o : Option ℕ} {p : ℕ} (r : Option DaySegment) → ruled s o ≡ governing_rule (map (rule_at s) places) d → o ≡ governing_place s places d → o ≡ Some p
      → held s r ≡ after t (of_points (venue_by z (λ x. None)) (rule_at s p) d (rule_at s p).points) → ChosenAt s (Some p) r → Ending r
  unfolding spans
  day_some {p = p} r e i y h l = (
    h
        ∙ ap (after t)
        (points_same z (λ x. None) (governing_rule (map (rule_at s) places)) (rule_at s p) d (rule_at s p).points
        ∙ sym (ap (of_rule (venue_by z (governing_rule (map (rule_at s) places))) d) (sym e ∙ ap (ruled s) y))),
    subst (λ (x : Option ℕ). ChosenAt s x r) (sym y ∙ i) l,
  )

pub stands_at : (s : List ℕ) {r : (Option ℕ)} {p : ℕ} → ListedGoverned s r → r ≡ Some p → ListedRule s p
stands_at s h e = subst (ListedGoverned s) e h

-- ---- a span starts where its start boundary stands

abbrev Honest : List (Span Held) → Type 0
Honest [] = Unit {0}
Honest (s ∷ ss) = (s.from ≡ s.body.start.at.0) × Honest ss

module _ (z : Zone) (g : ℕ → Option Rule) where
  keep_honest : (a b : ℕ) (x : Held) (rest : List (Span Held)) → a ≡ x.start.at.0 → Honest rest → Honest (keep a b x rest)
  unfolding keep
  keep_honest a b x rest e h = go (ltb a b)
    where
      go : (q : Bool) → Honest (cond q (record { from = a; to = b; body = x } ∷ rest) rest)
      go true = (e, h)
      go false = h

  cut_honest : (r : Rule) (s : Edge) (p : ℕ) (qs : List Point) → Honest (cut (venue_by z g) r s p qs)
  unfolding cut
  cut_honest r s p [] = keep_honest _ _ _ [] refl tt
  cut_honest r s p (q ∷ qs) =
      keep_honest _ _ _ _ refl (cut_honest r (raised (venue_by z g) s.at s.date q.time) q.phase qs)

  spans_honest : (d : ℕ) → Honest (spans (venue_by z g) d)
  unfolding spans
  spans_honest d = go (g d)
    where
      points : (r : Rule) (ps : List Point) → Honest (of_points (venue_by z g) r d ps)
      points r [] = tt
      points r (p ∷ ps) = cut_honest r (raised (venue_by z g) 0 d p.time) p.phase ps

      go : (o : Option Rule) → Honest (of_rule (venue_by z g) d o)
      go None = tt
      go (Some r) = points r r.points

-- ---- the first span that ends after t, if it has begun, is the one that holds t

abbrev pub begun_held : Option Held → ℕ → Option Held
begun_held None t = None
begun_held (Some h) t = cond (leb h.start.at.0 t) (Some h) None

abbrev same : Held → Held
same h = h

look_after : (lo hi t : ℕ) (ss : List (Span Held)) → Within lo hi ss → Honest ss → look same ss t ≡ begun_held (after t ss) t
unfolding look after
look_after lo hi t [] w o = refl
look_after lo hi t (s ∷ ss) w o =
    go (ltb t s.to) refl (leb s.from t) refl (look_after s.to hi t ss w.2 o.1)
  where
    go : (q : Bool) → ltb t s.to ≡ q → (p : Bool) → leb s.from t ≡ p → look same ss t ≡ begun_held (after t ss) t
        → cond (p && q) (Some s.body) (look same ss t) ≡ begun_held (cond q (Some s.body) (after t ss)) t
    go true e true f more = sym (simp (sym (ap (λ (i : ℕ). leb i t) o.0) ∙ f))
    go true e false f more = before same t s.to hi ss (ltb-true t s.to e) w.2 ∙ sym (simp (sym (ap (λ (i : ℕ). leb i t) o.0) ∙ f))
    go false e true f more = more
    go false e false f more = more

pub look_day : (z : Zone) (g : ℕ → Option Rule) (d t : ℕ)
    → look (λ (h : Held). h) (spans (venue_by z g) d) t ≡ begun_held (after t (spans (venue_by z g) d)) t
look_day z g d t =
    let w = spans_within (venue_by z g) d in
    look_after w.0 w.1 t (spans (venue_by z g) d) w.2 (spans_honest z g d)

-- as the code answers
begun_held_law : (s : List ℕ) (r : Option DaySegment) (t : ℕ) → held s (begun r t) ≡ begun_held (held s r) t
begun_held_law s None t = refl
begun_held_law s (Some g) t = go (leb g.start.at.0 t)
  where
    go : (b : Bool) → held s (cond b (Some g) None) ≡ cond b (Some (held_by s g)) None
    go true = refl
    go false = refl

begun_placed : (s : List ℕ) (o : Option ℕ) (r : Option DaySegment) (t : ℕ) → ChosenAt s o r → ChosenAt s o (begun r t)
begun_placed s o None t p = tt
begun_placed s o (Some g) t p = go (leb g.start.at.0 t)
  where
    go : (b : Bool) → ChosenAt s o (cond b (Some g) None)
    go true = p
    go false = tt

-- the span of a date that holds t, by the rule that governs it
module _ (s places : List ℕ) (v : Venue Held) (d t : ℕ) where
  abbrev pub Found : Option DaySegment → Type 0
  Found r = (held s r ≡ look (λ (h : Held). h) (spans v d) t) × ChosenAt s (governing_place s places d) r

pub found : (s places : List ℕ) (z : Zone) (d t : ℕ) (r : Option DaySegment) {b : Option DaySegment} → Ending s places z d t r → b ≡ begun r t
    → Found s places (venue_by z (governing_rule (map (rule_at s) places))) d t b
found s places z d t r e q =
    rw q (
      begun_held_law s r t ∙ ap (λ (o : Option Held). begun_held o t) e.0 ∙ sym (look_day z (governing_rule (map (rule_at s) places)) d t),
      begun_placed s (governing_place s places d) r t e.1,
    )

-- ---- three dates

abbrev pub or_else : Option Held → Option Held → Option Held
or_else None b = b
or_else (Some h) b = Some h

look_append : (t : ℕ) (xs ys : List (Span Held)) → look same (xs ++ ys) t ≡ or_else (look same xs t) (look same ys t)
unfolding look
look_append t [] ys = refl
look_append t (s ∷ xs) ys = go (holds s t) (look_append t xs ys)
  where
    go : (b : Bool) → look same (xs ++ ys) t ≡ or_else (look same xs t) (look same ys t)
        → cond b (Some s.body) (look same (xs ++ ys) t) ≡ or_else (cond b (Some s.body) (look same xs t)) (look same ys t)
    go true e = refl
    go false e = e

module _ (v : Venue Held) (c : Part) (t : ℕ) where
  abbrev on : ℕ → Option Held
  on d = look (λ (h : Held). h) (spans v d) t

  pub point_before : t < c.start → None ≡ point_at (λ (h : Held). h) v c t
  unfolding point_at
  point_before h = simp (lt-leb c.start t h)

  pub point_behind : c.end ≤ t → None ≡ point_at (λ (h : Held). h) v c t
  unfolding point_at
  point_behind h = go (leb c.start t)
    where
      go : (b : Bool) → None ≡ cond (b && ltb t c.end) (look same (spans v (v.reads t - 1) ++ (spans v (v.reads t) ++ spans v (suc (v.reads t)))) t) None
      go true = simp (le-ltb t c.end h)
      go false = refl

  pub point_inside : c.start ≤ t → t < c.end
      → or_else (on (v.reads t - 1)) (or_else (on (v.reads t)) (on (suc (v.reads t)))) ≡ point_at (λ (h : Held). h) v c t
  unfolding point_at
  point_inside h l =
      sym (simp (le-leb c.start t h, lt-ltb t c.end l)
      (look_append t (spans v (v.reads t - 1)) (spans v (v.reads t) ++ spans v (suc (v.reads t)))
      ∙ ap (or_else (on (v.reads t - 1))) (look_append t (spans v (v.reads t)) (spans v (suc (v.reads t))))))

-- of yesterday, of today, of tomorrow
module _ (s places : List ℕ) (v : Venue Held) (c : Part) (t : ℕ) where
  abbrev pub Told : Option DaySegment → Type 0
  Told r = (held s r ≡ point_at (λ (h : Held). h) v c t) × ChosenAt s (governing_place s places (holding_date v t)) r

  module _ (h : c.start ≤ t) (l : t < c.end) {x d : ℕ} (q : d ≡ v.reads t) (p : x ≡ d - 1) where
    abbrev seen : ℕ → Option Held
    seen i = look (λ (h : Held). h) (spans v i) t

    three : or_else (seen x) (or_else (seen d) (seen (d + 1))) ≡ point_at (λ (h : Held). h) v c t
    three = rw (p, add-one d) (rw q (point_inside v c t h l))

    date : holding_date v t ≡ cond (is_known (seen x)) x (cond (is_known (seen d)) d (d + 1))
    date = rw (p, add-one d) (rw q refl)

    -- the same, where what is found on the first date is known, or on the first two
    after_first : (o : Option Held) → o ≡ seen x
        → (or_else o (or_else (seen d) (seen (d + 1))) ≡ point_at (λ (h : Held). h) v c t) × (holding_date v t ≡ cond (is_known o) x (cond (is_known (seen d)) d (d + 1)))
    after_first o e = rw e (three, date)

    after_second : (o : Option Held) → None ≡ seen x → o ≡ seen d
        → (or_else o (seen (d + 1)) ≡ point_at (λ (h : Held). h) v c t) × (holding_date v t ≡ cond (is_known o) d (d + 1))
    after_second o e f = rw f (after_first None e)

    placed : (r : Option DaySegment) {i : ℕ} → holding_date v t ≡ i → ChosenAt s (governing_place s places i) r
        → ChosenAt s (governing_place s places (holding_date v t)) r
    placed r e k = rw e k

    pub by_first : (g : DaySegment) → Found s places v x t (Some g) → Told (Some g)
    by_first g f = let k = after_first (Some (held_by s g)) f.0 in (k.0, placed (Some g) k.1 f.1)

    pub by_second : (g : DaySegment) → Found s places v x t None → Found s places v d t (Some g) → Told (Some g)
    by_second g e f = let k = after_second (Some (held_by s g)) e.0 f.0 in (k.0, placed (Some g) k.1 f.1)

    pub by_third : (r : Option DaySegment) → Found s places v x t None → Found s places v d t None → Found s places v (d + 1) t r → Told r
    by_third r e f g = let k = after_second None e.0 f.0 in (g.0 ∙ k.0, placed r k.1 g.1)
