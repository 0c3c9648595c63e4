-- What is left of a walk: hidden spans may be passed over, a span that shows comes first, and where none is left the turn leads on.
-- Assumes nothing.
use Rattle.std.specs.Prelude.{Some, ℕ}
use mathlib.Core.Logic.{◌↔◌}
use mathlib.Core.Path.{◌≡◌, refl, sym, ap, ap₂, ◌∙◌, subst}
use mathlib.Core.Bool.{Bool, true, false, cond, ◌||◌}
use mathlib.Core.List.{List, [], ◌∷◌, ◌++◌}
use Rattle.std.specs.Prelude.{Option, None}
use Prim.Native.Nat.{ℕ, zero, suc, ◌+◌, ◌-◌, ◌≤◌, ◌<◌, min, max}
use native.Mathlib.Decide.{dec_lt}
use native.Mathlib.Numerals.{add-one}
use native.Mathlib.Omega.{arith}
use borrow.Author.Tests.{lt-ltb, le-ltb, leb-true, leb-false, eqb-true, eqb-false}
use lib.Dec.{ltb, leb, eqb}
use lib.ListN.{length, get_or, take, get_or-map}
use lib.Seq.{get_or-take, take-append_seam}
use Rattle.wire.specs.Fields.{wrote}
use Rattle.zone.specs.Zone.{Zone, zone_of, date_at}
use Rattle.zone.specs.Answers.{Valid}
use Rattle.zone.specs.declared.Instant.{Instant}
use Rattle.calendar.specs.declared.Day.{Day}
use Rattle.records.specs.Records.{Rule, rule_at}
use Rattle.venue.specs.Reading.{ListedRule}
use Rattle.spans.specs.Spans.{Span, keep, clip, reach}
use Rattle.spans.specs.Timeline.{Edge, Venue, midnight, of_rule, spans, walk}
use Rattle.spans.proofs.Loops.{clip_from, clip_keep, turn_any}
use Rattle.day.specs.Days.{Held, venue_by}
use Rattle.day.specs.Meaning.{ruled}
use Rattle.day.proofs.Points.{points_same}
use Rattle.walk.specs.Walking.{rule_edges, edge_instants, on_date, onward, rest_with, rest, ClearDate, EdgesKept, WalkStands, held_in, shown_part, end_edge, Showing, Begun, Comes}
use Rattle.walk.specs.declared.Walk.{Walk}
use Rattle.walk.specs.declared.Piece.{Piece}
use Rattle.walk.proofs.Edges.{nowhere, left, edge_at, instant_at, point_at, edges_length, edge_is, edge_end, left_all, left_one, left_within, left_none}
use Rattle.walk.proofs.Near.{short}
use Rattle.walk.proofs.Pieces.{clear_span}

-- ---- the spans of a date, clipped

module _ {A : Type 0} (a b : ℕ) (x : A) (rest : List (Span A)) where
  keep_some : a < b → keep a b x rest ≡ record { from = a; to = b; body = x } ∷ rest
  unfolding keep
  keep_some h = let e = lt-ltb a b h in rw e

  keep_none : b ≤ a → keep a b x rest ≡ rest
  unfolding keep
  keep_none h = let e = le-ltb a b h in rw e

module _ (z : Zone) (r : Rule) (d cursor hi : ℕ) where
  abbrev at : ℕ → ℕ
  at k = instant_at z r d k

  abbrev body_at : ℕ → Held
  body_at k = (venue_by z (λ x. None)).body r (edge_at z r d k) (point_at z r d k).phase (edge_at z r d (suc k))

  at_edge : (k : ℕ) → (edge_at z r d k).at ≡ at k
  at_edge k = sym (get_or-map (λ (e : Edge). e.at) (rule_edges z r d) k nowhere)

  one : (k : ℕ) → k < length r.points
      → clip cursor hi (left z r d k) ≡ keep (max cursor (at k)) (min hi (at (suc k))) (body_at k) (clip cursor hi (left z r d (suc k)))
  one k h =
      ap (clip cursor hi) (left_one z r d k h)
      ∙ clip_keep (edge_at z r d k).at (edge_at z r d (suc k)).at (body_at k) (left z r d (suc k)) cursor hi
      ∙ ap₂ (λ (i j : ℕ). keep (max cursor i) (min hi j) (body_at k) (clip cursor hi (left z r d (suc k)))) (at_edge k) (at_edge (suc k))

  -- hidden ones may be passed over
  passed : (i k m : ℕ) → k + i ≡ m → m ≤ length r.points → ((j : ℕ) → k ≤ j → j < m → min hi (at (j + 1)) ≤ max cursor (at j))
      → clip cursor hi (left z r d k) ≡ clip cursor hi (left z r d m)
  passed zero k m e h f = let q : k ≡ m = omega arith in ap (λ (j : ℕ). clip cursor hi (left z r d j)) q
  passed (suc i) k m e h f =
      let l : min hi (at (suc k)) ≤ max cursor (at k) = subst (λ (j : ℕ). min hi (at j) ≤ max cursor (at k)) (add-one k) (f k (omega arith) (omega arith)) in
      one k (omega arith)
      ∙ keep_none (max cursor (at k)) (min hi (at (suc k))) (body_at k) (clip cursor hi (left z r d (suc k))) l
      ∙ passed i (suc k) m (omega arith) h (λ j x y. f j (omega arith) y)

  -- one that shows comes first, and the cursor may move to its end
  shows : (k : ℕ) → k < length r.points → max cursor (at k) < min hi (at (suc k))
      → clip cursor hi (left z r d k)
      ≡ record { from = max cursor (at k); to = min hi (at (suc k)); body = body_at k } ∷ clip (min hi (at (suc k))) hi (left z r d (suc k))
  shows k h l =
      let w = left_within z r d (suc k) (omega arith) h in
      one k h
      ∙ keep_some (max cursor (at k)) (min hi (at (suc k))) (body_at k) (clip cursor hi (left z r d (suc k))) l
      ∙ ap (λ (ss : List (Span Held)). record { from = max cursor (at k); to = min hi (at (suc k)); body = body_at k } ∷ ss)
      (clip_from (at (suc k)) w.0 cursor (min hi (at (suc k))) hi (left z r d (suc k)) (omega arith) (omega arith) w.1)

-- by equal fields
spans_by : {a a' b b' : ℕ} {x x' : Held} {ss ss' : List (Span Held)} → a ≡ a' → b ≡ b' → x ≡ x' → ss ≡ ss'
    → ◌≡◌ {A = List (Span Held)} (record { from = a; to = b; body = x } ∷ ss) (record { from = a'; to = b'; body = x' } ∷ ss')
spans_by e f g h = cc

-- what a piece says of its span is what the span holds
held_in_law : (s : List ℕ) (z : Zone) (q : Piece) → q.point < length (rule_at s q.rule).points
    → q.start.0 ≡ instant_at z (rule_at s q.rule) q.date.0 q.point → q.end.0 ≡ instant_at z (rule_at s q.rule) q.date.0 (suc q.point)
    → body_at z (rule_at s q.rule) q.date.0 0 0 q.point ≡ held_in s z q
held_in_law s z q h e f =
    ap₂ (λ (x y : Edge). (venue_by z (λ i. None)).body r x (point_at z r d k).phase y)
    (edge_is z r d k h ∙ ap (λ (i : ℕ). record { date = d; time = (point_at z r d k).time; at = i }) (sym e)) (ends (dec_lt (k + 1) (length r.points)))
  where
    r : Rule
    r = rule_at s q.rule

    d : ℕ
    d = q.date.0

    k : ℕ
    k = q.point

    -- where the span ends, by whether a point follows
    ending : Bool → Edge
    ending b = cond b (record { date = d; time = (point_at z r d (k + 1)).time; at = q.end.0 }) (record { date = suc d; time = 0; at = q.end.0 })

    ends : Dec (k + 1 < length r.points) → edge_at z r d (suc k) ≡ end_edge s q
    ends (yes l) =
        edge_is z r d (suc k) (omega arith)
        ∙ ap₂ (λ (i j : ℕ). record { date = d; time = (point_at z r d i).time; at = j }) (sym (add-one k)) (sym f)
        ∙ sym (ap ending (lt-ltb (k + 1) (length r.points) l))
    ends (no l) =
        let m : suc k ≡ length r.points = omega arith in
        ap (edge_at z r d) m ∙ edge_end z r d (omega arith)
        ∙ ap (λ (i : ℕ). record { date = suc d; time = 0; at = i }) (ap (instant_at z r d) (sym m) ∙ sym f)
        ∙ sym (ap ending (le-ltb (k + 1) (length r.points) (omega arith)))

-- ---- a walk on a date with a rule

-- the array has the boundaries
array_at : (a es : List ℕ) → take (length es) a ≡ es → (j : ℕ) → j < length es → get_or a j 0 ≡ get_or es j 0
array_at a es e j h = sym (get_or-take (length es) a j 0 h) ∙ ap (λ (l : List ℕ). get_or l j 0) e

-- a span that shows, of the rest
rest_first : {A : Type 0} (v : Venue A) (hi : ℕ) (w : Walk) (x : Span A) (xs : List (Span A)) (g : Option ℕ) (k : ℕ) (c : Bool) → w.began.0 < x.to
    → rest_with v hi w (x ∷ xs)
    ≡ x ∷ rest_with v hi (record { turns = w.turns; began = w.began; cursor = record { 0 = x.to }; date = w.date; governed = g; next = k; clear = c }) xs
unfolding reach
rest_first {A} v hi w x xs g k c h =
    let q = lt-ltb w.began.0 x.to h in
    ap (λ (b : Bool). x ∷ (xs ++ (let next = reach (cond b x.to (min hi (midnight v (suc w.date.0)))) xs in cond (ltb w.began.0 next) (walk v hi w.turns next) []))) (sym q)

module _ (first : ℕ) (ats os : List ℕ) (good : Valid first ats os) (s : List ℕ) (v : Venue Held) (hi : ℕ) (w : Walk) (a : List ℕ) (p n : ℕ)
    (stands : WalkStands s (zone_of first ats os) w a) (by : w.governed ≡ Some p) (many : n ≡ length (rule_at s p).points) (some_in : 1 ≤ n) where
  abbrev z : Zone
  z = zone_of first ats os

  abbrev r : Rule
  r = rule_at s p

  abbrev cur : ℕ
  cur = w.cursor.0

  abbrev d : ℕ
  d = w.date.0

  kept_by : EdgesKept s z d w.next w.clear (Some p) a
  kept_by = subst (λ (g : Option ℕ). EdgesKept s z d w.next w.clear g a) by stands.kept

  stored : (j : ℕ) → j ≤ n → get_or a j 0 ≡ instant_at z r d j
  stored j h =
      let l = edges_length z r d (omega arith) in
      array_at a (edge_instants z r d) kept_by.2 j (omega arith)

  to_here : (k : ℕ) → Showing a w.next n cur hi k → clip cur hi (on_date s z d w.next w.governed) ≡ clip cur hi (left z r d k)
  to_here k h =
      let f = h.from in
      let m = h.most in
      ap (λ (g : Option ℕ). clip cur hi (on_date s z d w.next g)) by
      ∙ passed z r d cur hi (k - w.next) w.next k (omega arith) (omega arith)
      (λ j x y. subst (λ (i : ℕ). min hi i ≤ max cur (instant_at z r d j)) (stored (j + 1) (omega arith))
      (subst (λ (i : ℕ). min hi (get_or a (j + 1) 0) ≤ max cur i) (stored j (omega arith)) (h.hidden j x y)))

  -- none shows
  pub none_shows : (k : ℕ) → Showing a w.next n cur hi k → n ≤ k → clip cur hi (on_date s z d w.next w.governed) ≡ []
  unfolding clip
  none_shows k h l =
      let m = h.most in
      let q : k ≡ length r.points = omega arith in
      to_here k h ∙ ap (λ (i : ℕ). clip cur hi (left z r d i)) q ∙ ap (clip cur hi) (left_none z r d)

  -- one shows
  module _ (k : ℕ) (h : Showing a w.next n cur hi k) (l : k < n) where
    end_stored : get_or a (k + 1) 0 ≡ instant_at z r d (suc k)
    end_stored = ap (λ (i : ℕ). get_or a i 0) (add-one k) ∙ stored (suc k) l

    module _ (from to start end : ℕ) (e : start ≡ get_or a k 0) (f : end ≡ get_or a (k + 1) 0) (i : from ≡ max cur start) (j : to ≡ min hi end) where
      abbrev piece : Piece
      piece =
          record {
            from = record { 0 = from };
            to = record { 0 = to };
            start = record { 0 = start };
            end = record { 0 = end };
            date = w.date;
            rule = p;
            point = k;
            clear = w.clear;
            turns = w.turns;
            began = w.began;
          }

      start_is : start ≡ instant_at z r d k
      start_is = e ∙ stored k (omega arith)

      end_is : end ≡ instant_at z r d (suc k)
      end_is = f ∙ end_stored

      apart : from < to
      apart = let g = h.shown l in omega (arith, ap (max cur) e, ap (min hi) f)

      from_is : max cur (instant_at z r d k) ≡ from
      from_is = ap (max cur) (sym start_is) ∙ sym i

      to_is : min hi (instant_at z r d (suc k)) ≡ to
      to_is = ap (min hi) (sym end_is) ∙ sym j

      here_is : clip cur hi (on_date s z d w.next w.governed) ≡ shown_part s z piece ∷ clip to hi (left z r d (k + 1))
      here_is =
          to_here k h
          ∙ shows z r d cur hi k (omega arith) (omega (arith, apart, from_is, to_is))
          ∙ spans_by from_is to_is (held_in_law s z piece (omega arith) start_is end_is)
          (ap₂ (λ (m o : ℕ). clip m hi (left z r d o)) to_is (sym (add-one k)))

      pub comes : Comes s z v hi w piece a
      unfolding rest
      comes =
          let g = stands.forward in
          let ready = apart in
          let near = short first ats os good r d (omega arith) k (omega arith) in
          record {
            first =
                ap (rest_with v hi w) here_is
                ∙ rest_first v hi w (shown_part s z piece) (clip to hi (left z r d (k + 1))) (Some p) (k + 1) w.clear (omega arith);
            fits = record { listed = kept_by.0; point = omega arith; shows = apart; short = omega (arith, start_is, end_is, near); clear = λ i. clear_span s z piece (omega arith) (kept_by.3.0 i) };
            stands = record { kept = (kept_by.0, omega arith, kept_by.2, kept_by.3); forward = omega arith };
            turns = refl;
          }

-- ---- a turn that shows no more

-- what is left then
abbrev pub leading : Venue Held → ℕ → ℕ → ℕ → ℕ → ℕ → List (Span Held)
leading v hi turns began cursor date = let next = onward v hi began cursor date in cond (ltb began next) (walk v hi turns next) []

pub leads : (s : List ℕ) (z : Zone) (v : Venue Held) (hi : ℕ) (w : Walk) → clip w.cursor.0 hi (on_date s z w.date.0 w.next w.governed) ≡ []
    → rest s z v hi w ≡ leading v hi w.turns w.began.0 w.cursor.0 w.date.0
unfolding rest reach
leads s z v hi w hidden = ap (rest_with v hi w) hidden

module _ (v : Venue Held) (hi turns began cursor date next : ℕ) (e : next ≡ onward v hi began cursor date) where
  leads_to : leading v hi turns began cursor date ≡ cond (ltb began next) (walk v hi turns next) []
  leads_to = ap (λ (i : ℕ). cond (ltb began i) (walk v hi turns i) []) (sym e)

  pub more : (leb next began || eqb turns 0) ≡ false → (began < next) × (0 < turns)
  more h = go (leb next began) refl (eqb turns 0) refl h
    where
      go : (p : Bool) → leb next began ≡ p → (q : Bool) → eqb turns 0 ≡ q → (p || q) ≡ false → (began < next) × (0 < turns)
      go true x q y i = let n : ◌≡◌ {A = ℕ} 0 1 = cc in absurd (omega arith)
      go false x true y i = let n : ◌≡◌ {A = ℕ} 0 1 = cc in absurd (omega arith)
      go false x false y i = (leb-false next began x, positive turns (eqb-false turns 0 y))
        where
          positive : (t : ℕ) → (t ≡ 0 → ⊥) → 0 < t
          positive t f = omega (arith, f)

  -- to where the walk ends
  pub ends : (leb next began || eqb turns 0) ≡ true → leading v hi turns began cursor date ≡ []
  unfolding walk
  ends h = leads_to ∙ go (leb next began) refl (eqb turns 0) refl h
    where
      go : (p : Bool) → leb next began ≡ p → (q : Bool) → eqb turns 0 ≡ q → (p || q) ≡ true → cond (ltb began next) (walk v hi turns next) [] ≡ []
      go true x q y i = let o = le-ltb began next (leb-true next began x) in rw o
      go false x true y i = ap (λ (m : ℕ). cond (ltb began next) (walk v hi m next) []) (eqb-true turns 0 y) ∙ same (ltb began next)
        where
          same : (b : Bool) → ◌≡◌ {A = List (Span Held)} (cond b [] []) []
          same true = refl
          same false = refl
      go false x false y i = let n : ◌≡◌ {A = ℕ} 0 1 = cc in absurd (omega arith)

  -- to where the next turn begins
  pub goes : (leb next began || eqb turns 0) ≡ false → leading v hi turns began cursor date ≡ walk v hi (suc (turns - 1)) next
  goes h =
      let t = more h in
      let o = lt-ltb began next t.0 in
      let m : turns ≡ suc (turns - 1) = omega arith in
      leads_to ∙ ap₂ (λ (b : Bool) (i : ℕ). cond b (walk v hi i next) []) o m

-- ---- a turn begins

-- a date without a rule, and one whose boundaries are written
pub kept_nothing : (s : List ℕ) (z : Zone) (d : ℕ) (a : List ℕ) {o : (Option ℕ)} → o ≡ None → EdgesKept s z d 0 true o a
kept_nothing s z d a e = subst (λ (g : Option ℕ). EdgesKept s z d 0 true g a) (sym e) refl

pub kept_rule : (s : List ℕ) (z : Zone) (d : ℕ) (a old : List ℕ) (p : ℕ) {o : (Option ℕ)} → o ≡ Some p → ListedRule s p
    → a ≡ wrote old 0 (edge_instants z (rule_at s p) d) → {clear : Bool}
    → ((clear ≡ true) ↔ ClearDate z (rule_at s p) d) → EdgesKept s z d 0 clear o a
unfolding wrote
kept_rule s z d a old p e h w {clear} f =
    subst (λ (g : Option ℕ). EdgesKept s z d 0 clear g a) (sym e)
    (h, omega arith, ap (take (length (edge_instants z (rule_at s p) d))) w ∙ take-append_seam (edge_instants z (rule_at s p) d) _, f)

module _ (s : List ℕ) (z : Zone) (g : ℕ → Option Rule) (t : ℕ) (c : Instant) (d : Day) (o : Option ℕ) (clear : Bool) (a : List ℕ)
    (date : d.0 ≡ date_at z c.0) (rule : ruled s o ≡ g d.0) (kept : EdgesKept s z d.0 0 clear o a) where
  all_spans : on_date s z d.0 0 o ≡ spans (venue_by z g) d.0
  unfolding spans
  all_spans = go o ∙ ap (of_rule (venue_by z g) d.0) rule
    where
      go : (x : Option ℕ) → on_date s z d.0 0 x ≡ of_rule (venue_by z g) d.0 (ruled s x)
      go None = refl
      go (Some p) = sym (left_all z (rule_at s p) d.0) ∙ points_same z (λ x. None) g (rule_at s p) d.0 (rule_at s p).points

  abbrev start : Walk
  start = record { turns = t; began = c; cursor = c; date = d; governed = o; next = 0; clear = clear }

  -- the rest, of where a date ends and its spans
  abbrev by : ℕ → ℕ → List (Span Held) → List (Span Held)
  by hi end here = here ++ (let next = reach end here in cond (ltb c.0 next) (walk (venue_by z g) hi t next) [])

  pub begun : Begun s z (venue_by z g) t c.0 start a
  unfolding rest
  begun =
      record {
        stands = record { kept = kept; forward = omega arith };
        all = λ hi.
            ap (rest_with (venue_by z g) hi start) (ap (clip c.0 hi) all_spans)
            ∙ ap (λ (b : Bool). by hi (cond b c.0 (min hi (midnight (venue_by z g) (suc d.0)))) (clip c.0 hi (spans (venue_by z g) d.0)))
            (le-ltb c.0 c.0 (omega arith))
            ∙ ap (λ (e : ℕ). by hi (min hi (midnight (venue_by z g) (suc e))) (clip c.0 hi (spans (venue_by z g) e))) date
            ∙ sym (turn_any (venue_by z g) hi t c.0);
      }

pub nothing_shows : (s : List ℕ) (z : Zone) (hi : ℕ) (w : Walk) → w.governed ≡ None
    → clip w.cursor.0 hi (on_date s z w.date.0 w.next w.governed) ≡ []
unfolding clip
nothing_shows s z hi w e = ap (λ (g : Option ℕ). clip w.cursor.0 hi (on_date s z w.date.0 w.next g)) e
