-- Bodies exchanged for others: spans, walks, joined lists and point answers stay where they are. Assumes nothing.
use mathlib.Core.Path.{◌≡◌, refl, sym, ap, ap₂, ◌∙◌}
use mathlib.Core.Bool.{Bool, true, false, cond, ◌&&◌}
use mathlib.Core.List.{List, [], ◌∷◌, ◌++◌, map}
use Rattle.std.specs.Prelude.{Option, None, Some}
use Prim.Native.Nat.{ℕ, zero, suc, ◌-◌, min, max}
use lib.Dec.{ltb, eqb}
use Rattle.records.specs.Records.{Point, Rule}
use Rattle.spans.specs.Spans.{Mark, Span, Body, keep, clip, reach, holds, look, same_mark, joins, joined_span, join_from, joined}
use Rattle.spans.specs.Timeline.{Edge, Venue, midnight, raised, cut, of_points, of_rule, spans, Part, inside, point_at, walk}

module _ {A C : Type 0} (f : A → C) where
  abbrev pub on_span : Span A → Span C
  on_span s = record { from = s.from; to = s.to; body = f s.body }

  abbrev pub on_spans : List (Span A) → List (Span C)
  on_spans ss = map on_span ss

  abbrev pub on_venue : Venue A → Venue C
  on_venue v = record { reads = v.reads; conv = v.conv; governing = v.governing; body = λ r s p e. f (v.body r s p e) }

  pub keep_map : (a b : ℕ) (x : A) (rest : List (Span A)) → on_spans (keep a b x rest) ≡ keep a b (f x) (on_spans rest)
  unfolding keep
  keep_map a b x rest = go (ltb a b)
    where
      go : (q : Bool) → on_spans (cond q (record { from = a; to = b; body = x } ∷ rest) rest) ≡ cond q (record { from = a; to = b; body = f x } ∷ on_spans rest) (on_spans rest)
      go true = refl
      go false = refl

  append_map : (xs ys : List (Span A)) → on_spans (xs ++ ys) ≡ on_spans xs ++ on_spans ys
  append_map [] ys = refl
  append_map (x ∷ xs) ys = ap (λ (l : List (Span C)). on_span x ∷ l) (append_map xs ys)

  clip_map : (lo hi : ℕ) (ss : List (Span A)) → on_spans (clip lo hi ss) ≡ clip lo hi (on_spans ss)
  unfolding clip
  clip_map lo hi [] = refl
  clip_map lo hi (s ∷ ss) =
      keep_map (max lo s.from) (min hi s.to) s.body (clip lo hi ss)
      ∙ ap (keep (max lo s.from) (min hi s.to) (f s.body)) (clip_map lo hi ss)

  reach_map : (x : ℕ) (ss : List (Span A)) → reach x (on_spans ss) ≡ reach x ss
  unfolding reach
  reach_map x [] = refl
  reach_map x (s ∷ ss) = reach_map s.to ss

  module _ (v : Venue A) where
    cut_map : (r : Rule) (s : Edge) (p : ℕ) (qs : List Point) → on_spans (cut v r s p qs) ≡ cut (on_venue v) r s p qs
    unfolding cut
    cut_map r s p [] = keep_map s.at (raised v s.at (suc s.date) 0).at (v.body r s p (raised v s.at (suc s.date) 0)) []
    cut_map r s p (q ∷ qs) =
        let e = raised v s.at s.date q.time in
        keep_map s.at e.at (v.body r s p e) (cut v r e q.phase qs) ∙ ap (keep s.at e.at (f (v.body r s p e))) (cut_map r e q.phase qs)

    pub spans_map : (d : ℕ) → on_spans (spans v d) ≡ spans (on_venue v) d
    unfolding spans
    spans_map d = go (v.governing d)
      where
        points : (r : Rule) (ps : List Point) → on_spans (of_points v r d ps) ≡ of_points (on_venue v) r d ps
        points r [] = refl
        points r (p ∷ ps) = cut_map r (raised v 0 d p.time) p.phase ps

        go : (o : Option Rule) → on_spans (of_rule v d o) ≡ of_rule (on_venue v) d o
        go None = refl
        go (Some r) = points r r.points

    pub walk_map : (hi n cursor : ℕ) → on_spans (walk v hi n cursor) ≡ walk (on_venue v) hi n cursor
    unfolding walk
    walk_map hi zero cursor = refl
    walk_map hi (suc n) cursor =
        go (ltb cursor next) (walk_map hi n next) ∙ ap₂ (λ (x : ℕ) (ss : List (Span C)). cond (ltb cursor x) (ss ++ walk (on_venue v) hi n x) []) same here_same
      where
        d : ℕ
        d = v.reads cursor

        here : List (Span A)
        here = clip cursor hi (spans v d)

        next : ℕ
        next = reach (min hi (midnight v (suc d))) here

        here_same : on_spans here ≡ clip cursor hi (spans (on_venue v) d)
        here_same = clip_map cursor hi (spans v d) ∙ ap (clip cursor hi) (spans_map d)

        same : next ≡ reach (min hi (midnight v (suc d))) (clip cursor hi (spans (on_venue v) d))
        same = sym (reach_map (min hi (midnight v (suc d))) here) ∙ ap (reach (min hi (midnight v (suc d)))) here_same

        go : (q : Bool) → on_spans (walk v hi n next) ≡ walk (on_venue v) hi n next
            → on_spans (cond q (here ++ walk v hi n next) []) ≡ cond q (on_spans here ++ walk (on_venue v) hi n next) []
        go true on = append_map here (walk v hi n next) ∙ ap (λ (l : List (Span C)). on_spans here ++ l) on
        go false on = refl

  -- joining, where the new bodies show what the old ones did and merge as they did
  module _ (B : Body A) (D : Body C) (shows : (a : A) → D.mark (f a) ≡ B.mark a) (merges : (a b : A) → D.merge (f a) (f b) ≡ f (B.merge a b)) where
    pub joins_map : (s r : Span A) → joins D (on_span s) (on_span r) ≡ joins B s r
    joins_map s r = ap₂ (λ (x y : Mark). eqb s.to r.from && same_mark x y) (shows s.body) (shows r.body)

    pub join_from_map : (s : Span A) (ss : List (Span A)) → on_spans (join_from B s ss) ≡ join_from D (on_span s) (on_spans ss)
    unfolding join_from
    join_from_map s [] = refl
    join_from_map s (r ∷ rs) =
        go (joins B s r) (join_from_map (joined_span B s r) rs) (join_from_map r rs)
        ∙ ap₂ (λ (q : Bool) (x : C). cond q (join_from D (record { from = s.from; to = r.to; body = x }) (on_spans rs)) (on_span s ∷ join_from D (on_span r) (on_spans rs)))
        (sym (joins_map s r)) (sym (merges s.body r.body))
      where
        go : (q : Bool) → on_spans (join_from B (joined_span B s r) rs) ≡ join_from D (on_span (joined_span B s r)) (on_spans rs)
            → on_spans (join_from B r rs) ≡ join_from D (on_span r) (on_spans rs)
            → on_spans (cond q (join_from B (joined_span B s r) rs) (s ∷ join_from B r rs))
            ≡ cond q (join_from D (on_span (joined_span B s r)) (on_spans rs)) (on_span s ∷ join_from D (on_span r) (on_spans rs))
        go true one two = one
        go false one two = ap (λ (l : List (Span C)). on_span s ∷ l) two

    pub joined_map : (ss : List (Span A)) → on_spans (joined B ss) ≡ joined D (on_spans ss)
    unfolding joined
    joined_map [] = refl
    joined_map (s ∷ ss) = join_from_map s ss

-- ---- what is shown, by another function of the same bodies, and of exchanged bodies

abbrev pub on_shown : {A C : Type 0} → (A → C) → Option A → Option C
on_shown f None = None
on_shown f (Some x) = Some (f x)

pub look_by : {A C : Type 0} (f : A → C) (ss : List (Span A)) (t : ℕ) → look f ss t ≡ on_shown f (look (λ (x : A). x) ss t)
unfolding look
look_by f [] t = refl
look_by f (s ∷ ss) t = go (holds s t) (look_by f ss t)
  where
    go : (q : Bool) → look f ss t ≡ on_shown f (look (λ x. x) ss t)
        → cond q (Some (f s.body)) (look f ss t) ≡ on_shown f (cond q (Some s.body) (look (λ x. x) ss t))
    go true e = refl
    go false e = e

module _ {A C D : Type 0} (f : A → C) (g : C → D) where
  pub look_map : (ss : List (Span A)) (t : ℕ) → look g (on_spans f ss) t ≡ look (λ (x : A). g (f x)) ss t
  unfolding look
  look_map [] t = refl
  look_map (s ∷ ss) t = ap (cond (holds s t) (Some (g (f s.body)))) (look_map ss t)

-- a point answer of exchanged bodies is that of the old ones, exchanged
pub point_map : {A C D : Type 0} (f : A → C) (g : C → D) (v : Venue A) (c : Part) (t : ℕ)
    → point_at g (on_venue f v) c t ≡ on_shown (λ (x : A). g (f x)) (point_at (λ (x : A). x) v c t)
unfolding point_at
point_map {A} {C} {D} f g v c t = go (inside c t)
  where
    d : ℕ
    d = v.reads t

    three : List (Span A)
    three = spans v (d - 1) ++ (spans v d ++ spans v (suc d))

    exchanged : on_spans f three ≡ spans (on_venue f v) (d - 1) ++ (spans (on_venue f v) d ++ spans (on_venue f v) (suc d))
    exchanged =
        append_map f (spans v (d - 1)) (spans v d ++ spans v (suc d))
        ∙ ap₂ ◌++◌ (spans_map f v (d - 1)) (append_map f (spans v d) (spans v (suc d)) ∙ ap₂ ◌++◌ (spans_map f v d) (spans_map f v (suc d)))

    go : (q : Bool) → cond q (look g (spans (on_venue f v) (d - 1) ++ (spans (on_venue f v) d ++ spans (on_venue f v) (suc d))) t) None
        ≡ on_shown (λ (x : A). g (f x)) (cond q (look (λ (x : A). x) three t) None)
    go true =
        ap (λ (ss : List (Span C)). look g ss t) (sym exchanged) ∙ look_map f g three t ∙ look_by (λ (x : A). g (f x)) three t
    go false = refl
