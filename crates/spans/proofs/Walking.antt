-- The walk: its spans are in order, whatever the dates are; over dates that fit, it shows at each instant what the instant's date shows.
-- Assumes nothing.
use mathlib.Core.Path.{◌≡◌, refl, sym, ap, ◌∙◌}
use mathlib.Core.Bool.{Bool, true, false, cond}
use mathlib.Core.List.{List, [], ◌∷◌, ◌++◌}
use Rattle.std.specs.Prelude.{Option, None, Some}
use Prim.Native.Nat.{ℕ, zero, suc, ◌+◌, ◌≤◌, ◌<◌, min}
use native.Mathlib.Decide.{dec_lt}
use native.Mathlib.Omega.{arith}
use borrow.Author.Tests.{lt-ltb, le-ltb, ltb-true}
use lib.Dec.{ltb}
use Rattle.spans.specs.Spans.{Span, clip, reach, look, Within}
use Rattle.records.specs.Records.{Point, Rule}
use Rattle.spans.specs.Timeline.{Edge, Venue, midnight, raised, cut, of_points, of_rule, spans, walk}
use Rattle.spans.proofs.Lists.{append, keep_within, clip_within, reach_within, reach_most, clip_look, before, after, on_left, on_right}

module _ {A : Type 0} (v : Venue A) where
  -- a date's spans are in order
  pub cut_within : (r : Rule) (s : Edge) (p : ℕ) (qs : List Point) → (b : ℕ) × Within s.at b (cut v r s p qs)
  unfolding cut
  cut_within r s p [] =
      let e = raised v s.at (suc s.date) 0 in
      (e.at, keep_within s.at e.at e.at s.at e.at (v.body r s p e) [] (omega arith) (omega arith) (omega arith) (omega arith))
  cut_within r s p (q ∷ qs) =
      let e = raised v s.at s.date q.time in
      let on = cut_within r e q.phase qs in
      (on.0, keep_within s.at e.at on.0 s.at e.at (v.body r s p e) (cut v r e q.phase qs) (omega arith) (omega arith) (omega arith) on.1)

  rule_within : (d : ℕ) (o : Option Rule) → (a : ℕ) × (b : ℕ) × Within a b (of_rule v d o)
  rule_within d None = (0, 0, omega arith)
  rule_within d (Some r) = go r.points
    where
      go : (ps : List Point) → (a : ℕ) × (b : ℕ) × Within a b (of_points v r d ps)
      go [] = (0, 0, omega arith)
      go (p ∷ ps) = let on = cut_within r (raised v 0 d p.time) p.phase ps in ((raised v 0 d p.time).at, on.0, on.1)

  pub spans_within : (d : ℕ) → (a : ℕ) × (b : ℕ) × Within a b (spans v d)
  unfolding spans
  spans_within d = rule_within d (v.governing d)

  abbrev pub here : ℕ → ℕ → List (Span A)
  here hi cursor = clip cursor hi (spans v (v.reads cursor))

  abbrev pub next : ℕ → ℕ → ℕ
  next hi cursor = reach (min hi (midnight v (suc (v.reads cursor)))) (here hi cursor)

  pub here_within : (hi cursor : ℕ) → Within (min cursor hi) hi (here hi cursor)
  here_within hi cursor =
      let w = spans_within (v.reads cursor) in
      clip_within w.0 w.1 (min cursor hi) cursor hi (spans v (v.reads cursor)) (omega arith) (omega arith) w.2

  next_most : (hi cursor : ℕ) → next hi cursor ≤ hi
  next_most hi cursor =
      reach_most (min cursor hi) hi (min hi (midnight v (suc (v.reads cursor)))) (here hi cursor) (omega arith) (here_within hi cursor)

  here_to_next : (hi cursor : ℕ) → cursor < next hi cursor → Within cursor (next hi cursor) (here hi cursor)
  unfolding reach
  here_to_next hi cursor h =
      let w = spans_within (v.reads cursor) in
      let m = next_most hi cursor in
      go (here hi cursor) h (clip_within w.0 w.1 cursor cursor hi (spans v (v.reads cursor)) (omega arith) (omega arith) w.2)
    where
      go : (ss : List (Span A)) → cursor < reach (min hi (midnight v (suc (v.reads cursor)))) ss → Within cursor hi ss
          → Within cursor (reach (min hi (midnight v (suc (v.reads cursor)))) ss) ss
      go [] l u = omega arith
      go (s ∷ ss) l u = (u.0, u.1, reach_within s.to hi s.to ss (omega arith) u.2)

  pub walk_within : (hi n cursor : ℕ) → cursor ≤ hi → Within cursor hi (walk v hi n cursor)
  unfolding walk
  walk_within hi zero cursor h = h
  walk_within hi (suc n) cursor h = go (ltb cursor (next hi cursor)) refl (walk_within hi n (next hi cursor) (next_most hi cursor))
    where
      go : (q : Bool) → ltb cursor (next hi cursor) ≡ q → Within (next hi cursor) hi (walk v hi n (next hi cursor))
          → Within cursor hi (cond q (here hi cursor ++ walk v hi n (next hi cursor)) [])
      go true e on = append cursor (next hi cursor) hi (here hi cursor) (walk v hi n (next hi cursor)) (here_to_next hi cursor (ltb-true _ _ e)) on
      go false e on = h

  pub walk_none : (hi n cursor : ℕ) → hi ≤ cursor → walk v hi n cursor ≡ []
  unfolding walk
  walk_none hi zero cursor h = refl
  walk_none hi (suc n) cursor h =
      let e : ltb cursor (next hi cursor) ≡ false = le-ltb cursor (next hi cursor) (omega (arith, next_most hi cursor)) in
      rw e

  -- what the walk needs of a date
  pub record DateFits (d : ℕ) : Type 0 where
    pub rising : midnight v d ≤ midnight v (suc d)
    pub reading : (t : ℕ) → midnight v d ≤ t → t < midnight v (suc d) → v.reads t ≡ d
    pub within : Within (midnight v d) (midnight v (suc d)) (spans v d)
    pub steps : (lo hi : ℕ) → reach (min hi (midnight v (suc d))) (clip lo hi (spans v d)) ≡ min hi (midnight v (suc d))

  -- the date in which an instant stands
  pub date_of : (k e t : ℕ) → midnight v e ≤ t → t < midnight v (e + k) → (d : ℕ) × (e ≤ d) × (d < e + k) × (midnight v d ≤ t) × (t < midnight v (suc d))
  date_of zero e t a b = let z : e + 0 ≡ e = omega arith in absurd (omega (arith, ap (midnight v) z))
  date_of (suc k) e t a b = go (dec_lt t (midnight v (suc e))) (λ h. date_of k (suc e) t h (omega (arith, ap (midnight v) q)))
    where
      q : e + suc k ≡ suc e + k
      q = omega arith

      go : Dec (t < midnight v (suc e))
          → (midnight v (suc e) ≤ t → (d : ℕ) × (suc e ≤ d) × (d < suc e + k) × (midnight v d ≤ t) × (t < midnight v (suc d)))
          → (d : ℕ) × (e ≤ d) × (d < e + suc k) × (midnight v d ≤ t) × (t < midnight v (suc d))
      go (yes l) f = (e, omega arith, omega arith, a, l)
      go (no l) f = let g = f (omega arith) in (g.0, omega arith, omega arith, g.3, g.4)

  module _ {C : Type 0} (f : A → C) (hi t : ℕ) where
    -- one turn, in the date e
    turn : (e n cursor : ℕ) → DateFits e → midnight v e ≤ cursor → cursor < midnight v (suc e) → cursor ≤ t → t < hi
        → (midnight v (suc e) ≤ t → look f (walk v hi n (min hi (midnight v (suc e)))) t ≡ look f (spans v (v.reads t)) t)
        → look f (walk v hi (suc n) cursor) t ≡ look f (spans v (v.reads t)) t
    unfolding walk
    turn e n cursor fits a b i j on =
        let r : v.reads cursor ≡ e = fits.reading cursor a b in
        let l : ltb cursor (min hi (midnight v (suc e))) ≡ true = lt-ltb cursor (min hi (midnight v (suc e))) (omega arith) in
        rw (r, fits.steps cursor hi, l) (go (dec_lt t (midnight v (suc e))))
      where
        m : ℕ
        m = min hi (midnight v (suc e))

        go : Dec (t < midnight v (suc e)) → look f (clip cursor hi (spans v e) ++ walk v hi n m) t ≡ look f (spans v (v.reads t)) t
        go (yes h) =
            on_left f t (clip cursor hi (spans v e)) (walk v hi n m) (before f t m hi (walk v hi n m) (omega arith) (walk_within hi n m (omega arith)))
            ∙ clip_look f t cursor hi (spans v e) i j
            ∙ ap (λ (d : ℕ). look f (spans v d) t) (sym (fits.reading t (omega arith) h))
        go (no h) =
            on_right f t (clip cursor hi (spans v e)) (walk v hi n m)
            (clip_look f t cursor hi (spans v e) i j ∙ after f t (midnight v e) (midnight v (suc e)) (spans v e) (omega arith) fits.within)
            ∙ on (omega arith)

    pub walk_look : (k n e cursor : ℕ) → k ≤ n → ((d : ℕ) → e ≤ d → d < e + k → DateFits d) → midnight v e ≤ cursor → hi ≤ midnight v (e + k)
        → cursor ≤ t → t < hi
        → look f (walk v hi n cursor) t ≡ look f (spans v (v.reads t)) t
    walk_look zero n e cursor l fits a b i j = let z : e + 0 ≡ e = omega arith in absurd (omega (arith, ap (midnight v) z))
    walk_look (suc k) zero e cursor l fits a b i j = absurd (omega arith)
    walk_look (suc k) (suc n) e cursor l fits a b i j = go (dec_lt cursor (midnight v (suc e)))
        (λ m c o. walk_look k m (suc e) c o (λ d x y. fits d (omega arith) (omega arith)))
      where
        q : e + suc k ≡ suc e + k
        q = omega arith

        go : Dec (cursor < midnight v (suc e))
            → ((m c : ℕ) → k ≤ m → midnight v (suc e) ≤ c → hi ≤ midnight v (suc e + k) → c ≤ t → t < hi → look f (walk v hi m c) t ≡ look f (spans v (v.reads t)) t)
            → look f (walk v hi (suc n) cursor) t ≡ look f (spans v (v.reads t)) t
        go (yes h) g =
            turn e n cursor (fits e (omega arith) (omega arith)) a h i j
            (λ x. g n (min hi (midnight v (suc e))) (omega arith) (omega arith) (omega (arith, ap (midnight v) q)) (omega arith) j)
        go (no h) g = g (suc n) cursor (omega arith) (omega arith) (omega (arith, ap (midnight v) q)) i j
