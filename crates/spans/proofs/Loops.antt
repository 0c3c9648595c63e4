-- What a loop that makes a timeline span by span needs: the cursor may move on within a date, joining may amend the last span, and a
-- turn of the walk. Assumes nothing.
use mathlib.Core.Path.{◌≡◌, refl, ap, ◌∙◌}
use mathlib.Core.Bool.{Bool, true, false, cond}
use mathlib.Core.List.{List, [], ◌∷◌, ◌++◌, append_assoc}
use Prim.Native.Nat.{ℕ, suc, ◌≤◌, min, max}
use native.Mathlib.Omega.{arith}
use borrow.Author.Tests.{le-ltb, ltb-true, ltb-false}
use lib.Dec.{ltb}
use Rattle.spans.specs.Spans.{Span, Body, keep, clip, reach, Within, joins, joined_span, join_from}
use Rattle.spans.specs.Timeline.{Venue, midnight, spans, walk}
use Rattle.spans.proofs.Lists.{ordered, reach_within}
use Rattle.spans.proofs.Walking.{here_within}

-- the spans from the cursor on, the cursor moving to the end of each that is kept
unfoldable pub sweep : {A : Type 0} → ℕ → ℕ → List (Span A) → List (Span A)
sweep {A} hi cursor [] = []
sweep {A} hi cursor (s ∷ ss) =
    let a = max cursor s.from in
    let b = min hi s.to in
    let kept : List (Span A) = record { from = a; to = b; body = s.body } ∷ sweep hi b ss in
    let passed : List (Span A) = sweep hi cursor ss in
    cond (ltb a b) kept passed

module _ {A : Type 0} where
  pub clip_from : (a b x y hi : ℕ) (ss : List (Span A)) → x ≤ a → y ≤ a → Within a b ss → clip x hi ss ≡ clip y hi ss
  unfolding clip
  clip_from a b x y hi [] h i w = refl
  clip_from a b x y hi (s ∷ ss) h i w =
      let on = clip_from s.to b x y hi ss (omega arith) (omega arith) w.2 in
      let e : max x s.from ≡ max y s.from = omega arith in
      cc

  pub sweep_clip : (a b hi cursor : ℕ) (ss : List (Span A)) → Within a b ss → sweep hi cursor ss ≡ clip cursor hi ss
  unfolding sweep clip keep
  sweep_clip a b hi cursor [] w = refl
  sweep_clip a b hi cursor (s ∷ ss) w =
      go (ltb (max cursor s.from) (min hi s.to)) refl (sweep_clip s.to b hi cursor ss w.2) (sweep_clip s.to b hi (min hi s.to) ss w.2)
    where
      kept : Span A
      kept = record { from = max cursor s.from; to = min hi s.to; body = s.body }

      go : (q : Bool) → ltb (max cursor s.from) (min hi s.to) ≡ q
          → sweep hi cursor ss ≡ clip cursor hi ss → sweep hi (min hi s.to) ss ≡ clip (min hi s.to) hi ss
          → cond q (kept ∷ sweep hi (min hi s.to) ss) (sweep hi cursor ss) ≡ cond q (kept ∷ clip cursor hi ss) (clip cursor hi ss)
      go true e f g =
          let l = ltb-true (max cursor s.from) (min hi s.to) e in
          ap (λ (r : List (Span A)). kept ∷ r) (g ∙ clip_from s.to b (min hi s.to) cursor hi ss (omega arith) (omega arith) w.2)
      go false e f g = f

-- a span of a date, clipped, or asked for an instant: whether it was empty need not be known
module _ {A : Type 0} (a b : ℕ) (x : A) (rest : List (Span A)) where
  pub clip_keep : (lo hi : ℕ) → clip lo hi (keep a b x rest) ≡ keep (max lo a) (min hi b) x (clip lo hi rest)
  unfolding clip keep
  clip_keep lo hi = go (ltb a b) refl
    where
      go : (q : Bool) → ltb a b ≡ q
          → clip lo hi (cond q (record { from = a; to = b; body = x } ∷ rest) rest) ≡ keep (max lo a) (min hi b) x (clip lo hi rest)
      go true e = refl
      go false e = let l = ltb-false a b e in let z = le-ltb (max lo a) (min hi b) (omega arith) in simp z

module _ {A : Type 0} (B : Body A) (done : List (Span A)) (s r : Span A) (rs : List (Span A)) where
  -- the next span joins the last one, or stands after it
  pub amend : joins B s r ≡ true → done ++ join_from B s (r ∷ rs) ≡ done ++ join_from B (joined_span B s r) rs
  unfolding join_from
  amend e = simp e

  pub stand : joins B s r ≡ false → done ++ join_from B s (r ∷ rs) ≡ (done ++ (s ∷ [])) ++ join_from B r rs
  unfolding join_from
  stand e = simp (e, append_assoc)

module _ {A : Type 0} (v : Venue A) (hi n cursor : ℕ) where
  abbrev pub here : List (Span A)
  here = clip cursor hi (spans v (v.reads cursor))

  abbrev pub next : ℕ
  next = reach (min hi (midnight v (suc (v.reads cursor)))) here

  -- the spans of a turn may be written before it is known whether the walk goes on
  pub turn_any : walk v hi (suc n) cursor ≡ here ++ cond (ltb cursor next) (walk v hi n next) []
  unfolding walk reach
  turn_any = go (ltb cursor next) refl
    where
      none_here : (ss : List (Span A)) (x : ℕ) → Within (min cursor hi) hi ss → reach x ss ≤ cursor → ss ≡ []
      none_here [] x w h = refl
      none_here (s ∷ ss) x w h =
          absurd (omega (arith, ordered s.to hi ss w.2, ordered s.to (reach s.to ss) ss (reach_within s.to hi s.to ss (omega arith) w.2)))

      go : (q : Bool) → ltb cursor next ≡ q → cond q (here ++ walk v hi n next) [] ≡ here ++ cond q (walk v hi n next) []
      go true e = refl
      go false e = let z = none_here here (min hi (midnight v (suc (v.reads cursor)))) (here_within v hi cursor) (ltb-false cursor next e) in rw z
