-- The walk for its users: it goes as document 01 says, and how many spans it can give. Assumes nothing.
use mathlib.Core.Path.{◌≡◌, refl, sym, ap, subst}
use mathlib.Core.Bool.{Bool, true, false, cond}
use mathlib.Core.List.{List, [], ◌∷◌, ◌++◌, map}
use Rattle.std.specs.Prelude.{Option, None, Some}
use Prim.Native.Nat.{ℕ, zero, suc, ◌*◌, ◌≤◌, ◌<◌, min, max}
use native.Mathlib.Omega.{arith}
use borrow.Author.Tests.{lt-ltb, le-ltb, ltb-true, ltb-false}
use lib.Dec.{ltb}
use lib.ListN.{length, length-append}
use Rattle.zone.specs.Zone.{Zone}
use Rattle.records.specs.Limits.{base}
use Rattle.records.specs.Records.{Point, Rule, rule_at}
use Rattle.spans.specs.Spans.{Span, keep, clip, reach, Within}
use Rattle.spans.specs.Timeline.{Edge, Venue, midnight, raised, cut, of_points, of_rule, spans, walk}
use Rattle.spans.proofs.Lists.{ordered, reach_within}
use Rattle.spans.proofs.Walking.{here_within, walk_none}
use Rattle.day.specs.Days.{Held}
use Rattle.day.specs.Governing.{governing_rule}
use Rattle.venue.specs.Reading.{ListedRules}
use Rattle.day.proofs.Listed.{governing_source, source_good}
use Rattle.walk.specs.AsWritten.{if_any, as_written}
use Rattle.walk.specs.Walking.{rest, Begun}
use Rattle.walk.specs.declared.Walk.{Walk}

-- ---- as it is written

module _ {A : Type 0} (v : Venue A) (hi : ℕ) where
  -- one test covers both: whether the turn leads to later
  pub as_written_law : (n cursor : ℕ) → as_written v hi n cursor ≡ walk v hi n cursor
  unfolding as_written walk reach
  as_written_law zero cursor = refl
  as_written_law (suc n) cursor = go (ltb cursor hi) refl (λ c. as_written_law n c)
    where
      m : ℕ
      m = midnight v (suc (v.reads cursor))

      now : List (Span A)
      now = clip cursor hi (spans v (v.reads cursor))

      one : (here : List (Span A)) → cursor < hi → Within cursor hi here → ((c : ℕ) → as_written v hi n c ≡ walk v hi n c)
          → if_any here (here ++ as_written v hi n (reach cursor here)) (cond (ltb cursor m) (as_written v hi n (min hi m)) [])
          ≡ cond (ltb cursor (reach (min hi m) here)) (here ++ walk v hi n (reach (min hi m) here)) []
      one [] h w f = midnights (ltb cursor m) refl
        where
          midnights : (q : Bool) → ltb cursor m ≡ q → cond q (as_written v hi n (min hi m)) [] ≡ cond (ltb cursor (min hi m)) (walk v hi n (min hi m)) []
          midnights true e = let l = ltb-true cursor m e in let o = lt-ltb cursor (min hi m) (omega arith) in rw o (f (min hi m))
          midnights false e = let l = ltb-false cursor m e in let o = le-ltb cursor (min hi m) (omega arith) in rw o
      one (s ∷ ss) h w f =
          let l = ordered s.to (reach s.to ss) ss (reach_within s.to hi s.to ss (omega arith) w.2) in
          let o = lt-ltb cursor (reach s.to ss) (omega arith) in
          rw o (ap (λ (r : List (Span A)). (s ∷ ss) ++ r) (f (reach s.to ss)))

      go : (q : Bool) → ltb cursor hi ≡ q → ((c : ℕ) → as_written v hi n c ≡ walk v hi n c)
          → cond q (if_any now (now ++ as_written v hi n (reach cursor now)) (cond (ltb cursor m) (as_written v hi n (min hi m)) [])) [] ≡ walk v hi (suc n) cursor
      go true e f =
          let h = ltb-true cursor hi e in
          let k : min cursor hi ≡ cursor = omega arith in
          one now h (subst (λ (c : ℕ). Within c hi now) k (here_within v hi cursor)) f
      go false e f = sym (walk_none v hi (suc n) cursor (ltb-false cursor hi e))

-- ---- how many spans

module _ {A : Type 0} where
  keep_length : (a b : ℕ) (x : A) (rest : List (Span A)) → length (keep a b x rest) ≤ suc (length rest)
  unfolding keep
  keep_length a b x rest = go (ltb a b)
    where
      go : (q : Bool) → length (cond q (record { from = a; to = b; body = x } ∷ rest) rest) ≤ suc (length rest)
      go true = omega arith
      go false = omega arith

  clip_length : (lo hi : ℕ) (ss : List (Span A)) → length (clip lo hi ss) ≤ length ss
  unfolding clip
  clip_length lo hi [] = omega arith
  clip_length lo hi (s ∷ ss) =
      omega (arith, keep_length (max lo s.from) (min hi s.to) s.body (clip lo hi ss), clip_length lo hi ss)

module _ {A : Type 0} (v : Venue A) where
  cut_length : (r : Rule) (s : Edge) (p : ℕ) (qs : List Point) → length (cut v r s p qs) ≤ suc (length qs)
  unfolding cut
  cut_length r s p [] = keep_length s.at (raised v s.at (suc s.date) 0).at _ []
  cut_length r s p (q ∷ qs) =
      let e = raised v s.at s.date q.time in
      omega (arith, keep_length s.at e.at (v.body r s p e) (cut v r e q.phase qs), cut_length r e q.phase qs)

  -- every rule that governs has few points
  module _ (few : (d : ℕ) (r : Rule) → v.governing d ≡ Some r → length r.points ≤ base.points) where
    date_length : (d : ℕ) → length (spans v d) ≤ base.points
    unfolding spans
    date_length d = go (v.governing d) refl
      where
        points : (r : Rule) (ps : List Point) → length (of_points v r d ps) ≤ length ps
        points r [] = omega arith
        points r (p ∷ ps) = cut_length r (raised v 0 d p.time) p.phase ps

        go : (o : Option Rule) → v.governing d ≡ o → length (of_rule v d o) ≤ base.points
        go None e = omega arith
        go (Some r) e = omega (arith, points r r.points, few d r e)

    -- a date's in each turn
    pub walk_length : (hi n cursor : ℕ) → length (walk v hi n cursor) ≤ base.points * n
    unfolding walk
    walk_length hi zero cursor = omega arith
    walk_length hi (suc n) cursor = go (ltb cursor next) (walk_length hi n next)
      where
        here : List (Span A)
        here = clip cursor hi (spans v (v.reads cursor))

        next : ℕ
        next = reach (min hi (midnight v (suc (v.reads cursor)))) here

        go : (q : Bool) → length (walk v hi n next) ≤ base.points * n → length (cond q (here ++ walk v hi n next) []) ≤ base.points * suc n
        go true h =
            omega (arith, length-append here (walk v hi n next), clip_length cursor hi (spans v (v.reads cursor)), date_length (v.reads cursor))
        go false h = omega arith

-- what is left of a walk, as it begins
pub rest_length : {s : List ℕ} {z : Zone} {v : Venue Held} {turns cursor : ℕ} {w : Walk} {a : List ℕ}
    → ((d : ℕ) (r : Rule) → v.governing d ≡ Some r → length r.points ≤ base.points) → Begun s z v turns cursor w a
    → (hi : ℕ) → length (rest s z v hi w) ≤ base.points * suc turns
rest_length {v = v} {turns = turns} {cursor = cursor} few b hi =
    rw (b.all hi) (walk_length v few hi (suc turns) cursor)

-- the rules of a book have few points
pub rules_few : (s : List ℕ) (rules : List ℕ) → ListedRules s rules → (d : ℕ) (r : Rule) → governing_rule (map (rule_at s) rules) d ≡ Some r
    → length r.points ≤ base.points
rules_few s rules listed d r e = (source_good s r (governing_source s rules listed d r e)).few
