-- A date's spans stand one behind the other; between its midnights they show a phase everywhere if a rule governs the date, and there are
-- none if not. Assumes nothing.
use mathlib.Core.Path.{◌≡◌, refl, sym, ap, subst, ◌∙◌}
use mathlib.Core.Bool.{Bool, true, false, cond}
use mathlib.Core.List.{List, [], ◌∷◌}
use Rattle.std.specs.Prelude.{Option, None, Some}
use Prim.Native.Nat.{ℕ, suc, ◌≤◌, ◌<◌, min, max}
use native.Mathlib.Decide.{dec_lt}
use native.Mathlib.Omega.{arith}
use borrow.Author.Tests.{ltb-true, ltb-false}
use lib.Dec.{ltb}
use Rattle.spans.specs.Spans.{Mark, phase, Span, keep, clip, reach, look, Within, Tile}
use Rattle.records.specs.Records.{Point, Rule}
use Rattle.spans.specs.Timeline.{Edge, Venue, midnight, raised, last_edge, between, cut, of_points, of_rule, spans, Starts}
use Rattle.spans.proofs.Lists.{keep_in, keep_late}

module _ {A : Type 0} where
  pub keep_tile : (a m b : ℕ) (x : A) (rest : List (Span A)) → a ≤ m → Tile m b rest → Tile a b (keep a m x rest)
  unfolding keep
  keep_tile a m b x rest h w = go (ltb a m) refl
    where
      go : (q : Bool) → ltb a m ≡ q → Tile a b (cond q (record { from = a; to = m; body = x } ∷ rest) rest)
      go true e = (refl, ltb-true a m e, w)
      go false e =
          let l = ltb-false a m e in
          let z : m ≡ a = omega arith in
          subst (λ (k : ℕ). Tile k b rest) z w

  pub tile_within : (a b : ℕ) (ss : List (Span A)) → Tile a b ss → Within a b ss
  tile_within a b [] w = omega arith
  tile_within a b (s ∷ ss) w = (omega arith, omega arith, tile_within s.to b ss w.2)

  -- clipped, they reach to b or to hi
  on_reach : (a b lo hi : ℕ) (ss : List (Span A)) → lo ≤ a → Tile a b ss → reach (min hi a) (clip lo hi ss) ≡ min hi b
  unfolding clip reach keep
  on_reach a b lo hi [] h w = ap (min hi) w
  on_reach a b lo hi (s ∷ ss) h w = go (ltb (max lo s.from) (min hi s.to)) refl (on_reach s.to b lo hi ss (omega arith) w.2)
    where
      go : (q : Bool) → ltb (max lo s.from) (min hi s.to) ≡ q → reach (min hi s.to) (clip lo hi ss) ≡ min hi b
          → reach (min hi a) (cond q (record { from = max lo s.from; to = min hi s.to; body = s.body } ∷ clip lo hi ss) (clip lo hi ss)) ≡ min hi b
      go true e on = on
      go false e on =
          let l = ltb-false (max lo s.from) (min hi s.to) e in
          let z : min hi a ≡ min hi s.to = omega arith in
          rw z on

  pub tile_reach : (a b lo hi : ℕ) (ss : List (Span A)) → Tile a b ss → reach (min hi b) (clip lo hi ss) ≡ min hi b
  unfolding clip reach keep
  tile_reach a b lo hi [] w = refl
  tile_reach a b lo hi (s ∷ ss) w = go (ltb (max lo s.from) (min hi s.to)) refl (tile_reach s.to b lo hi ss w.2)
    where
      go : (q : Bool) → ltb (max lo s.from) (min hi s.to) ≡ q → reach (min hi b) (clip lo hi ss) ≡ min hi b
          → reach (min hi b) (cond q (record { from = max lo s.from; to = min hi s.to; body = s.body } ∷ clip lo hi ss) (clip lo hi ss)) ≡ min hi b
      go true e on =
          let l = ltb-true (max lo s.from) (min hi s.to) e in
          on_reach s.to b lo hi ss (omega arith) w.2
      go false e on = on

module _ {A : Type 0} (v : Venue A) (r : Rule) where
  -- from its first boundary to its last
  pub cut_tiles : (s : Edge) (p : ℕ) (qs : List Point) → Tile s.at (last_edge v s qs).at (cut v r s p qs)
  unfolding cut last_edge
  cut_tiles s p [] =
      let e = raised v s.at (suc s.date) 0 in
      keep_tile s.at e.at e.at (v.body r s p e) [] (omega arith) refl
  cut_tiles s p (q ∷ qs) =
      let e = raised v s.at s.date q.time in
      keep_tile s.at e.at (last_edge v e qs).at (v.body r s p e) (cut v r e q.phase qs) (omega arith) (cut_tiles e q.phase qs)

  -- at each instant of a governed date stands a phase with the rule's evidence
  module _ (mark : A → Mark) (e t : ℕ) (shows : (s n : Edge) (p : ℕ) → mark (v.body r s p n) ≡ phase p e) where
    cut_look : (s : Edge) (p : ℕ) (qs : List Point) → s.at ≤ t → t < midnight v (suc s.date)
        → (k : ℕ) × (look mark (cut v r s p qs) t ≡ Some (phase k e))
    unfolding cut
    cut_look s p [] a b =
        let n = raised v s.at (suc s.date) 0 in
        (p, keep_in mark t s.at n.at (v.body r s p n) [] a (omega arith) ∙ ap Some (shows s n p))
    cut_look s p (q ∷ qs) a b = go (dec_lt t n.at) (λ h. cut_look n q.phase qs h b)
      where
        n : Edge
        n = raised v s.at s.date q.time

        go : Dec (t < n.at) → (n.at ≤ t → (k : ℕ) × (look mark (cut v r n q.phase qs) t ≡ Some (phase k e)))
            → (k : ℕ) × (look mark (between v r s p n (cut v r n q.phase qs)) t ≡ Some (phase k e))
        go (yes l) f = (p, keep_in mark t s.at n.at (v.body r s p n) (cut v r n q.phase qs) a l ∙ ap Some (shows s n p))
        go (no l) f =
            let g = f (omega arith) in
            (g.0, keep_late mark t s.at n.at (v.body r s p n) (cut v r n q.phase qs) (omega arith) ∙ g.1)

-- a governed date's spans run from its first boundary to its last
pub day_tiles : {A : Type 0} (v : Venue A) (d : ℕ) (r : Rule) (p : Point) (ps : List Point) → v.governing d ≡ Some r → r.points ≡ p ∷ ps
    → Tile (v.conv d p.time) (last_edge v (raised v 0 d p.time) ps).at (spans v d)
unfolding spans
day_tiles {A} v d r p ps g e =
    let z : max 0 (v.conv d p.time) ≡ v.conv d p.time = omega arith in
    subst (Tile (v.conv d p.time) (last_edge v (raised v 0 d p.time) ps).at) (sym (ap (of_rule v d) g ∙ ap (of_points v r d) e))
    (subst (λ (x : ℕ). Tile x (last_edge v (raised v 0 d p.time) ps).at (cut v r (raised v 0 d p.time) p.phase ps)) z
    (cut_tiles v r (raised v 0 d p.time) p.phase ps))

module _ {A : Type 0} (v : Venue A) (d : ℕ) where
  module _ (mark : A → Mark) (t : ℕ) (shows : (r : Rule) (s n : Edge) (p : ℕ) → mark (v.body r s p n) ≡ phase p r.evidence) where
    points_look : (r : Rule) (ps : List Point) → Starts ps → midnight v d ≤ t → t < midnight v (suc d)
        → (k : ℕ) × (look mark (of_points v r d ps) t ≡ Some (phase k r.evidence))
    points_look r [] s a b = absurd s
    points_look r (p ∷ ps) s a b = cut_look v r mark r.evidence t (shows r) (raised v 0 d p.time) p.phase ps (omega (arith, ap (v.conv d) s)) b

    pub governed : (r : Rule) → v.governing d ≡ Some r → Starts r.points → midnight v d ≤ t → t < midnight v (suc d)
        → (k : ℕ) × (look mark (spans v d) t ≡ Some (phase k r.evidence))
    unfolding spans
    governed r g s a b = let on = points_look r r.points s a b in (on.0, ap (λ (o : Option Rule). look mark (of_rule v d o) t) g ∙ on.1)

  pub ungoverned : {C : Type 0} (f : A → C) (t : ℕ) → v.governing d ≡ None → look f (spans v d) t ≡ None
  unfolding spans look
  ungoverned f t g = ap (λ (o : Option Rule). look f (of_rule v d o) t) g
