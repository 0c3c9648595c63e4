-- A plain date fits the walk: its spans tile it if a rule governs it, and there are none if not. Assumes nothing.
use mathlib.Core.Path.{◌≡◌, refl, sym, ap, subst, ◌∙◌}
use mathlib.Core.List.{List, [], ◌∷◌}
use Rattle.std.specs.Prelude.{Option, None, Some}
use Prim.Native.Nat.{ℕ, suc, min, max}
use native.Mathlib.Omega.{arith}
use Rattle.records.specs.Records.{Point, Rule}
use Rattle.spans.specs.Spans.{clip, reach, Within, Tile}
use Rattle.spans.specs.Timeline.{Edge, Venue, midnight, raised, cut, of_points, of_rule, spans, Starts}
use Rattle.spans.proofs.Dates.{keep_tile, tile_within, tile_reach}
use Rattle.spans.proofs.Walking.{DateFits}
use Rattle.plain.specs.Plain.{Rises, InOrder, PlainDate}

module _ {A : Type 0} (v : Venue A) (r : Rule) where
  cut_tile : (s : Edge) (p : ℕ) (qs : List Point) → Rises (v.conv s.date) s.at (midnight v (suc s.date)) qs
      → Tile s.at (midnight v (suc s.date)) (cut v r s p qs)
  unfolding cut
  cut_tile s p [] h =
      let e = raised v s.at (suc s.date) 0 in
      keep_tile s.at e.at (midnight v (suc s.date)) (v.body r s p e) [] (omega arith) (omega arith)
  cut_tile s p (q ∷ qs) h =
      let e = raised v s.at s.date q.time in
      let z : v.conv s.date q.time ≡ e.at = omega arith in
      keep_tile s.at e.at (midnight v (suc s.date)) (v.body r s p e) (cut v r e q.phase qs) (omega arith)
      (cut_tile e q.phase qs (subst (λ (x : ℕ). Rises (v.conv s.date) x (midnight v (suc s.date)) qs) z h.1))

module _ {A : Type 0} (v : Venue A) (d : ℕ) where
  -- a rule's spans of a plain date, if the rule starts at 00:00
  points_tile : (r : Rule) (ps : List Point) → Starts ps → Rises (v.conv d) (midnight v d) (midnight v (suc d)) ps
      → Tile (midnight v d) (midnight v (suc d)) (of_points v r d ps)
  points_tile r [] s h = absurd s
  points_tile r (p ∷ ps) s h =
      let z : max 0 (v.conv d p.time) ≡ v.conv d p.time = omega arith in
      subst (λ (x : ℕ). Tile x (midnight v (suc d)) (cut v r (raised v 0 d p.time) p.phase ps)) (z ∙ ap (v.conv d) s)
      (cut_tile v r (raised v 0 d p.time) p.phase ps (subst (λ (x : ℕ). Rises (v.conv d) x (midnight v (suc d)) ps) (sym z) h.1))

  -- it fits the walk
  pub fits : ((r : Rule) → v.governing d ≡ Some r → Starts r.points) → PlainDate v d → DateFits v d
  unfolding spans clip reach
  fits starts plain =
      let both = go (v.governing d) refl plain.points in
      record { rising = plain.rising; reading = plain.reading; within = both.0; steps = both.1 }
    where
      go : (o : Option Rule) → v.governing d ≡ o → InOrder (v.conv d) (midnight v d) (midnight v (suc d)) o
          → Within (midnight v d) (midnight v (suc d)) (of_rule v d o)
          × ((lo hi : ℕ) → reach (min hi (midnight v (suc d))) (clip lo hi (of_rule v d o)) ≡ min hi (midnight v (suc d)))
      go None g h = (plain.rising, λ lo hi. refl)
      go (Some r) g h =
          let tile = points_tile r r.points (starts r g) h in (
            tile_within (midnight v d) (midnight v (suc d)) (of_points v r d r.points) tile,
            λ lo hi. tile_reach (midnight v d) (midnight v (suc d)) lo hi (of_points v r d r.points) tile,
          )
