-- The point answer at an instant of a date, where that date, the one before and the one after fit; and outside coverage. Assumes nothing.
use mathlib.Core.Path.{◌≡◌, ap, ◌∙◌}
use mathlib.Core.Bool.{true, false}
use mathlib.Core.List.{◌++◌}
use Rattle.std.specs.Prelude.{None}
use Prim.Native.Nat.{ℕ, suc, ◌-◌, ◌≤◌, ◌<◌}
use native.Mathlib.Omega.{arith}
use Rattle.spans.specs.Spans.{look}
use Rattle.spans.specs.Timeline.{Venue, Part, midnight, spans, inside, point_at}
use Rattle.spans.proofs.Lists.{before, after, on_left, on_right}
use Rattle.spans.proofs.Walking.{DateFits}

module _ {A : Type 0} (v : Venue A) (c : Part) {C : Type 0} (f : A → C) (t : ℕ) where
  pub point_out : inside c t ≡ false → point_at f v c t ≡ None
  unfolding point_at
  point_out e = rw e

  -- in a date between two others, all three fit
  pub point_in : inside c t ≡ true → (d : ℕ) → 0 < d → DateFits v (d - 1) → DateFits v d → DateFits v (suc d) → midnight v d ≤ t → t < midnight v (suc d)
      → point_at f v c t ≡ look f (spans v d) t
  unfolding point_at
  point_in e d pos yesterday today tomorrow a b =
      let r : v.reads t ≡ d = today.reading t a b in
      let z : suc (d - 1) ≡ d = omega arith in
      rw (e, r)
      (on_right f t (spans v (d - 1)) (spans v d ++ spans v (suc d))
      (after f t (midnight v (d - 1)) (midnight v (suc (d - 1))) (spans v (d - 1)) (omega (arith, ap (midnight v) z)) yesterday.within)
      ∙ on_left f t (spans v d) (spans v (suc d)) (before f t (midnight v (suc d)) (midnight v (suc (suc d))) (spans v (suc d)) b tomorrow.within))
