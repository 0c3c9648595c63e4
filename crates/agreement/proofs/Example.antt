-- A venue with days of ten instants and no change of offset: every date is plain, so the theorems say something of its windows.
-- Assumes nothing.
use mathlib.Core.Path.{◌≡◌, refl, subst}
use mathlib.Core.Bool.{Bool, true, false, cond}
use Rattle.std.specs.Prelude.{None, Some}
use Prim.Native.Nat.{ℕ, suc, ◌≤◌, ◌<◌}
use native.Mathlib.Omega.{arith}
use lib.Dec.{eqb}
use Rattle.records.specs.Records.{Rule}
use Rattle.spans.specs.Spans.{unknown, look}
use Rattle.spans.specs.Timeline.{midnight, Starts, timeline, point_at}
use Rattle.spans.specs.Examples.{B, r, v, cover, window}
use Rattle.plain.specs.Plain.{PlainDate, PlainWindow, InOrder}
use Rattle.agreement.specs.Agreeing.{Accepted, Agrees}
use Rattle.agreement.proofs.Agreeing.{plain}

date : (d : ℕ) → PlainDate v d
date d = record { rising = omega arith; points = go (eqb d 13); reading = λ t a b. omega arith }
  where
    go : (q : Bool) → InOrder (v.conv d) (midnight v d) (midnight v (suc d)) (cond q None (Some r))
    go true = tt
    go false = omega arith

pub plain_window : PlainWindow v window
plain_window =
    record {
      first = 10;
      count = 6;
      few = omega arith;
      run = λ d a b. date d;
      opens = omega arith;
      closes = omega arith;
      later = omega arith;
      before = date 9;
      after = date 16;
    }

one_rule : (q : Rule) (b : Bool) → cond b None (Some r) ≡ Some q → r ≡ q
one_rule q true g = cc
one_rule q false g = cc

pub accepted : Accepted B v unknown cover
accepted =
    record {
      starts = λ d q g. subst (λ (x : Rule). Starts x.points) (one_rule q (eqb d 13) g) refl;
      shows = λ q s e p. refl;
      merges = λ a b. refl;
      lacks = refl;
      covers = omega arith;
    }

pub agrees : (t : ℕ) → 102 ≤ t → t < 160 → Agrees v cover t (look B.mark (timeline B v unknown cover window) t) (point_at B.mark v cover t)
agrees t a b = plain B v unknown cover window accepted (omega arith) plain_window t a b
