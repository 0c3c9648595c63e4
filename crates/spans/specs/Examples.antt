-- The definitions computed. Days of 10 from 100 on, offset 0; dates 11 and 12 have a rule, 13 has none.
use Rattle.std.specs.Prelude.{◌≡◌, refl, cond, List, [], ◌∷◌, ◌+◌, ◌*◌, ◌/◌, eqb, pos}
use Rattle.std.specs.Prelude.{None, Some}
use Rattle.spans.specs.Spans
use Rattle.spans.specs.Spans.{Mark, phase, unknown, Span, Body, look}
use Rattle.spans.specs.Timeline
use Rattle.records.specs.Records.{Rule}
use Rattle.spans.specs.Timeline.{Venue, Part, timeline, point_at}

abbrev pub B : Body Mark
B = record { mark = λ m. m; merge = λ a b. a }

abbrev pub r : Rule
r =
    record {
      first = pos 0;
      last = pos 0;
      code = 0;
      mask = 127;
      label = 0;
      evidence = 1;
      derived = 0;
      uncertainty = record { tag = 0; nanoseconds = pos 0; text = 0 };
      points = record { time = 0; phase = 0 } ∷ record { time = 4; phase = 3 } ∷ record { time = 7; phase = 0 } ∷ [];
    }

abbrev pub v : Venue Mark
v = record {
  reads = λ t. t / 10;
  conv = λ d x. d * 10 + x;
  governing = λ d. cond (eqb d 13) None (Some r);
  body = λ q s p e. phase p q.evidence;
}

abbrev pub cover : Part
cover = record { start = 105; end = 155 }

abbrev pub window : Part
window = record { start = 102; end = 160 }

abbrev tl : List (Span Mark)
tl = timeline B v unknown cover window

tl_is : tl ≡ (
    record { from = 102; to = 105; body = unknown } ∷ record { from = 105; to = 107; body = phase 3 1 } ∷ record { from = 107; to = 114; body = phase 0 1 } ∷
    record { from = 114; to = 117; body = phase 3 1 } ∷ record { from = 117; to = 124; body = phase 0 1 } ∷ record { from = 124; to = 127; body = phase 3 1 } ∷
    record { from = 127; to = 130; body = phase 0 1 } ∷ record { from = 140; to = 144; body = phase 0 1 } ∷ record { from = 144; to = 147; body = phase 3 1 } ∷
    record { from = 147; to = 154; body = phase 0 1 } ∷ record { from = 154; to = 155; body = phase 3 1 } ∷ record { from = 155; to = 160; body = unknown } ∷ [])
unfolding timeline Timeline.unjoined Timeline.walk Timeline.spans Timeline.cut Spans.keep Spans.clip Spans.reach Spans.joined Spans.join_from
tl_is = refl

points_are : (point_at (λ (m : Mark). m) v cover 104 ≡ None) × (point_at (λ (m : Mark). m) v cover 116 ≡ Some (phase 3 1))
    × (point_at (λ (m : Mark). m) v cover 135 ≡ None)
unfolding point_at Timeline.spans Timeline.cut Spans.keep Spans.look
points_are = (refl, refl, refl)
