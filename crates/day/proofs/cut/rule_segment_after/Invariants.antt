use Rattle.std.proofs.Common.{◌≡◌, ℕ, ◌+◌, ◌<◌, false}
use Rattle.zone.specs.Clocks.{zone_in}
use Rattle.venue.specs.Values.{rule_in}
use Rattle.day.proofs.Cutting.{at, past, EdgesFilled}
use Rattle.day.proofs.cut.rule_segment_after.Given as goal

abbrev pub invariant-loop-i : goal.invariant-loop-i
invariant-loop-i l = EdgesFilled (zone_in l.clock) (rule_in l.rule) l.d.0 l.boundaries l.i

abbrev pub invariant-loop-k : goal.invariant-loop-k
invariant-loop-k l = (j : ℕ) → j < l.k → past l.t.0 (at l.boundaries j) (at l.boundaries (j + 1)) ≡ false
