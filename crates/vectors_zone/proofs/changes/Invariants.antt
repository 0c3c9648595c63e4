use Rattle.std.proofs.Common.{length, ◌-◌, ◌≤◌}
use Rattle.vectors_zone.proofs.changes.Given as goal

abbrev pub invariant-loop-next : goal.invariant-loop-next
invariant-loop-next l = record {
  ats_fit : l.count ≤ length l.ats;
  offsets_fit : l.count ≤ length l.offsets;
  forward : l.from ≤ l.next;
}

-- a transition has 17 bytes
abbrev pub decreases-loop-next : goal.decreases-loop-next
decreases-loop-next l = length l.list - l.next
