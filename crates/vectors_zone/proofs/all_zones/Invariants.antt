use Rattle.std.proofs.Common.{length, ◌-◌}
use Rattle.vectors_zone.proofs.all_zones.Given as goal

-- a zone has at least one byte
abbrev pub decreases-loop-at : goal.decreases-loop-at
decreases-loop-at l = length l.list - l.at
