use Rattle.std.proofs.Common.{length, ◌-◌}
use Rattle.vectors_book.proofs.all_records.Given as goal

-- each record has at least one byte
abbrev pub decreases-loop-at : goal.decreases-loop-at
decreases-loop-at l = length l.list - l.at
