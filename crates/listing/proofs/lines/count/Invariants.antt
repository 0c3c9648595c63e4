-- So many segments stand before the place, and the rest of the row is good. Each segment leaves fewer bytes.
use Rattle.std.proofs.Common.{◌-◌, length}
use Rattle.listing.proofs.Reading.{Counting}
use Rattle.listing.proofs.lines.count.Given as goal

abbrev pub invariant-loop-at : goal.invariant-loop-at
invariant-loop-at l = Counting l.answer l.at l.seen

abbrev pub decreases-loop-at : goal.decreases-loop-at
decreases-loop-at l = length l.answer - l.at
