-- The lines of the segments before the place are written, and those of the others are left. Each segment leaves fewer bytes.
use Rattle.std.proofs.Common.{◌-◌, length}
use Rattle.rows.specs.Rows.{segments, segments_at}
use Rattle.rows.proofs.Laws.{InRow}
use Rattle.listing.specs.Listing.{all_lines}
use Rattle.listing.proofs.Writing.{Going}
use Rattle.listing.proofs.lines.put_all.Given as goal

abbrev pub invariant-loop-from : goal.invariant-loop-from
invariant-loop-from l =
    InRow l.answer l.from × Going l.fn.out l.at (all_lines (segments l.answer)) (all_lines (segments_at l.answer l.from)) l.out l.place

abbrev pub decreases-loop-from : goal.decreases-loop-from
decreases-loop-from l = length l.answer - l.from
