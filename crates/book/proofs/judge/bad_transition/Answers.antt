use Rattle.std.proofs.Common.{◌||◌, ap₂}
use Rattle.std.specs.Int.{w32, w64}
use Rattle.wire.specs.Signs as Signs
use Rattle.records.specs.Book as Book
use Rattle.book.proofs.Judging.{outside_read}
use Rattle.book.proofs.judge.bad_transition.Goals as goal

pub returns : goal.returns
unfolding Signs.meant Book.bad_fields
returns c =
    ap₂ ◌||◌ (outside_read w64 _ _ _ _ _ c.outside.ensures c.get-instant.ensures)
    (outside_read w32 _ _ _ _ _ c.outside-2.ensures c.get-offset.ensures)
