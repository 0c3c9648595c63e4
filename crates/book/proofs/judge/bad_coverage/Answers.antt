use Rattle.std.proofs.Common.{◌||◌, ap₂}
use Rattle.std.specs.Int.{w32, w64}
use Rattle.wire.specs.Signs as Signs
use Rattle.records.specs.Book as Book
use Rattle.book.proofs.Judging.{outside_read}
use Rattle.book.proofs.judge.bad_coverage.Goals as goal

pub returns : goal.returns
unfolding Signs.meant Book.bad_fields
returns c =
    let start = outside_read w64 _ _ _ _ _ c.outside.ensures c.get-start.ensures in
    let end = outside_read w64 _ _ _ _ _ c.outside-2.ensures c.get-end.ensures in
    ap₂ ◌||◌ (ap₂ ◌||◌ start end) (outside_read w32 _ _ _ _ _ c.outside-3.ensures c.get-offset.ensures)
