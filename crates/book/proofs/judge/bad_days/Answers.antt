use Rattle.std.proofs.Common.{◌||◌, ap₂}
use Rattle.std.specs.Int.{w32}
use Rattle.wire.specs.Signs as Signs
use Rattle.book.proofs.Judging.{outside_read}
use Rattle.book.proofs.judge.bad_days.Goals as goal

pub returns : goal.returns
unfolding Signs.meant
returns c =
    ap₂ ◌||◌ (outside_read w32 _ _ _ _ _ c.outside.ensures c.get-first.ensures)
    (outside_read w32 _ _ _ _ _ c.outside-2.ensures c.get-last.ensures)
