use Rattle.std.proofs.Common.{sym}
use Rattle.records.specs.Book as Book
use Rattle.book.proofs.Judging.{times_length}
use Rattle.book.proofs.judge.bad_event.Goals as goal

pub returns : goal.returns
unfolding Book.bad_fields
returns c =
    rw (times_length, sym c.bad_days.ensures, sym c.bad_uncertainty.ensures) (rw (c.get-n.ensures, c.count_place.ensures.0))
