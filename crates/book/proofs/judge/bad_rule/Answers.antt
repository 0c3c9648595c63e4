use Rattle.std.proofs.Common.{sym}
use Rattle.records.specs.Book as Book
use Rattle.book.proofs.Judging.{points_length}
use Rattle.book.proofs.judge.bad_rule.Goals as goal

pub returns : goal.returns
unfolding Book.bad_fields
returns c =
    rw (
      points_length,
      sym c.bad_days.ensures,
      sym c.bad_uncertainty.ensures,
      sym c.get-code.ensures,
      sym c.get-mask.ensures,
      sym c.get-label.ensures,
    ) (rw (c.get-n.ensures, c.count_place.ensures.0))
