use Rattle.book.proofs.Judging.{covers_by}
use Rattle.book.proofs.judge.covers_nothing.Goals as goal

pub returns : goal.returns
returns c =
    rw (c.get.ensures, c.get-2.ensures)
    (covers_by c.args.book.now c.args.at c.args.kind c.requires.0 c.requires.1 c.if-kind-ne-COVERAGE.false)
