use Rattle.std.proofs.Common.{sym, ◌∙◌}
use Rattle.book.proofs.Judging.{reversed_by}
use Rattle.book.proofs.judge.is_reversed.Goals as goal

pub returns : goal.returns
returns c =
    rw (c.get.ensures, c.get-2.ensures)
    (reversed_by c.args.book.now c.args.at c.args.kind c.requires.0 c.requires.1 (sym c.is_dated.ensures ∙ c.if-not-is_dated.false))
