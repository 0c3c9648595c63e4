use Rattle.std.proofs.Common.{◌+◌, ap}
use Rattle.std.specs.Int.{w64}
use Rattle.wire.specs.Signs.{half}
use Rattle.records.specs.Book.{most_width}
use Rattle.book.proofs.Judging.{outside_says, uncertain_at}
use Rattle.book.proofs.judge.bad_uncertainty.Goals as goal

pub returns : goal.returns
returns c =
    let o = outside_says (half w64) (half w64 + most_width) c.get-nanoseconds.result c.outside.result c.outside.ensures in
    let n = ap (λ x. x.0) c.get-nanoseconds.ensures in
    rw o (uncertain_at c.args.book.now c.args.at c.args.kind _ _ _ _ c.tag_place.ensures.0 c.get-tag.ensures n c.get-text.ensures)
