use Rattle.std.proofs.Common.{◌≡◌}
use Rattle.records.specs.Layout.{number, day_first}
use Rattle.std.specs.Int.{w32}
use Rattle.wire.specs.Signs.{turned}
use Rattle.venue.proofs.Listing.{first_read}
use Rattle.venue.proofs.uncertain.first_day.Goals as goal

pub overflow_sub-result : goal.overflow_sub-result
overflow_sub-result c =
    let e : c.get.result.0 ≡ turned w32 (number day_first c.args.book.now c.args.at) = cc in
    (first_read c.requires.0 c.requires.1 e).0

pub returns : goal.returns
returns c =
    let e : c.get.result.0 ≡ turned w32 (number day_first c.args.book.now c.args.at) = cc in
    let r = first_read c.requires.0 c.requires.1 e in
    (r.1, r.2, r.3)
