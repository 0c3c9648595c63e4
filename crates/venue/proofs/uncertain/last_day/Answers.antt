use Rattle.std.proofs.Common.{◌≡◌}
use Rattle.records.specs.Layout.{number, day_last}
use Rattle.std.specs.Int.{w32}
use Rattle.wire.specs.Signs.{turned}
use Rattle.venue.proofs.Listing.{last_read}
use Rattle.venue.proofs.uncertain.last_day.Goals as goal

pub overflow_sub-result : goal.overflow_sub-result
overflow_sub-result c =
    let e : c.get.result.0 ≡ turned w32 (number day_last c.args.book.now c.args.at) = cc in
    (last_read c.requires.0 c.requires.1 e).0

pub returns : goal.returns
returns c =
    let e : c.get.result.0 ≡ turned w32 (number day_last c.args.book.now c.args.at) = cc in
    let r = last_read c.requires.0 c.requires.1 e in
    (r.1, r.2, r.3)
