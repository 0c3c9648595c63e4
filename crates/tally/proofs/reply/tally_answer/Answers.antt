use Rattle.std.proofs.lemmas.Result.{err_from_is_err_and}
use Rattle.venue.proofs.Fronts.{room_filled}
use Rattle.book_query.proofs.Books.{judged_as, judged_blank, judged_venue}
use Rattle.tally.proofs.Closing.{close_refused, close_empty, close_venue}
use Rattle.tally.proofs.reply.tally_answer.Goals as goal

pub returns-in_err-header : goal.returns-in_err-header
returns-in_err-header c =
    let p = err_from_is_err_and c.from_residual.result c.from_residual.ensures.1 in
    let asked = judged_as c.args.book.now c.args.start c.args.end c.ranges.start c.ranges.end c.open.ensures.0 c.in_err-header.ensures.1 in
    rw (p.1, p.2) (close_refused c.args.book.now c.args.start c.args.end asked)

pub tell_blank-requires : goal.tell_blank-requires
tell_blank-requires c =
    let asked = judged_as c.args.book.now c.args.start c.args.end c.ranges.start c.ranges.end c.open.ensures.0 c.in_ok-header.ensures.1 in
    (judged_blank c.args.book.now c.args.start c.args.end (rw c.in-None.is at asked)).window.order

pub venue-requires : goal.venue-requires
venue-requires c =
    let asked = judged_as c.args.book.now c.args.start c.args.end c.ranges.start c.ranges.end c.open.ensures.0 c.in_ok-header.ensures.1 in
    let named = judged_venue c.args.book.now c.args.start c.args.end (rw c.in-Some.is at asked) in
    let filled = c.open.ensures in
    room_filled named.known c.new-room.ensures filled.1 filled.2 filled.3 filled.4

pub tell_tally-requires : goal.tell_tally-requires
tell_tally-requires c =
    let asked = judged_as c.args.book.now c.args.start c.args.end c.ranges.start c.ranges.end c.open.ensures.0 c.in_ok-header.ensures.1 in
    (judged_venue c.args.book.now c.args.start c.args.end (rw c.in-Some.is at asked)).window.order

pub returns-in-None : goal.returns-in-None
returns-in-None c =
    let asked = judged_as c.args.book.now c.args.start c.args.end c.ranges.start c.ranges.end c.open.ensures.0 c.in_ok-header.ensures.1 in
    close_empty c.args.book.now c.args.start c.args.end (judged_blank c.args.book.now c.args.start c.args.end (rw c.in-None.is at asked))
    c.tell_blank.ensures

pub returns-in-Some : goal.returns-in-Some
returns-in-Some c =
    let asked = judged_as c.args.book.now c.args.start c.args.end c.ranges.start c.ranges.end c.open.ensures.0 c.in_ok-header.ensures.1 in
    let named = judged_venue c.args.book.now c.args.start c.args.end (rw c.in-Some.is at asked) in
    close_venue c.args.book.now c.args.start c.args.end named c.venue.ensures c.tell_tally.ensures
