use Rattle.std.proofs.lemmas.Result.{err_from_is_err_and}
use Rattle.venue.proofs.Fronts.{room_filled}
use Rattle.book_query.proofs.Books.{judged_as, judged_blank, judged_venue}
use Rattle.timeline.proofs.Closing.{close_refused, close_empty, close_venue}
use Rattle.timeline.proofs.reply.window_answer.Goals as goal

pub returns-in_err-header : goal.returns-in_err-header
returns-in_err-header c =
    let p = err_from_is_err_and c.from_residual.result c.from_residual.ensures.1 in
    let asked = judged_as c.args.book.now c.args.start c.args.end c.ranges.start c.ranges.end c.open.ensures.0 c.in_err-header.ensures.1 in
    rw (p.1, p.2) (close_refused c.args.book.now c.args.start c.args.end c.in_err-header.field-0.0 asked)

pub tell_empty-requires : goal.tell_empty-requires
tell_empty-requires c =
    let asked = judged_as c.args.book.now c.args.start c.args.end c.ranges.start c.ranges.end c.open.ensures.0 c.in_ok-header.ensures.1 in
    (judged_blank c.args.book.now c.args.start c.args.end (rw c.in-None.is at asked)).window.order

pub venue-requires : goal.venue-requires
venue-requires c =
    let asked = judged_as c.args.book.now c.args.start c.args.end c.ranges.start c.ranges.end c.open.ensures.0 c.in_ok-header.ensures.1 in
    let k = judged_venue c.args.book.now c.args.start c.args.end (rw c.in-Some.is at asked) in
    let at_open = c.open.ensures in
    room_filled k.known c.new-room.ensures at_open.1 at_open.2 at_open.3 at_open.4

pub returns-in-None : goal.returns-in-None
returns-in-None c =
    let asked = judged_as c.args.book.now c.args.start c.args.end c.ranges.start c.ranges.end c.open.ensures.0 c.in_ok-header.ensures.1 in
    close_empty _ _ _ (judged_blank c.args.book.now c.args.start c.args.end (rw c.in-None.is at asked)) c.tell_empty.ensures

pub returns-in-Some : goal.returns-in-Some
returns-in-Some c =
    let asked = judged_as c.args.book.now c.args.start c.args.end c.ranges.start c.ranges.end c.open.ensures.0 c.in_ok-header.ensures.1 in
    close_venue _ _ _ c.venue.ensures (judged_venue c.args.book.now c.args.start c.args.end (rw c.in-Some.is at asked)) c.tell_venue.ensures
