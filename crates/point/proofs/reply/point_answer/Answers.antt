use Rattle.std.proofs.Common.{sym}
use Rattle.std.proofs.lemmas.Result.{err_from_is_err_and}
use Rattle.venue.proofs.Fronts.{room_filled}
use Rattle.venue.proofs.Known.{opened_venue}
use Rattle.query.proofs.Instants.{asked_outside, asked_in, number_outside}
use Rattle.point.proofs.Closing.{close_refused, close_outside, close_empty, close_venue}
use Rattle.point.proofs.reply.point_answer.Goals as goal

pub returns-in_err-header : goal.returns-in_err-header
returns-in_err-header c =
    let p = err_from_is_err_and c.from_residual.result c.from_residual.ensures.1 in
    rw (p.1, p.2) (close_refused c.args.book.now c.args.at c.in_err-header.field-0.0 c.in_err-header.ensures.0)

pub returns-in_err-t : goal.returns-in_err-t
returns-in_err-t c =
    let out = asked_outside c.args.at c.ranges.at c.asked_at.ensures.1 c.in_err-t.was in
    let p = err_from_is_err_and c.from_residual-in_err-t.result c.from_residual-in_err-t.ensures.1 in
    rw (p.1, p.2)
    (close_outside c.args.book.now c.args.at (sym c.in_ok-header.ensures.5) out c.in_err-t.field-0.0
    (number_outside c.args.at c.ranges.at out c.in_err-t.ensures.0))

pub venue-requires : goal.venue-requires
venue-requires c =
    let k = opened_venue c.args.book.now c.in-Some.h (rw c.in-Some.is at c.in_ok-header.ensures.0) in
    let at_open = c.open.ensures in
    room_filled k c.new-room.ensures at_open.1 at_open.2 at_open.3 at_open.4

pub returns-in-None : goal.returns-in-None
returns-in-None c =
    let i = asked_in c.args.at c.ranges.at c.asked_at.ensures.1 c.in_ok-t.was in
    close_empty _ _ i (rw c.in-None.is at c.in_ok-header.ensures.0) c.tell_missing.ensures

pub returns-in-Some : goal.returns-in-Some
returns-in-Some c =
    let i = asked_in c.args.at c.ranges.at c.asked_at.ensures.1 c.in_ok-t.was in
    let k = opened_venue c.args.book.now c.in-Some.h (rw c.in-Some.is at c.in_ok-header.ensures.0) in
    close_venue _ _ i c.venue.ensures k c.tell_venue.ensures
