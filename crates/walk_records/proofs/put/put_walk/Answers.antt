use Rattle.std.proofs.Common.{ap, ◌∙◌, arith}
use Rattle.answer.specs.declared.Phase.{Phase}
use Rattle.day.proofs.Keeping.{keeps_blank}
use Rattle.venue.proofs.Laws.{good_rule}
use Rattle.walk.proofs.Going.{come_fewer, turn_fewer}
use Rattle.walk.proofs.Looking.{stands_held}
use Rattle.walk_records.proofs.Pieces.{found_few, came, none_came}
use Rattle.walk_records.proofs.Steps.{taken, begun_writing, turn_written, walk_put, its_count, its_room, its_record, written}
use Rattle.walk_records.proofs.put.put_walk.Goals as goal

pub begin-opening-requires : goal.begin-opening-requires
begin-opening-requires c = keeps_blank _

pub pieces-init : goal.pieces-init
pieces-init c =
    let begun = c.begin-opening.ensures in
    record {
      stands = begun.0.stands;
      writing = begun_writing c.args.venue.now c.args.window.end.0 begun.0 c.requires;
      keeps = begun.1;
    }

pub next_piece-requires : goal.next_piece-requires
next_piece-requires c = stands_held c.pieces.invariant.stands

pub invariant_of-rule : goal.invariant_of-rule
invariant_of-rule c =
    record { listed = (came c.args.venue.now c.args.window.end.0 c.pieces.invariant.stands c.in-Some.ensures).fits.listed }

pub point_phase-requires : goal.point_phase-requires
point_phase-requires c = (came c.args.venue.now c.args.window.end.0 c.pieces.invariant.stands c.in-Some.ensures).fits.point

pub events_place-front-requires : goal.events_place-front-requires
events_place-front-requires c =
    let comes = came c.args.venue.now c.args.window.end.0 c.pieces.invariant.stands c.in-Some.ensures in
    let t = taken c.args.venue.now c.args.window.end.0 comes c.point_phase.ensures.0 c.evidence.ensures c.pieces.invariant.writing
    c.joined_record-joined.ensures in
    omega (arith, t.goes.begin, c.well_formed)

pub put_events-trail-requires : goal.put_events-trail-requires
put_events-trail-requires c =
    let comes = came c.args.venue.now c.args.window.end.0 c.pieces.invariant.stands c.in-Some.ensures in
    let t = taken c.args.venue.now c.args.window.end.0 comes c.point_phase.ensures.0 c.evidence.ensures c.pieces.invariant.writing
    c.joined_record-joined.ensures in
    its_room t c.events_place-front.ensures

pub overflow_cast-trail : goal.overflow_cast-trail
overflow_cast-trail c =
    let comes = came c.args.venue.now c.args.window.end.0 c.pieces.invariant.stands c.in-Some.ensures in
    omega (arith, c.put_events-trail.ensures.count, found_few c.args.venue.now _ comes.fits)

pub head_of-own-requires : goal.head_of-own-requires
head_of-own-requires c = (came c.args.venue.now c.args.window.end.0 c.pieces.invariant.stands c.in-Some.ensures).fits

pub told-new-requires : goal.told-new-requires
told-new-requires c =
    let comes = came c.args.venue.now c.args.window.end.0 c.pieces.invariant.stands c.in-Some.ensures in
    let t = taken c.args.venue.now c.args.window.end.0 comes c.point_phase.ensures.0 c.evidence.ensures c.pieces.invariant.writing
    c.joined_record-joined.ensures in
    its_count t (ap (λ (h : Phase). h.events) c.head_of-own.ensures ∙ c.put_events-trail.ensures.count)

pub put_record-requires : goal.put_record-requires
put_record-requires c =
    let comes = came c.args.venue.now c.args.window.end.0 c.pieces.invariant.stands c.in-Some.ensures in
    let t = taken c.args.venue.now c.args.window.end.0 comes c.point_phase.ensures.0 c.evidence.ensures c.pieces.invariant.writing
    c.joined_record-joined.ensures in
    its_record t c.events_place-front.ensures c.put_events-trail.ensures c.head_of-own.ensures c.told-new.ensures

pub after_piece-w-requires : goal.after_piece-w-requires
after_piece-w-requires c =
    let fits = (came c.args.venue.now c.args.window.end.0 c.pieces.invariant.stands c.in-Some.ensures).fits in
    omega (arith, fits.point, (good_rule _ _ fits.listed).few)

pub pieces-smaller-in-Some : goal.pieces-smaller-in-Some
pieces-smaller-in-Some c = come_fewer (came c.args.venue.now c.args.window.end.0 c.pieces.invariant.stands c.in-Some.ensures) c.after_piece-w.ensures

pub pieces-preserved-in-Some : goal.pieces-preserved-in-Some
pieces-preserved-in-Some c =
    let comes = came c.args.venue.now c.args.window.end.0 c.pieces.invariant.stands c.in-Some.ensures in
    let t = taken c.args.venue.now c.args.window.end.0 comes c.point_phase.ensures.0 c.evidence.ensures c.pieces.invariant.writing
    c.joined_record-joined.ensures in
    rw c.after_piece-w.ensures (record {
      stands = comes.stands;
      writing =
          written t c.events_place-front.ensures c.put_events-trail.ensures c.head_of-own.ensures c.told-new.ensures
          c.put_record.ensures;
      keeps = c.pieces.invariant.keeps;
    })

pub next_turn-requires : goal.next_turn-requires
next_turn-requires c =
    (c.pieces.invariant.keeps, none_came c.args.venue.now c.args.window.end.0 c.pieces.invariant.stands c.in-None.ensures)

pub pieces-smaller : goal.pieces-smaller
pieces-smaller c = turn_fewer c.in-Some-next_turn.ensures.0

pub pieces-preserved : goal.pieces-preserved
pieces-preserved c =
    let on = c.in-Some-next_turn.ensures in
    record {
      stands = on.0.stands;
      writing = turn_written c.args.venue.now c.args.window.end.0 _ c.pieces.invariant.writing on.0;
      keeps = on.1;
    }

pub returns : goal.returns
returns c = walk_put c.args.venue.now c.args.window.end.0 _ c.pieces.invariant.writing c.in-None-next_turn.ensures.0
