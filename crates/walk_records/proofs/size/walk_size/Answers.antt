use Rattle.std.proofs.Common.{arith, refl}
use Rattle.day.proofs.Keeping.{keeps_blank}
use Rattle.venue.proofs.Laws.{good_rule}
use Rattle.walk.proofs.Going.{come_fewer, turn_fewer}
use Rattle.walk.proofs.Looking.{stands_held}
use Rattle.walk_records.proofs.Pieces.{begun_sizing, came, none_came, sized, turn_sized, done_left}
use Rattle.walk_records.proofs.Sizes.{size_end}
use Rattle.walk_records.proofs.size.walk_size.Goals as goal

pub begin-opening-requires : goal.begin-opening-requires
begin-opening-requires c = keeps_blank _

pub pieces-init : goal.pieces-init
pieces-init c =
    record {
      stands = c.begin-opening.ensures.0.stands;
      sized = begun_sizing c.args.venue.now c.args.window.end.0 c.begin-opening.ensures.0;
      keeps = c.begin-opening.ensures.1;
    }

pub next_piece-requires : goal.next_piece-requires
next_piece-requires c = stands_held c.pieces.invariant.stands

pub invariant_of-rule : goal.invariant_of-rule
invariant_of-rule c =
    record { listed = (came c.args.venue.now c.args.window.end.0 c.pieces.invariant.stands c.in-Some.ensures).fits.listed }

pub point_phase-phase-requires : goal.point_phase-phase-requires
point_phase-phase-requires c = (came c.args.venue.now c.args.window.end.0 c.pieces.invariant.stands c.in-Some.ensures).fits.point

pub after_piece-w-requires : goal.after_piece-w-requires
after_piece-w-requires c =
    let fits = (came c.args.venue.now c.args.window.end.0 c.pieces.invariant.stands c.in-Some.ensures).fits in
    omega (arith, fits.point, (good_rule _ _ fits.listed).few)

pub pieces-smaller-in-Some : goal.pieces-smaller-in-Some
pieces-smaller-in-Some c = come_fewer (came c.args.venue.now c.args.window.end.0 c.pieces.invariant.stands c.in-Some.ensures) c.after_piece-w.ensures

pub pieces-preserved-in-Some : goal.pieces-preserved-in-Some
pieces-preserved-in-Some c =
    let comes = came c.args.venue.now c.args.window.end.0 c.pieces.invariant.stands c.in-Some.ensures in
    rw c.after_piece-w.ensures (record {
      stands = comes.stands;
      sized =
          sized c.args.venue.now c.args.window.end.0 comes c.point_phase-phase.ensures.0 c.evidence-evidence.ensures c.pieces.invariant.sized
          c.is_joinable.ensures c.record_size-record.ensures.0 c.count_events-count.ensures.0 refl;
      keeps = c.pieces.invariant.keeps;
    })

pub next_turn-requires : goal.next_turn-requires
next_turn-requires c =
    (c.pieces.invariant.keeps, none_came c.args.venue.now c.args.window.end.0 c.pieces.invariant.stands c.in-None.ensures)

pub pieces-smaller : goal.pieces-smaller
pieces-smaller c = turn_fewer c.in-Some-next_turn.ensures.0

pub pieces-preserved : goal.pieces-preserved
pieces-preserved c =
    let on = c.in-Some-next_turn.ensures in
    record {
      stands = on.0.stands;
      sized = turn_sized c.args.venue.now c.args.window.end.0 c.pieces.invariant.sized on.0;
      keeps = on.1;
    }

pub returns : goal.returns
returns c = size_end c.pieces.invariant.sized (done_left c.args.venue.now c.args.window.end.0 _ c.in-None-next_turn.ensures.0)
