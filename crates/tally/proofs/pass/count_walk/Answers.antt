use Rattle.std.proofs.Common.{arith, refl, ◌∙◌}
use Rattle.day.proofs.Keeping.{keeps_blank}
use Rattle.venue.proofs.Laws.{good_rule}
use Rattle.walk.proofs.Going.{come_fewer, turn_fewer}
use Rattle.walk.proofs.Looking.{stands_held}
use Rattle.tally.proofs.Passing.{came, none_came, walked_none, walked_coming, walked_next, turn_walked, walk_counted}
use Rattle.tally.proofs.pass.count_walk.Goals as goal

pub begin-opening-requires : goal.begin-opening-requires
begin-opening-requires c = keeps_blank _

pub pieces-init : goal.pieces-init
pieces-init c =
    let begun = c.begin-opening.ensures in
    record {
      stands = begun.0.stands;
      walked = walked_none c.args.venue.now _ _ begun.0;
      keeps = begun.1;
      window = refl;
    }

pub next_piece-requires : goal.next_piece-requires
next_piece-requires c = stands_held c.pieces.invariant.stands

pub invariant_of-rule : goal.invariant_of-rule
invariant_of-rule c = record { listed = (came c.args.venue.now c.args.over.start.0 _ c.pieces.invariant.stands c.in-Some.ensures).fits.listed }

pub point_phase-requires : goal.point_phase-requires
point_phase-requires c = (came c.args.venue.now c.args.over.start.0 _ c.pieces.invariant.stands c.in-Some.ensures).fits.point

pub stretch-requires : goal.stretch-requires
stretch-requires c =
    let comes = came c.args.venue.now c.args.over.start.0 _ c.pieces.invariant.stands c.in-Some.ensures in
    rw c.pieces.invariant.window (walked_coming c.args.venue.now _ _ c.pieces.invariant.walked comes c.point_phase.ensures c.requires)

pub after_piece-w-requires : goal.after_piece-w-requires
after_piece-w-requires c =
    let fits = (came c.args.venue.now c.args.over.start.0 _ c.pieces.invariant.stands c.in-Some.ensures).fits in
    omega (arith, fits.point, (good_rule _ _ fits.listed).few)

pub pieces-smaller-in-Some : goal.pieces-smaller-in-Some
pieces-smaller-in-Some c =
    come_fewer (came c.args.venue.now c.args.over.start.0 _ c.pieces.invariant.stands c.in-Some.ensures) c.after_piece-w.ensures

pub pieces-preserved-in-Some : goal.pieces-preserved-in-Some
pieces-preserved-in-Some c =
    let comes = came c.args.venue.now c.args.over.start.0 _ c.pieces.invariant.stands c.in-Some.ensures in
    let counted = rw c.pieces.invariant.window at c.stretch.ensures.0 in
    rw c.after_piece-w.ensures (record {
      stands = comes.stands;
      walked = walked_next c.args.venue.now _ _ c.pieces.invariant.walked comes c.point_phase.ensures counted;
      keeps = c.pieces.invariant.keeps;
      window = c.stretch.ensures.1 ∙ c.pieces.invariant.window;
    })

pub next_turn-requires : goal.next_turn-requires
next_turn-requires c =
    (c.pieces.invariant.keeps, none_came c.args.venue.now c.args.over.start.0 _ c.pieces.invariant.stands c.in-None.ensures)

pub pieces-smaller : goal.pieces-smaller
pieces-smaller c = turn_fewer c.in-Some-next_turn.ensures.0

pub pieces-preserved : goal.pieces-preserved
pieces-preserved c =
    let on = c.in-Some-next_turn.ensures in
    record {
      stands = on.0.stands;
      walked = turn_walked c.args.venue.now _ _ c.pieces.invariant.walked on.0;
      keeps = on.1;
      window = c.pieces.invariant.window;
    }

pub returns : goal.returns
returns c =
    (walk_counted c.args.venue.now _ _ c.pieces.invariant.walked c.in-None-next_turn.ensures.0, c.pieces.invariant.window)
