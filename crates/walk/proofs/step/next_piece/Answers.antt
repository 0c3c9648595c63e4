use Rattle.walk.proofs.Looking.{piece_one, piece_by}
use Rattle.walk.proofs.step.next_piece.Goals as goal

pub returns : goal.returns
returns c =
    let w = c.args.w in
    let edges = c.args.edges.now in
    piece_one c.args.book.now edges c.args.hi.0 w c.in_ok-at.was c.points-n.ensures.0 c.showing-k.ensures c.if-n-k.false
    (piece_by edges c.args.hi.0 w _ _ c.max.ensures c.min.ensures)
