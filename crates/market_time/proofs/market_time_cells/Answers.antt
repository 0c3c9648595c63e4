use mir.Syntax.{w64}
use mir.ValLaws.{to_z-of_z}
use Rattle.lend.proofs.Replies.{lent_same}
use Rattle.market_time.proofs.market_time_cells.Goals as goal

pub returns : goal.returns
returns c =
    let y = to_z-of_z w64 c.args.start c.ranges.start in
    let z = to_z-of_z w64 c.args.end c.ranges.end in
    let n = to_z-of_z w64 c.args.columns c.ranges.columns in
    let t = to_z-of_z w64 c.args.at c.ranges.at in
    rw c.from.ensures (lent_same c.cells_answer.ensures (rw (y, z, n, t)) (rw (y, z, n, t)))
