use mathlib.Core.Path.{ap}
use mir.Syntax.{w64}
use mir.ValLaws.{to_z-of_z}
use Rattle.point.specs.Asking.{point_number, point_answer}
use Rattle.lend.proofs.Replies.{lent_same}
use Rattle.market_time.proofs.market_time_point.Goals as goal

pub returns : goal.returns
returns c =
    let z = to_z-of_z w64 c.args.at c.ranges.at in
    rw c.from.ensures
    (lent_same c.point_answer.ensures (ap (point_number c.args.book.now) z) (ap (point_answer c.args.book.now) z))
