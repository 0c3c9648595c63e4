use mathlib.Core.Path.{ap₂}
use mir.Syntax.{w64}
use mir.ValLaws.{to_z-of_z}
use Rattle.tally.specs.Tallying.{tally_number, tally_answer}
use Rattle.lend.proofs.Replies.{lent_same}
use Rattle.market_time.proofs.market_time_tally.Goals as goal

pub returns : goal.returns
returns c =
    let y = to_z-of_z w64 c.args.start c.ranges.start in
    let z = to_z-of_z w64 c.args.end c.ranges.end in
    rw c.from.ensures
    (lent_same c.tally_answer.ensures (ap₂ (tally_number c.args.book.now) y z) (ap₂ (tally_answer c.args.book.now) y z))
