use mathlib.Core.Path.{ap₂}
use mir.Syntax.{w64}
use mir.ValLaws.{to_z-of_z}
use Rattle.timeline.specs.Asking.{window_answer}
use Rattle.book_query.specs.Judging.{window_number}
use Rattle.lend.proofs.Replies.{lent_same}
use Rattle.market_time.proofs.market_time_window.Goals as goal

pub returns : goal.returns
returns c =
    let y = to_z-of_z w64 c.args.start c.ranges.start in
    let z = to_z-of_z w64 c.args.end c.ranges.end in
    rw c.from.ensures
    (lent_same c.window_answer.ensures (ap₂ (window_number c.args.book.now) y z) (ap₂ (window_answer c.args.book.now) y z))
