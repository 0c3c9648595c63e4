use mathlib.Core.Path.{ap, ◌∙◌}
use mir.Syntax.{w64}
use mir.ValLaws.{to_z-of_z}
use Rattle.classes.specs.Classes.{count_reply}
use Rattle.market_time.proofs.market_time_count.Goals as goal

pub returns : goal.returns
returns c =
    c.from.ensures ∙ c.count_answer.ensures ∙ ap (count_reply c.args.rows.now) (to_z-of_z w64 c.args.at c.ranges.at)
