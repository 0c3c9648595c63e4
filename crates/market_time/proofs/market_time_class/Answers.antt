use mathlib.Core.Path.{ap, ◌∙◌}
use mir.Syntax.{w64}
use mir.ValLaws.{to_z-of_z}
use Rattle.classes.specs.Classes.{class_reply}
use Rattle.market_time.proofs.market_time_class.Goals as goal

pub returns : goal.returns
returns c =
    c.from.ensures ∙ c.class_answer.ensures ∙ ap (class_reply c.args.row.now) (to_z-of_z w64 c.args.at c.ranges.at)
