use Rattle.std.proofs.Common.{sym, ◌∙◌}
use Rattle.calendar.proofs.Dates.{date_within}
use Rattle.calendar.proofs.day_number.Goals as goal

pub returns : goal.returns
returns c = c.number_of.ensures ∙ date_within c.args.year c.args.month c.args.day _ (sym c.in_ok-day_on.ensures) ∙ c.in_ok-day_on.ensures
