use Rattle.std.proofs.Common.{refl, sym, subst}
use Rattle.venue.specs.Values.{rule_in}
use Rattle.venue.proofs.Laws.{good_rule}
use Rattle.walk.specs.Shifting.{Shifts}
use Rattle.walk.proofs.Shifting.{shifts_by, shifts_clear}
use Rattle.walk.proofs.turn.date_boundaries.Goals as goal

pub returns-in-Some : goal.returns-in-Some
returns-in-Some c =
    let shifts = (shifts_by c.in-Some.is c.requires.1).1 in
    let rule = c.args.rule.now in (
      c.steady_boundaries.ensures _ _ (subst (Shifts _ _) (sym c.steady_midnight.ensures) shifts),
      (λ e. shifts_clear shifts (rule_in rule) (good_rule _ _ rule.listed).each, λ clear. refl),
    )
