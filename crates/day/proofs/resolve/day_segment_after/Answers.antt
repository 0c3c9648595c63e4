use Rattle.day.proofs.Points.{day_none, day_some}
use Rattle.day.proofs.resolve.day_segment_after.Goals as goal

pub returns-in_err-at : goal.returns-in_err-at
returns-in_err-at c = day_none _ _ _ _ _ c.governing_rule.ensures.0 c.in_err-at.was c.from_residual.ensures

pub returns : goal.returns
returns c =
    day_some _ _ _ _ _ _ c.governing_rule.ensures.0 c.governing_rule.ensures.2 c.in_ok-at.was c.rule_segment_after.ensures.0 c.rule_segment_after.ensures.1
