use Rattle.day.proofs.Points.{found}
use Rattle.day.proofs.resolve.day_holding.Goals as goal

pub returns : goal.returns
returns c = found _ _ _ _ _ _ c.day_segment_after.ensures c.begun.ensures
