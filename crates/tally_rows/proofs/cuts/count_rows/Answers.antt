use Rattle.std.proofs.Common.{arith}
use Rattle.tally_rows.proofs.Filling.{cutting_none, cutting_next, cutting_end}
use Rattle.tally_rows.proofs.cuts.count_rows.Goals as goal

pub loop-at-init : goal.loop-at-init
loop-at-init c = cutting_none _ _ c.requires

pub loop-at-preserved : goal.loop-at-preserved
loop-at-preserved c = cutting_next c.loop-at.invariant (omega arith) c.row_end-at.ensures

pub returns : goal.returns
returns c = cutting_end c.loop-at.invariant (omega arith)
