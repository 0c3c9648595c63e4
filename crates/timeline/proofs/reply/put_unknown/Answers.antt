use Rattle.timeline.proofs.Parts.{gap_put, gap_skip}
use Rattle.timeline.proofs.reply.put_unknown.Goals as goal

pub returns-then-gap : goal.returns-then-gap
returns-then-gap c = gap_put c.args.c c.if-gap.true c.put_gap.ensures

pub returns : goal.returns
returns c = gap_skip c.args.c c.if-gap.false
