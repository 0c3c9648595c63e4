use Rattle.std.proofs.Common.{arith}
use Rattle.tally.proofs.Closing.{tally_long, tally_short, tally_written}
use Rattle.tally.proofs.reply.tell_blank.Goals as goal

pub returns-then-window-gt-MOST_TALLY_NS : goal.returns-then-window-gt-MOST_TALLY_NS
returns-then-window-gt-MOST_TALLY_NS c = tally_long _ _ _ (omega arith)

pub returns-then-out-tally_size : goal.returns-then-out-tally_size
returns-then-out-tally_size c = tally_short _ _ _ (omega arith) c.tally_size.ensures (omega arith)

pub returns : goal.returns
returns c = tally_written _ _ _ (omega arith) c.tally_size.ensures (omega arith) c.put_blank.ensures
