-- At first nothing is written, and then one total more behind those before it.
use Rattle.std.proofs.Common.{arith}
use Rattle.answer.proofs.Chain.{nothing_yet, next_put}
use Rattle.answer.proofs.put.put_each.Goals as goal

pub loop-total-init : goal.loop-total-init
loop-total-init c = nothing_yet c.args.out.now c.args.at c.args.totals.now

pub loop-total-preserved : goal.loop-total-preserved
loop-total-preserved c = next_put c.args.totals.now _ c.loop-total.invariant c.requires (omega arith) c.put-place.ensures
