-- The end is written behind the start.
use Rattle.std.proofs.Common.{refl}
use Rattle.answer.proofs.Chain.{after}
use Rattle.answer.proofs.put.put_interval.Goals as goal

pub returns : goal.returns
returns c = after c.put_instant-a.ensures c.put_instant.ensures refl
