-- The kind is written behind the length.
use Rattle.std.proofs.Common.{refl}
use Rattle.answer.proofs.Chain.{after}
use Rattle.answer.proofs.put.put_head.Goals as goal

pub returns : goal.returns
returns c = after c.put-a.ensures c.put.ensures refl
