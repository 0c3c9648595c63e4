-- The uncertainty is written behind the instant.
use Rattle.std.proofs.Common.{refl}
use Rattle.answer.proofs.Chain.{after}
use Rattle.answer.proofs.put.put_boundary.Goals as goal

pub returns : goal.returns
returns c = after c.put_instant-a.ensures c.put_uncertainty.ensures refl
