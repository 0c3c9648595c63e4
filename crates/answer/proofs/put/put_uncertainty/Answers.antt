-- The parts are those of the uncertainty, and each is written behind the one before it.
use Rattle.std.proofs.Common.{refl}
use Rattle.zone.specs.Answers.{uncertainty_bytes}
use Rattle.answer.proofs.Chain.{after}
use Rattle.answer.proofs.put.put_uncertainty.Goals as goal

pub returns : goal.returns
unfolding uncertainty_bytes
returns c =
    let parts = c.from-p.ensures in
    let numbers = after c.put-b.ensures (after c.put-c.ensures c.put.ensures refl) refl in
    rw (← parts.0, ← parts.1, ← parts.2, ← parts.3) (after c.put-a.ensures numbers refl)
