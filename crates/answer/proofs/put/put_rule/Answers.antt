-- Five numbers, each behind the one before it.
use Rattle.std.proofs.Common.{refl}
use Rattle.answer.proofs.Chain.{after}
use Rattle.answer.proofs.put.put_rule.Goals as goal

pub returns : goal.returns
returns c =
    let texts = after c.put-c.ensures (after c.put-d.ensures c.put.ensures refl) refl in
    after c.put-a.ensures (after c.put-b.ensures texts refl) refl
