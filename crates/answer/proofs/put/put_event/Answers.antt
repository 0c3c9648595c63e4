-- Head, code, boundary and evidence, each behind the one before it.
use Rattle.std.proofs.Common.{refl}
use Rattle.zone.specs.Answers.{uncertainty_bytes}
use Rattle.answer.specs.Meaning.{event_of}
use Rattle.answer.proofs.Chain.{after, event_bytes}
use Rattle.answer.proofs.put.put_event.Goals as goal

pub returns : goal.returns
unfolding uncertainty_bytes
returns c =
    let said = event_bytes (event_of c.args.code c.args.b c.args.evidence) in
    let last = after c.put_boundary-e.ensures c.put.ensures refl in
    rw said (after c.put_head-c.ensures (after c.put-d.ensures last refl) refl)
