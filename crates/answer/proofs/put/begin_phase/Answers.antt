-- Head, ends, numbers and first boundary, each behind the one before it.
use Rattle.std.proofs.Common.{refl}
use Rattle.zone.specs.Answers.{uncertainty_bytes}
use Rattle.answer.specs.Meaning.{phase_of}
use Rattle.answer.proofs.Chain.{after}
use Rattle.answer.proofs.Amended.{front_bytes}
use Rattle.answer.proofs.put.begin_phase.Goals as goal

pub returns : goal.returns
unfolding uncertainty_bytes
returns c =
    let body = after c.put_interval-b.ensures (after c.put_rule-c.ensures c.put_boundary.ensures refl) refl in
    rw (front_bytes (phase_of c.args.p)) (after c.put_head-a.ensures body refl)
