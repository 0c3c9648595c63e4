-- The end is written where it stands, and what follows the first boundary behind it.
use Rattle.std.proofs.Common.{refl}
use Rattle.zone.specs.Answers.{uncertainty_bytes}
use Rattle.answer.proofs.Chain.{after}
use Rattle.answer.proofs.Amended.{amended}
use Rattle.answer.proofs.put.amend_phase.Goals as goal

pub returns : goal.returns
unfolding uncertainty_bytes
returns c =
    let back = after c.put_boundary-a.ensures (after c.put_uncertainty-b.ensures c.put.ensures refl) refl in
    amended c.args.p c.requires c.put_instant.ensures back
