-- What was just begun may be amended, and then the whole stands.
use Rattle.answer.proofs.Amended.{begun_amends, begun_put}
use Rattle.answer.proofs.put.put_phase.Goals as goal

pub amend_phase-requires : goal.amend_phase-requires
amend_phase-requires c = begun_amends c.args.p c.begin_phase.ensures c.requires

pub returns : goal.returns
returns c = begun_put c.args.p c.begin_phase.ensures c.amend_phase.ensures c.requires
