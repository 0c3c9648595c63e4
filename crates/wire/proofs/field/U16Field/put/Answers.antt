use Rattle.wire.proofs.Writing.{halves}
use Rattle.wire.proofs.field.U16Field.put.Goals as goal

pub returns : goal.returns
returns c = halves 1 c.args.self c.put-next.ensures c.put.ensures c.requires
