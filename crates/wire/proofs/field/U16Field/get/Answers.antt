use Rattle.std.proofs.Common.{arith}
use Rattle.wire.proofs.Reading.{field_split}
use Rattle.wire.proofs.field.U16Field.get.Goals as goal

pub returns : goal.returns
returns c = omega (arith, field_split 1 1 c.args.s.now c.args.at)
