use Rattle.std.proofs.Common.{arith}
use Rattle.wire.proofs.Reading.{field_split}
use Rattle.wire.proofs.field.U64Field.get.Goals as goal

pub returns : goal.returns
returns c = omega (arith, field_split 4 4 c.args.s.now c.args.at)
