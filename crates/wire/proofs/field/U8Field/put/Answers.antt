use Rattle.std.proofs.Common.{arith}
use Rattle.wire.proofs.Writing.{put_one}
use Rattle.wire.proofs.field.U8Field.put.Goals as goal

pub returns : goal.returns
returns c = put_one _ _ _ (omega arith) c.requires
