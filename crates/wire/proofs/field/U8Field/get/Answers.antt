use Rattle.std.proofs.Common.{sym}
use Rattle.wire.proofs.Reading.{field_one}
use Rattle.wire.proofs.field.U8Field.get.Goals as goal

pub returns : goal.returns
returns c = sym (field_one _ _)
