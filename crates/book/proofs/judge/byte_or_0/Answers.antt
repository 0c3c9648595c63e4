use Rattle.std.proofs.Common.{sym, arith}
use Rattle.wire.proofs.Reading.{field_past}
use Rattle.book.proofs.judge.byte_or_0.Goals as goal

pub returns-else-p-book : goal.returns-else-p-book
returns-else-p-book c = sym (field_past _ _ (omega arith))
