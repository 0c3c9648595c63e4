-- So far the totals up to the index are written.
use Rattle.std.proofs.Common.{◌*◌, take}
use Rattle.wire.specs.Fields.{Put}
use Rattle.answer.specs.Meaning.{totals_bytes}
use Rattle.answer.proofs.put.put_each.Given as goal

abbrev pub invariant-loop-total : goal.invariant-loop-total
invariant-loop-total l = Put l.fn.out l.at (totals_bytes (take l.total-index l.totals)) (8 * l.total-index) l.out l.place
