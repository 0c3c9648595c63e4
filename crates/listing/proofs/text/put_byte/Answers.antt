-- A byte is written as its one byte.
use Rattle.std.proofs.Common.{arith}
use Rattle.listing.proofs.Writing.{one_byte}
use Rattle.listing.proofs.text.put_byte.Goals as goal

pub returns : goal.returns
returns c = rw (one_byte c.args.b (omega arith)) at c.put.ensures
