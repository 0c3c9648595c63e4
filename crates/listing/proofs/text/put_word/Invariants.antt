-- The bytes before the index are written, and those from it on are left.
use Rattle.std.proofs.Common.{drop}
use Rattle.listing.proofs.Writing.{Going}
use Rattle.listing.proofs.text.put_word.Given as goal

abbrev pub invariant-loop-byte : goal.invariant-loop-byte
invariant-loop-byte l = Going l.fn.out l.at l.word (drop l.byte-index l.word) l.out l.place
