-- Each byte is written behind those before it.
use Rattle.std.proofs.Common.{arith}
use Rattle.listing.proofs.Writing.{begins, fits_next, goes_on, one_more, no_more}
use Rattle.listing.proofs.text.put_word.Goals as goal

pub loop-byte-init : goal.loop-byte-init
loop-byte-init c = begins _ _ _ c.requires

pub put_byte-place-requires : goal.put_byte-place-requires
put_byte-place-requires c = fits_next _ (one_more c.args.word.now _ (omega arith) c.loop-byte.invariant)

pub loop-byte-preserved : goal.loop-byte-preserved
loop-byte-preserved c = goes_on (one_more c.args.word.now _ (omega arith) c.loop-byte.invariant) c.put_byte-place.ensures

pub returns : goal.returns
returns c = no_more c.args.word.now _ (omega arith) c.loop-byte.invariant
