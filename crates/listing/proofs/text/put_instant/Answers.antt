-- The instant stands behind the space.
use Rattle.listing.proofs.Writing.{both}
use Rattle.listing.proofs.text.put_instant.Goals as goal

pub returns : goal.returns
returns c = both c.requires c.put_byte-next.ensures c.put_signed.ensures
