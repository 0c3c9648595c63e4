-- The digits stand behind the space.
use Rattle.listing.proofs.Writing.{both}
use Rattle.listing.proofs.text.put_number.Goals as goal

pub returns : goal.returns
returns c = both c.requires c.put_byte-next.ensures c.put_decimal.ensures
