use Rattle.venue.proofs.Listing.{times_read}
use Rattle.venue.proofs.event.Event.times.Goals as goal

pub returns : goal.returns
returns c = times_read c.args.self.now.listed (rw c.count_place.ensures.0 at c.get.ensures)
