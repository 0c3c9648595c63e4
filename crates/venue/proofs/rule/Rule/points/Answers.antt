use Rattle.venue.proofs.Listing.{points_read}
use Rattle.venue.proofs.rule.Rule.points.Goals as goal

pub returns : goal.returns
returns c = points_read c.args.self.now.listed (rw c.count_place.ensures.0 at c.get.ensures)
