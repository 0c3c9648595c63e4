use Rattle.std.proofs.Common.{arith}
use Rattle.venue.proofs.Listing.{rule_fields}
use Rattle.venue.proofs.rule.Rule.mask.Goals as goal

pub returns : goal.returns
returns c = let e = c.get.ensures in (e, omega (arith, (rule_fields c.args.self.now.listed).mask))
