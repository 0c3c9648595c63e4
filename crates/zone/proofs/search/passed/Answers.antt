use Rattle.std.proofs.Common.{arith}
use Rattle.zone.proofs.Passing.{between_all}
use Rattle.zone.proofs.search.passed.Goals as goal

pub bisected-requires : goal.bisected-requires
bisected-requires c = between_all c.args.ats.now c.args.t (omega (arith, c.ranges.t))
