use Rattle.std.proofs.Common.{arith}
use Rattle.zone.proofs.Domain.{instant_meant}
use Rattle.zone.proofs.number.instant_of.Goals as goal

pub returns-then-placed-lt-INSTANT_ZERO : goal.returns-then-placed-lt-INSTANT_ZERO
returns-then-placed-lt-INSTANT_ZERO c = omega (arith, instant_meant c.args.p.0)

pub returns : goal.returns
returns c = omega (arith, instant_meant c.args.p.0)
