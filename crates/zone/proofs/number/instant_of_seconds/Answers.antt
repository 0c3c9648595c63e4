use Rattle.std.proofs.Common.{arith}
use Rattle.zone.proofs.Domain.{second_meant}
use Rattle.zone.proofs.number.instant_of_seconds.Goals as goal

pub overflow_mul-result : goal.overflow_mul-result
overflow_mul-result c = omega (arith, second_meant c.args.p.0, c.requires.1)

pub returns : goal.returns
returns c = omega (arith, second_meant c.args.p.0)
