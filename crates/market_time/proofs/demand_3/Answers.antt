use native.Mathlib.Omega.{arith}
use Rattle.market_time.proofs.Demand.{demand}
use Rattle.market_time.proofs.demand_3.Goals as goal

pub returns : goal.returns
returns c = (c.check.ensures, demand c.args.book.now (λ k. omega (arith, c.type_inv.book k)))
