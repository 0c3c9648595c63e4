use Rattle.std.proofs.Common.{arith}
use Rattle.venue.specs.Values.{rule_in}
use Rattle.walk.proofs.Shifting.{shifting_next, shifted}
use Rattle.walk.proofs.steady.steady_boundaries.Goals as goal

pub loop-i-preserved : goal.loop-i-preserved
loop-i-preserved c =
    let points = c.points-n.ensures in
    shifting_next (rule_in c.args.rule.now) c.args.midnight.0 _ _ _ _ _ c.loop-i.invariant (omega (arith, points)) (omega (arith, points))
    _ (omega (arith, points.0)) c.point_time.ensures c.max-before.ensures

pub returns : goal.returns
returns c =
    let points = c.points-n.ensures in
    shifted (rule_in c.args.rule.now) c.args.midnight.0 _ _ _ _ _ c.loop-i.invariant (omega (arith, points)) (omega (arith, points)) _ points.0
    c.loop-i-test.false c.max.ensures
