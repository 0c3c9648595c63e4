use Rattle.std.proofs.Common.{arith, sym, ◌∙◌}
use Rattle.venue.specs.Values.{rule_in}
use Rattle.plain.proofs.Looking.{taken_by, rises_stops, rises_goes, rises_end}
use Rattle.plain.proofs.date.rises.Goals as goal

pub returns-then-own-before : goal.returns-then-own-before
returns-then-own-before c =
    let found = taken_by _ _ c.to_utc_at-own.ensures c.point_time.ensures.0 in
    sym
    (c.loop-i.invariant
    ∙ rises_stops _ _ _ c.loop-i.i (rule_in c.args.rule.now).points (omega (arith, c.points-i-end.ensures.0)) found c.if-own-before.true)

pub loop-i-preserved : goal.loop-i-preserved
loop-i-preserved c =
    let found = taken_by _ _ c.to_utc_at-own.ensures c.point_time.ensures.0 in
    c.loop-i.invariant
    ∙ rises_goes _ _ _ c.loop-i.i (rule_in c.args.rule.now).points (omega (arith, c.points-i-end.ensures.0)) found c.if-own-before.false

pub returns : goal.returns
returns c =
    sym
    (c.loop-i.invariant
    ∙ rises_end _ _ _ c.loop-i.i (rule_in c.args.rule.now).points (omega (arith, c.points-i-end.ensures.0)) (omega (arith, c.points-i-end.ensures.0)))
