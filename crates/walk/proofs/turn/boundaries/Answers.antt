use Rattle.std.proofs.Common.{ℕ, ap, ◌∙◌, arith}
use Rattle.zone.specs.Clocks.{zone_in}
use Rattle.zone.specs.Answers.{boundary_at}
use Rattle.zone.specs.declared.Boundary.{Boundary}
use Rattle.zone.specs.declared.Uncertainty.TheVariants.{Exact}
use Rattle.venue.specs.Values.{rule_in}
use Rattle.walk.proofs.Filling.{filling_next, filled, clear_next, clear_all}
use Rattle.walk.proofs.turn.boundaries.Goals as goal

pub loop-i-preserved : goal.loop-i-preserved
loop-i-preserved c =
    let z = zone_in c.args.clock.now in
    let r = rule_in c.args.rule.now in
    let d = c.args.d.0 in
    let points = c.points-n.ensures in
    let own = c.to_utc_at-own.ensures ∙ ap (λ (x : ℕ). boundary_at z d x Exact) c.point_time.ensures.0 in
    record {
      filling =
          filling_next z r d _ _ _ _ _ c.loop-i.invariant.filling (omega (arith, points)) (omega (arith, points)) _ (omega (arith, points.0))
          c.max-before.ensures (ap (λ (b : Boundary). b.at.0) own);
      clear_to =
          clear_next z r d _ _ _ c.loop-i.invariant.clear_to _ (ap (λ (b : Boundary). b.uncertainty) own) c.is_exact-clear.ensures;
    }

pub returns : goal.returns
returns c =
    let z = zone_in c.args.clock.now in
    let r = rule_in c.args.rule.now in
    let d = c.args.d.0 in
    let points = c.points-n.ensures in
    let before = c.loop-i.invariant in
    let last = c.midnight_after-midnight.ensures in (
      filled z r d _ _ _ _ _ before.filling (omega (arith, points)) (omega (arith, points)) _ _ points.0 c.loop-i-test.false c.max.ensures
          (ap (λ (b : Boundary). b.at.0) last),
      clear_all z r d _ _ _ before.clear_to (omega (arith, points.0, before.filling.most)) _ (ap (λ (b : Boundary). b.uncertainty) last)
          c.is_exact.ensures,
    )
