use Rattle.std.proofs.Common.{refl, sym, ◌∙◌, arith}
use Rattle.day.proofs.Cutting.{converted, filled_first, filled_next, ended, scan_none, scan_found}
use Rattle.day.proofs.cut.rule_segment_after.Goals as goal

pub loop-i-init : goal.loop-i-init
loop-i-init c =
    filled_first _ _ _ _ refl (converted _ _ c.to_utc_at-begin.ensures c.point_time.ensures.0 c.uncertainty-published.ensures)

pub loop-i-preserved : goal.loop-i-preserved
loop-i-preserved c =
    filled_next _ _ _ _ _ _ _ c.loop-i.invariant (omega arith)
    (converted _ _ c.to_utc_at-own.ensures c.point_time-in-loop-i.ensures.0 c.uncertainty-published.ensures) c.raised.ensures

pub returns-then-ends_after : goal.returns-then-ends_after
returns-then-ends_after c =
    let w = ended _ _ _ _ _ _ _ _ c.loop-i.invariant (omega arith) c.points-n.ensures.0 c.points-n.ensures.2
    (converted _ _ {x = 0} c.midnight_after-midnight.ensures refl c.uncertainty-published.ensures) c.raised-2.ensures in (
      scan_found _ _ _ _ _ w _ _ (omega arith) c.loop-k.invariant (sym c.ends_after.ensures ∙ c.if-ends_after.true) c.point_phase.ensures.0,
      (c.args.rule.now.listed, refl),
    )

pub returns : goal.returns
returns c =
    let w = ended _ _ _ _ _ _ _ _ c.loop-i.invariant (omega arith) c.points-n.ensures.0 c.points-n.ensures.2
    (converted _ _ {x = 0} c.midnight_after-midnight.ensures refl c.uncertainty-published.ensures) c.raised-2.ensures in
    (scan_none _ _ _ _ _ w (λ j h. c.loop-k.invariant j (omega arith)), tt)
