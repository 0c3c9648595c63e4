use Rattle.std.proofs.Common.{refl, ◌∙◌}
use Rattle.plain.proofs.Looking.{midnight_by, left_first, left_none, left_stops, left_ends, left_goes}
use Rattle.plain.proofs.window.reaches.Goals as goal

pub returns-then-next-date : goal.returns-then-next-date
returns-then-next-date c =
    left_first _ _ _ _ _ refl
    (c.loop-date.invariant.same ∙ left_stops _ _ _ _ _ _ c.loop-date-test.true c.plain_until-next.ensures c.if-next-date.true)

pub returns-then-end-opening : goal.returns-then-end-opening
returns-then-end-opening c =
    left_first _ _ _ _ _ refl
    (c.loop-date.invariant.same
    ∙ left_ends _ _ _ _ _ _ c.loop-date-test.true c.plain_until-next.ensures c.if-next-date.false (midnight_by _ _ c.to_utc_at-opening.ensures)
    c.if-end-opening.true)

pub loop-date-preserved : goal.loop-date-preserved
loop-date-preserved c =
    record {
      within = c.plain_until-next.ensures.most;
      same =
          c.loop-date.invariant.same
          ∙ left_goes _ _ _ _ _ _ c.loop-date-test.true c.plain_until-next.ensures c.if-next-date.false (midnight_by _ _ c.to_utc_at-opening.ensures)
          c.if-end-opening.false;
    }

pub returns : goal.returns
returns c = left_first _ _ _ _ _ refl (c.loop-date.invariant.same ∙ left_none _ _ _ _ _ c.loop-date-test.false)
