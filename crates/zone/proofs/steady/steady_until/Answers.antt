use Rattle.std.proofs.Common.{◌∙◌}
use Rattle.zone.proofs.Until.{until_early, until_late, until_found}
use Rattle.zone.proofs.steady.steady_until.Goals as goal

pub returns-then-d-lt-FIRST_DAY : goal.returns-then-d-lt-FIRST_DAY
returns-then-d-lt-FIRST_DAY c = until_early c.args.ats.now _ c.if-d-lt-FIRST_DAY.true

pub returns-then-d-gt-LAST_DAY : goal.returns-then-d-gt-LAST_DAY
returns-then-d-gt-LAST_DAY c = until_late c.args.ats.now _ c.if-d-gt-LAST_DAY.true

pub returns : goal.returns
returns c =
    c.clamp.ensures
    ∙ until_found c.args.ats.now _ _ c.requires c.if-d-lt-FIRST_DAY.false c.if-d-gt-LAST_DAY.false
    c.passed.ensures c.next_at-at.ensures
