use Rattle.query.proofs.Instants.{too_early, too_late, in_range}
use Rattle.query.proofs.judge.asked_at.Goals as goal

pub returns-then-p-lt-INSTANTS_LOW : goal.returns-then-p-lt-INSTANTS_LOW
returns-then-p-lt-INSTANTS_LOW c = too_early c.args.at c.ranges.at _ c.from-p.ensures c.if-p-lt-INSTANTS_LOW.true

pub returns-then-p-gt-INSTANTS_HIGH : goal.returns-then-p-gt-INSTANTS_HIGH
returns-then-p-gt-INSTANTS_HIGH c = too_late c.args.at c.ranges.at _ c.from-p.ensures c.if-p-gt-INSTANTS_HIGH.true

pub returns : goal.returns
returns c = in_range c.args.at c.ranges.at _ c.from-p.ensures c.if-p-lt-INSTANTS_LOW.false c.if-p-gt-INSTANTS_HIGH.false c.instant_of.ensures
