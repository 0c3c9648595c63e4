use Rattle.day.proofs.Choosing.{choose_one, choose_none, chosen}
use Rattle.day.proofs.govern.governing_rule.Goals as goal
use Rattle.day.proofs.govern.governing_rule.Goals.{then-takes, else-takes}

pub loop-at-preserved : goal.loop-at-preserved
loop-at-preserved c =
    elim c.if-takes.branch [
      | then-takes w ↦ choose_one c.loop-at.invariant c.loop-at-test.true c.args.rules.now.listed c.takes.ensures w.if-takes.true w.best-is
      | else-takes w ↦ choose_none c.loop-at.invariant c.loop-at-test.true c.takes.ensures w.if-takes.false w.best-is
    ]

pub returns : goal.returns
returns c = chosen c.loop-at.invariant c.loop-at-test.false
