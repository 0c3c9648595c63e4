use Rattle.day.proofs.Choosing.{Choosing}
use Rattle.day.proofs.govern.governing_rule.Given as goal

abbrev pub invariant-loop-at : goal.invariant-loop-at
invariant-loop-at l = Choosing l.rules.book.now l.rules.places.now l.d.0 l.best l.at-index
