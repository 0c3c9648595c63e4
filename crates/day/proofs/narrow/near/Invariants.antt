use Rattle.day.proofs.Narrowing.{Narrowing}
use Rattle.day.proofs.narrow.near.Given as goal

abbrev pub invariant-loop-at : goal.invariant-loop-at
invariant-loop-at l = Narrowing l.rules.book.now l.rules.places.now l.from.0 l.to.0 l.initial.found l.found l.n l.at-index
