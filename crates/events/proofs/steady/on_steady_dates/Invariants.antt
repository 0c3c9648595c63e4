use Rattle.events.proofs.Keeping.{Dating}
use Rattle.events.proofs.steady.on_steady_dates.Given as goal

abbrev pub invariant-loop-date : goal.invariant-loop-date
invariant-loop-date l =
    Dating l.events.book.now l.events.places.now l.offset l.span.start.0 l.span.end.0 l.initial.date l.date-end l.fn.when l.fn.which l.when l.which l.n l.date
