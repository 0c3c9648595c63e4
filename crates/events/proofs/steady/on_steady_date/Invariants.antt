use Rattle.events.specs.Keeping.{kept_date}
use Rattle.events.proofs.Keeping.{Keeping}
use Rattle.events.proofs.steady.on_steady_date.Given as goal

abbrev pub invariant-loop-at : goal.invariant-loop-at
invariant-loop-at l =
    Keeping (kept_date l.events.book.now l.span.start.0 l.span.end.0 l.d.0 l.midnight.0) l.events.places.now 8 l.fn.when l.fn.which l.n l.when l.which l.count l.at-index
