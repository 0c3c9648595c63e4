use Rattle.records.specs.Records.{event_at}
use Rattle.events.specs.Keeping.{kept_times}
use Rattle.events.proofs.Keeping.{Keeping}
use Rattle.events.proofs.steady.on_steady_times.Given as goal

abbrev pub invariant-loop-i : goal.invariant-loop-i
invariant-loop-i l =
    Keeping (kept_times l.span.start.0 l.span.end.0 l.midnight.0 l.event.at) (event_at l.event.book.now l.event.at).times 1 l.fn.when l.fn.which l.n l.when l.which l.count l.i
