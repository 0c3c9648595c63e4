use Rattle.span_records.proofs.Kept.{Turning}
use Rattle.span_records.proofs.put_kept.Given as goal

abbrev pub invariant-loop : goal.invariant-loop
invariant-loop l = Turning l.book l.when l.which l.n l.fn.out l.at l.out l.place l.next l.counter
