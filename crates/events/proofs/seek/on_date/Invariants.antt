use Rattle.std.proofs.Common.{ℕ, List, map}
use Rattle.zone.specs.Clocks.{zone_in}
use Rattle.records.specs.Records.{event_at}
use Rattle.events.specs.Happenings.{on_date}
use Rattle.events.proofs.Finding.{Passing}
use Rattle.events.proofs.seek.on_date.Given as goal

abbrev pub invariant-loop-at : goal.invariant-loop-at
invariant-loop-at l =
    Passing (λ (ps : List ℕ). on_date (zone_in l.clock) l.span.start.0 l.span.end.0 l.d.0 (map (event_at l.events.book.now) ps)) l.events.places.now 8 l.fn.s l.so_far
    l.at-index
