-- So many events are left: they lie in the answer, and their lines are left of the text.
use Rattle.std.proofs.Common.{◌-◌, ◌*◌}
use Rattle.wire.specs.Fields.{Inside}
use Rattle.answer.specs.Forms.{event_size}
use Rattle.rows.specs.Rows.{events_from}
use Rattle.listing.specs.Listing.{event_lines}
use Rattle.listing.proofs.Writing.{Going}
use Rattle.listing.proofs.lines.put_events.Given as goal

abbrev pub invariant-loop : goal.invariant-loop
invariant-loop l =
    Inside l.from (event_size * (l.n - l.counter)) l.answer
    × Going l.fn.out l.at (event_lines (events_from l.answer l.first l.n)) (event_lines (events_from l.answer l.from (l.n - l.counter))) l.out l.place
