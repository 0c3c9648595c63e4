-- The events' lines stand behind the segment's.
use Rattle.rows.specs.Rows.{events_from}
use Rattle.listing.specs.Listing.{event_lines}
use Rattle.listing.proofs.Writing.{front, rest, both}
use Rattle.listing.proofs.lines.put_segment.Goals as goal

pub put_shown-next-requires : goal.put_shown-next-requires
put_shown-next-requires c = front (event_lines (events_from c.args.answer.now c.args.g.behind c.args.g.events)) c.requires.1

pub put_events-requires : goal.put_events-requires
put_events-requires c = (c.requires.0, rest c.requires.1 c.put_shown-next.ensures)

pub returns : goal.returns
returns c = both c.requires.1 c.put_shown-next.ensures c.put_events.ensures
