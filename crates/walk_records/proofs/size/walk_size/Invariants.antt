use Rattle.day.specs.Keeping.{Keeps}
use Rattle.day.specs.Venues.{book_in, places_in}
use Rattle.std.proofs.Common.{length}
use Rattle.walk.specs.Walking.{WalkStands}
use Rattle.walk_records.proofs.Pieces.{zone, spans, left, to_go}
use Rattle.walk_records.proofs.Sizes.{bytes_of, Sizing}
use Rattle.walk_records.proofs.size.walk_size.Given as goal

abbrev pub invariant-pieces : goal.invariant-pieces
invariant-pieces l =
    record {
      stands : WalkStands (book_in l.venue) (zone l.venue) l.w l.edges;
      sized : Sizing (length (bytes_of (spans l.venue l.fn.window.start.0 l.hi.0))) l.last l.size (left l.venue l.hi.0 l.w);
      keeps : Keeps (book_in l.venue) (places_in l.venue) l.kept;
    }

-- a step takes a piece or a turn
abbrev pub decreases-pieces : goal.decreases-pieces
decreases-pieces l = to_go l.venue l.hi.0 l.w
