use Rattle.std.proofs.Common.{◌≡◌}
use Rattle.day.specs.Keeping.{Keeps}
use Rattle.day.specs.Venues.{book_in, places_in}
use Rattle.walk.specs.Walking.{WalkStands}
use Rattle.zone.specs.Clocks.{zone_in}
use Rattle.tally.proofs.Passing.{to_go, Walked}
use Rattle.tally.proofs.pass.count_walk.Given as goal

abbrev pub invariant-pieces : goal.invariant-pieces
invariant-pieces l =
    record {
      stands : WalkStands (book_in l.venue) (zone_in l.venue.clock) l.w l.edges;
      walked :
          Walked l.venue l.fn.over.start.0 l.hi.0 l.fn.pages.window.start.0 l.fn.pages.window.end.0
          l.fn.out l.fn.pages.open l.fn.pages.row l.fn.pages.whole l.w
          l.out l.pages.open l.pages.row l.pages.whole;
      keeps : Keeps (book_in l.venue) (places_in l.venue) l.kept;
      window : l.pages.window ≡ l.fn.pages.window;
    }

-- a step takes a piece or a turn
abbrev pub decreases-pieces : goal.decreases-pieces
decreases-pieces l = to_go l.venue l.fn.over.start.0 l.hi.0 l.w
