-- Each event's line is written behind those before it, and one event less is left.
use Rattle.std.proofs.Common.{◌≡◌, ◌+◌, ◌-◌, arith}
use Rattle.listing.proofs.Reading.{event_one, event_none, same_event, event_put}
use Rattle.listing.proofs.Writing.{begins, fits_next, goes_on}
use Rattle.listing.proofs.lines.put_events.Goals as goal

pub loop-init : goal.loop-init
loop-init c = let all : c.args.n - 0 ≡ c.args.n = omega arith in rw all (c.requires.0, begins _ _ _ c.requires.1)

pub put_event-place-requires : goal.put_event-place-requires
put_event-place-requires c =
    let read = c.read_event-e.ensures in
    rw (same_event _ _ _ _ read.0 read.1) (fits_next _ (event_one _ _ _ (omega arith) c.loop.invariant.1))

pub loop-preserved : goal.loop-preserved
loop-preserved c =
    let read = c.read_event-e.ensures in
    let left : c.args.n - (c.loop.counter + 1) ≡ c.args.n - c.loop.counter - 1 = omega arith in
    rw (left, read.2) (
      omega (arith, c.loop.invariant.0),
      goes_on (event_one _ _ _ (omega arith) c.loop.invariant.1) (event_put _ _ _ _ read.0 read.1 c.put_event-place.ensures),
    )

pub returns : goal.returns
returns c = event_none _ _ _ (omega arith) c.loop.invariant.1
