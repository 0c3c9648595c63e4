use Rattle.std.proofs.Common.{length, ◌-◌}
use Rattle.venue.proofs.Passing.{Passing}
use Rattle.venue.proofs.opened.Room.store.Given as goal

abbrev pub invariant-loop-at : goal.invariant-loop-at
invariant-loop-at l =
    let old = l.fn.self in
    Passing l.book old.ats l.self.ats old.offsets l.self.offsets old.rules l.self.rules old.events l.self.events l.at l.change l.rule l.event

abbrev pub decreases-loop-at : goal.decreases-loop-at
decreases-loop-at l = length l.book - l.at
