use Rattle.std.proofs.Common.{refl}
use Rattle.venue.proofs.Fronts.{known, covers, ats_front, offsets_front, rules_front, events_front, most_transitions, most_rules, most_events, front_valid, front_rules, front_events, front_few}
use Rattle.venue.proofs.opened.Room.venue.Goals as goal

-- no count is more than its array's length
pub shared_ref_as_front-ats : goal.shared_ref_as_front-ats
shared_ref_as_front-ats c = most_transitions (known c.requires)

pub shared_ref_as_front-rules : goal.shared_ref_as_front-rules
shared_ref_as_front-rules c = most_rules (known c.requires)

pub shared_ref_as_front-events : goal.shared_ref_as_front-events
shared_ref_as_front-events c = most_events (known c.requires)

-- the clock, the rules, the events and the venue are what their types promise
pub invariant_of-result : goal.invariant_of-result
invariant_of-result c = record { valid = front_valid c.requires (known c.requires) }

pub invariant_of-result-2 : goal.invariant_of-result-2
invariant_of-result-2 c = record { listed = front_rules c.requires (known c.requires) }

pub invariant_of-result-3 : goal.invariant_of-result-3
invariant_of-result-3 c = record { listed = front_events c.requires (known c.requires); few = front_few c.requires (known c.requires) }

pub invariant_of-result-4 : goal.invariant_of-result-4
invariant_of-result-4 c = record { covers = covers (known c.requires) }

-- and the fronts hold what was stored
pub returns : goal.returns
returns c =
    record {
      coverage = refl;
      first = refl;
      ats = ats_front c.requires (known c.requires);
      offsets = offsets_front c.requires (known c.requires);
      rules_in = refl;
      rules = rules_front c.requires (known c.requires);
      events_in = refl;
      events = events_front c.requires (known c.requires);
    }
