-- The rules and events that are meant by where they stand. Assumes nothing.
use Rattle.std.specs.Prelude.{List, map}
use Rattle.records.specs.Records as Records
use Rattle.records.specs.Records.{rule_at, event_at}
use Rattle.venue.specs.declared.rule.Rule.{Rule}
use Rattle.venue.specs.declared.rule.Rules.{Rules}
use Rattle.venue.specs.declared.event.Event.{Event}
use Rattle.venue.specs.declared.event.Events.{Events}

abbrev pub rule_in : Rule → Records.Rule
rule_in r = rule_at r.book.now r.at

abbrev pub rules_in : Rules → List Records.Rule
rules_in rs = map (rule_at rs.book.now) rs.places.now

abbrev pub event_in : Event → Records.Event
event_in e = event_at e.book.now e.at

abbrev pub events_in : Events → List Records.Event
events_in es = map (event_at es.book.now) es.places.now
