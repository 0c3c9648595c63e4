-- What the private functions answer. Assumes nothing.
use Rattle.std.specs.Prelude.{List}
use Rattle.records.specs.Records.{Record}
use Rattle.records.specs.Book.{many}
use Rattle.records.specs.Layout.{transition_kind, rule_kind, event_kind}
use Rattle.venue.specs.declared.opened.Counts.{Counts}

abbrev pub counts_of : List Record → Counts
counts_of rs = record { transitions = many transition_kind rs; rules = many rule_kind rs; events = many event_kind rs }
