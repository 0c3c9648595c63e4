-- An event is framed, and its uncertainty's tag is one of the list.
use Rattle.std.proofs.Common.{sym, ◌∙◌}
use Rattle.rows.proofs.Judging.{event_unframed, event_by}
use Rattle.rows.proofs.judge.good_event.Goals as goal

pub returns-then-not-framed : goal.returns-then-not-framed
returns-then-not-framed c = event_unframed c.args.bytes.now c.args.at (sym c.framed.ensures ∙ c.if-not-framed.true)

pub returns : goal.returns
returns c = event_by c.args.bytes.now c.args.at (sym c.framed.ensures ∙ c.if-not-framed.false) _ c.get.ensures
