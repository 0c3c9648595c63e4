use Rattle.std.proofs.Common.{arith, sym, ◌∙◌}
use Rattle.plain.proofs.Looking.{look_plain, look_not}
use Rattle.plain.proofs.Steady.{until_run}
use Rattle.plain.proofs.window.plain_until.Goals as goal

pub returns-then-last-until : goal.returns-then-last-until
returns-then-last-until c = until_run c.args.clock.now c.args.rules.now _ _ _ c.requires (omega arith) (omega arith)

pub returns-then-d-until : goal.returns-then-d-until
returns-then-d-until c = until_run c.args.clock.now c.args.rules.now _ _ _ c.if-d-until.true c.if-last-until.false (omega arith)

pub returns-then-is_plain_date : goal.returns-then-is_plain_date
returns-then-is_plain_date c = look_plain _ _ _ _ c.requires (sym c.is_plain_date.ensures ∙ c.if-is_plain_date.true)

pub returns : goal.returns
returns c = look_not _ _ _ _ c.requires (sym c.is_plain_date.ensures ∙ c.if-is_plain_date.false)
