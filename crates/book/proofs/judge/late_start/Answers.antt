use Rattle.std.proofs.Common.{sym, ◌∙◌}
use Rattle.book.proofs.Judging.{late_none, late_some}
use Rattle.book.proofs.judge.late_start.Goals as goal

pub returns-then-items-eq0 : goal.returns-then-items-eq0
returns-then-items-eq0 c =
    late_none c.args.book.now c.args.at c.args.kind c.requires.0 c.requires.1 (sym c.is_rule.ensures ∙ c.if-not-is_rule.false)
    (sym c.items.ensures ∙ c.if-items-eq0.true)

pub returns : goal.returns
returns c =
    late_some c.args.book.now c.args.at c.args.kind c.requires.0 c.requires.1 (sym c.is_rule.ensures ∙ c.if-not-is_rule.false)
    (λ z. c.if-items-eq0.false (c.items.ensures ∙ z)) _ c.item_time.ensures
