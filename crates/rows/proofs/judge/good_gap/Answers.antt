-- A gap is framed, its mark of coverage is 0 or 1, and it starts before it ends.
use Rattle.std.proofs.Common.{ℕ, sym, ap, ◌∙◌}
use Rattle.wire.specs.declared.sign.Placed.{Placed}
use Rattle.rows.proofs.Judging.{gap_unframed, gap_by}
use Rattle.rows.proofs.judge.good_gap.Goals as goal

pub returns-then-not-framed : goal.returns-then-not-framed
returns-then-not-framed c = gap_unframed c.args.bytes.now c.args.at (sym c.framed.ensures ∙ c.if-not-framed.true)

pub returns : goal.returns
returns c =
    gap_by c.args.bytes.now c.args.at (sym c.framed.ensures ∙ c.if-not-framed.false) _ _ _ c.get-present.ensures
    (ap (λ (p : Placed ℕ). p.0) c.get-start.ensures) (ap (λ (p : Placed ℕ). p.0) c.get-end.ensures)
