-- A phase is framed, its fields are of their lists, and it starts before it ends.
use Rattle.std.proofs.Common.{ℕ, sym, ap, ◌∙◌}
use Rattle.wire.specs.declared.sign.Placed.{Placed}
use Rattle.rows.proofs.Judging.{phase_unframed, phase_by}
use Rattle.rows.proofs.judge.good_phase.Goals as goal

pub returns-then-not-framed : goal.returns-then-not-framed
returns-then-not-framed c = phase_unframed c.args.bytes.now c.args.at (sym c.framed.ensures ∙ c.if-not-framed.true)

pub returns : goal.returns
returns c =
    phase_by c.args.bytes.now c.args.at (sym c.framed.ensures ∙ c.if-not-framed.false) _ _ _ _ _ _ _
    c.get-phase.ensures c.get-code.ensures c.get-first.ensures c.get-last.ensures c.get-whole.ensures
    (ap (λ (p : Placed ℕ). p.0) c.get-start.ensures) (ap (λ (p : Placed ℕ). p.0) c.get-end.ensures)
