-- What both kinds have lies in the bytes, and a phase's own fields do where a phase stands.
use Rattle.std.proofs.Common.{ℕ, sym, ap, ◌∙◌, arith}
use Rattle.wire.specs.declared.sign.Placed.{Placed}
use Rattle.rows.proofs.Places.{segment_room, phase_room}
use Rattle.rows.proofs.Judging.{phase_made, gap_made}
use Rattle.rows.proofs.reading.read_segment.Goals as goal

pub overflow_add-at : goal.overflow_add-at
overflow_add-at c = omega (arith, segment_room _ _ c.requires)

pub get-from-requires : goal.get-from-requires
get-from-requires c = omega (arith, segment_room _ _ c.requires)

pub overflow_add-at-2 : goal.overflow_add-at-2
overflow_add-at-2 c = omega (arith, segment_room _ _ c.requires)

pub get-to-requires : goal.get-to-requires
get-to-requires c = omega (arith, segment_room _ _ c.requires)

pub overflow_add-at-3 : goal.overflow_add-at-3
overflow_add-at-3 c = omega (arith, segment_room _ _ c.requires)

pub get-requires : goal.get-requires
get-requires c = omega (arith, segment_room _ _ c.requires)

pub overflow_add-at-then-get-eq-PHASE_KIND : goal.overflow_add-at-then-get-eq-PHASE_KIND
overflow_add-at-then-get-eq-PHASE_KIND c = omega (arith, segment_room _ _ c.requires)

pub get-phase-requires : goal.get-phase-requires
get-phase-requires c = omega (arith, segment_room _ _ c.requires)

pub overflow_add-at-then-get-eq-PHASE_KIND-2 : goal.overflow_add-at-then-get-eq-PHASE_KIND-2
overflow_add-at-then-get-eq-PHASE_KIND-2 c = omega (arith, segment_room _ _ c.requires)

pub get-evidence-requires : goal.get-evidence-requires
get-evidence-requires c = omega (arith, segment_room _ _ c.requires)

pub overflow_add-at-then-get-eq-PHASE_KIND-3 : goal.overflow_add-at-then-get-eq-PHASE_KIND-3
overflow_add-at-then-get-eq-PHASE_KIND-3 c =
    omega (arith, phase_room _ _ c.requires (sym c.get.ensures ∙ c.if-get-eq-PHASE_KIND.true))

pub get-requires-then-get-eq-PHASE_KIND : goal.get-requires-then-get-eq-PHASE_KIND
get-requires-then-get-eq-PHASE_KIND c =
    omega (arith, phase_room _ _ c.requires (sym c.get.ensures ∙ c.if-get-eq-PHASE_KIND.true))

pub overflow_add-result : goal.overflow_add-result
overflow_add-result c = omega (arith, phase_room _ _ c.requires (sym c.get.ensures ∙ c.if-get-eq-PHASE_KIND.true))

pub overflow_add-result-2 : goal.overflow_add-result-2
overflow_add-result-2 c = omega (arith, segment_room _ _ c.requires)

pub returns-then-get-eq-PHASE_KIND : goal.returns-then-get-eq-PHASE_KIND
returns-then-get-eq-PHASE_KIND c =
    phase_made _ _ _ _ (ap (λ (p : Placed ℕ). p.0) c.get-from.ensures) (ap (λ (p : Placed ℕ). p.0) c.get-to.ensures)
    (sym c.get.ensures ∙ c.if-get-eq-PHASE_KIND.true) _ _ _
    c.get-phase.ensures c.get-evidence.ensures c.get-then-get-eq-PHASE_KIND.ensures

pub returns : goal.returns
returns c =
    gap_made _ _ _ _ (ap (λ (p : Placed ℕ). p.0) c.get-from.ensures) (ap (λ (p : Placed ℕ). p.0) c.get-to.ensures)
    (λ e. c.if-get-eq-PHASE_KIND.false (c.get.ensures ∙ e))
