-- What stands there, by what is looked at.
use Rattle.std.proofs.Common.{ℕ, sym, ap, ◌∙◌, arith}
use Rattle.wire.specs.declared.sign.Placed.{Placed}
use Rattle.rows.proofs.Places.{segment_room}
use Rattle.rows.proofs.Judging.{segment_by, mark_by, event_stands, no_event, end_stands, early, segment_stands, mark_stands, nothing_stands}
use Rattle.rows.proofs.judge.stands_at.Goals as goal

pub returns-then-good_event : goal.returns-then-good_event
returns-then-good_event c = event_stands _ _ _ _ _ c.if-waiting-gt0.true (sym c.good_event.ensures ∙ c.if-good_event.true)

pub returns-then-waiting-gt0 : goal.returns-then-waiting-gt0
returns-then-waiting-gt0 c = no_event _ _ _ _ _ c.if-waiting-gt0.true (sym c.good_event.ensures ∙ c.if-good_event.false)

pub returns-then-at-bytes : goal.returns-then-at-bytes
returns-then-at-bytes c = end_stands _ _ _ _ _ c.if-waiting-gt0.false c.if-at-bytes.true

pub get-requires : goal.get-requires
get-requires c =
    let segment = segment_by _ _ c.good_phase.ensures c.good_gap.ensures c.if-good_phase-good_gap.true in
    omega (arith, segment_room _ _ segment)

pub returns-then-get-least : goal.returns-then-get-least
returns-then-get-least c =
    let segment = segment_by _ _ c.good_phase.ensures c.good_gap.ensures c.if-good_phase-good_gap.true in
    early _ _ _ _ _ c.if-waiting-gt0.false c.if-at-bytes.false segment _ (ap (λ (p : Placed ℕ). p.0) c.get.ensures) c.if-get-least.true

pub returns-then-good_phase-good_gap : goal.returns-then-good_phase-good_gap
returns-then-good_phase-good_gap c =
    let segment = segment_by _ _ c.good_phase.ensures c.good_gap.ensures c.if-good_phase-good_gap.true in
    segment_stands _ _ _ _ _ c.if-waiting-gt0.false c.if-at-bytes.false segment _ (ap (λ (p : Placed ℕ). p.0) c.get.ensures)
    c.if-get-least.false

pub returns-then-marks-framed : goal.returns-then-marks-framed
returns-then-marks-framed c =
    let none = segment_by _ _ c.good_phase.ensures c.good_gap.ensures c.if-good_phase-good_gap.false in
    let mark = mark_by c.args.bytes.now c.args.at c.args.marks c.framed.ensures c.if-marks-framed.true in
    mark_stands _ _ _ _ _ c.if-waiting-gt0.false c.if-at-bytes.false none mark

pub returns : goal.returns
returns c =
    let none = segment_by _ _ c.good_phase.ensures c.good_gap.ensures c.if-good_phase-good_gap.false in
    let mark = mark_by c.args.bytes.now c.args.at c.args.marks c.framed.ensures c.if-marks-framed.false in
    nothing_stands _ _ _ _ _ c.if-waiting-gt0.false c.if-at-bytes.false none mark
