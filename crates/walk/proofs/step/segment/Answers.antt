use Rattle.std.proofs.Common.{◌+◌, ◌≤◌, ◌<◌, length, refl, ◌∙◌, arith}
use Rattle.venue.proofs.Laws.{good_rule}
use Rattle.walk.specs.Walking.{rule_of}
use Rattle.walk.proofs.Pieces.{by_point, by_next, by_midnight, whole_span}
use Rattle.walk.proofs.step.segment.Goals as goal
use Rattle.walk.proofs.step.segment.Goals.{then-k-points, else-k-points}

pub overflow_add-k : goal.overflow_add-k
overflow_add-k c = omega (arith, c.requires.point, (good_rule _ _ c.requires.listed).few)

pub returns : goal.returns
returns c =
    let book = c.args.book.now in
    let q = c.args.q in
    let published = c.uncertainty-published.ensures in
    let points = c.points.ensures.0 in (
      whole_span _ _ q _ _ _ (by_point _ _ q _ _ _ published c.point_time.ensures.0 c.to_utc_at-own.ensures)
          (elim c.if-k-points.branch [
            | then-k-points w ↦
                let follows : q.point + 1 < length (rule_of book q).points = omega (arith, w.if-k-points.true, points) in
                by_next book _ q _ _ _ published follows w.point_time-then-k-points.ensures.0 (w.next-is ∙ w.to_utc_at-next.ensures)
            | else-k-points w ↦
                let last : length (rule_of book q).points ≤ q.point + 1 = omega (arith, w.if-k-points.false, points) in
                by_midnight book _ q _ _ published last (w.next-is ∙ w.midnight_after-next.ensures)
          ])
          c.point_phase.ensures.0,
      refl,
    )
