use Rattle.std.proofs.Common.{refl, sym, ap, ◌∙◌, ℕ, not, ◌||◌, leb, eqb, arith}
use Rattle.day.specs.Venues.{dates_in}
use Rattle.walk.proofs.Rest.{leads, more, ends, goes}
use Rattle.walk.proofs.Once.{begun_at}
use Rattle.walk.proofs.step.next_turn.Goals as goal

pub returns-then-next-w : goal.returns-then-next-w
returns-then-next-w c =
    let w = c.args.w in
    let venue = c.args.venue.now in
    let next = c.onward-next.ensures in
    let tested = ap (λ (n : ℕ). not (leb n w.began.0 || eqb w.turns 0)) (sym next) in (
      leads _ _ _ _ _ c.requires.1 ∙ ends (dates_in venue) _ w.turns _ _ _ _ next c.if-next-w.true,
      c.requires.0,
      (tested ∙ ap not c.if-next-w.true, refl, refl),
    )

pub returns : goal.returns
returns c =
    let w = c.args.w in
    let venue = c.args.venue.now in
    let next = c.onward-next.ensures in
    let further = more (dates_in venue) _ w.turns _ _ _ _ next c.if-next-w.false in
    let tested = ap (λ (n : ℕ). not (leb n w.began.0 || eqb w.turns 0)) (sym next) in
    let begun = c.begin.ensures.0 in (
      record {
        same =
            leads _ _ _ _ _ c.requires.1 ∙ goes (dates_in venue) _ w.turns _ _ _ _ next c.if-next-w.false ∙ sym (begun.all _);
        stands = begun.stands;
        fewer = omega (arith, further, c.begin.ensures.2.left);
      },
      c.begin.ensures.1,
      (tested ∙ ap not c.if-next-w.false, begun_at next c.begin.ensures.2),
    )
