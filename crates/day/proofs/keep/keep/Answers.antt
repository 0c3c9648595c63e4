use Rattle.std.proofs.Common.{ℕ, ◌+◌, ◌-◌, ◌∷◌, ap, ◌∙◌, arith}
use Rattle.wire.specs.Fields.{wrote}
use Rattle.day.specs.Narrowing.{near_of}
use Rattle.day.specs.Keeping.{stretch}
use Rattle.day.proofs.Narrowing.{near_few}
use Rattle.day.proofs.Keeping.{stored}
use Rattle.day.proofs.keep.keep.Goals as goal

pub overflow_cast-kept : goal.overflow_cast-kept
overflow_cast-kept c =
    let rules = c.args.rules.now in let d = c.args.d.0 in
    omega (arith, near_few rules.book.now d (d + stretch - 1) rules.places.now, c.near-n.ensures.0)

pub returns : goal.returns
returns c =
    let rules = c.args.rules.now in let d = c.args.d.0 in let kept = c.args.kept.now in
    let near = near_of rules.book.now rules.places.now d (d + stretch - 1) in
    let few = near_few rules.book.now d (d + stretch - 1) rules.places.now in
    stored kept _ near d (d + stretch) _ (omega (arith, few)) c.near-n.ensures.1
    ∙ ap (λ (n : ℕ). wrote kept 0 (d ∷ (d + stretch) ∷ n ∷ near)) c.near-n.ensures.0
