use Rattle.std.proofs.Common.{ap, ◌∙◌, min}
use Rattle.zone.specs.declared.Boundary.{Boundary}
use borrow.Author.Tests.{lt-ltb, le-ltb}
use Rattle.walk.proofs.step.onward.Goals as goal

pub returns-then-began-cursor : goal.returns-then-began-cursor
returns-then-began-cursor c = rw (lt-ltb _ _ c.if-began-cursor.true)

pub returns : goal.returns
returns c =
    rw (le-ltb _ _ c.if-began-cursor.false)
    (c.min.ensures ∙ ap (min c.args.hi.0) (ap (λ (b : Boundary). b.at.0) c.midnight_after-midnight.ensures))
