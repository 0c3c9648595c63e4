use Rattle.std.proofs.Common.{◌%◌, arith}
use borrow.Author.Tests.{eq-eqb, ne_eqb}
use Rattle.calendar.specs.Gregorian.{leap}
use Rattle.calendar.proofs.is_leap.Goals as goal

pub returns-then-year-ne0 : goal.returns-then-year-ne0
unfolding leap
returns-then-year-ne0 c =
    let y = c.args.year in
    simp (ne_eqb (y % 4) 0 c.if-year-ne0.true, ne_eqb (y % 400) 0 (λ e. omega arith))

pub returns-then-year-ne0-2 : goal.returns-then-year-ne0-2
unfolding leap
returns-then-year-ne0-2 c =
    let y = c.args.year in
    simp (eq-eqb (y % 4) 0 c.if-year-ne0.false, ne_eqb (y % 100) 0 c.if-year-ne0-2.true)

pub returns : goal.returns
unfolding leap
returns c =
    let y = c.args.year in
    simp (eq-eqb (y % 4) 0 c.if-year-ne0.false, eq-eqb (y % 100) 0 c.if-year-ne0-2.false)
